-- A refusal's words: how long they are, and that they are those of the refusal that `judge` answers. Assumes nothing.
use mathlib.Core.Path.{◌≡◌}
use mathlib.Core.List.{List}
use Prim.Native.Nat.{ℕ, ◌+◌, ◌≤◌, ◌<◌, ◌^◌}
use native.Mathlib.Omega.{arith}
use lib.ListN.{length, length-append}
use Rattle.statement_writer.proofs.Puts.{put-within}
use Rattle.desk.specs.Refusals.{refusal_words, refusal_room}
use Rattle.desk.proofs.Rooms.{refusal-length, refusal-most}
use Rattle.report.specs.Words.{words_line, RefusalWorded, Words}
use Rattle.report.specs.declared.Worded.{Worded}
use Rattle.report.specs.declared.Worded.TheVariants.{Written}

pub words-length : (n line : ℕ) → length (words_line n line) ≡ length (refusal_words n line) + 1
unfolding words_line
words-length n line = simp length-append

-- numbers of a byte and lines of 32 bits
pub words-most : (n line m : ℕ) → n < 2 ^ 8 → line < 2 ^ 32 → refusal_room ≤ m → length (words_line n line) ≤ m
words-most n line m h l r = omega (arith, words-length n line, refusal-length n line, refusal-most n line h l)

-- the words end within the lent bytes
pub words-within : (t u o q : List ℕ) {r : Worded} {n : ℕ} → r ≡ Written n → Words t u o q r → n ≤ length q
words-within t u o q {n = n} is h = let p : RefusalWorded t u o q n = rw is at h in put-within p.written p.fits
