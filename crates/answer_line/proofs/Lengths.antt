-- How long a line can be. Assumes nothing.
use mathlib.Core.Path.{refl}
use mathlib.Core.List.{List, ◌∷◌}
use Prim.Native.Nat.{ℕ, ◌^◌, ◌≤◌, ◌<◌}
use native.Mathlib.Omega.{arith}
use lib.ListN.{length, get_or}
use Rattle.language.specs.Spelling.{digits, spell_constant}
use Rattle.language.specs.Kept.{kept_count}
use Rattle.language.proofs.Lengths.{digits-length, constant-most}
use Rattle.statement_writer.proofs.Series.{Parts}
use Rattle.machine.specs.declared.Answer.{Answer}
use Rattle.machine.specs.declared.Answer.TheVariants.{Ended, Fault, Spent}
use Rattle.answer_line.specs.AnswerLine.{spaced_values, spaced_room, long_digits, answer_room, room_of_line}

-- each line has room where the longest has
pub line-most : (a : Answer) → room_of_line a ≤ answer_room
line-most (Ended v k t) = omega arith
line-most (Fault n k t) = omega arith
line-most (Spent n t) = omega arith

-- a number of 64 bits
pub long-most : (n : ℕ) → n < 2 ^ 64 → length (digits n) ≤ long_digits
long-most n h = digits-length long_digits n (omega arith) (omega arith)

-- a value after a space, for each that is kept
pub spaced-parts : (ks : List ℕ) → Parts (λ n. spaced_values n ks) (λ n. 32 ∷ spell_constant (get_or ks n 0)) kept_count spaced_room
unfolding spaced_values
spaced-parts ks = record { none = refl; more = λ n. refl; short = λ n h. omega (arith, constant-most (get_or ks n 0)) }
