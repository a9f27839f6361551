-- Refusals, with the line that they are about. Assumes nothing.
use mathlib.Core.List.{List}
use Prim.Native.Nat.{ℕ, ◌+◌, ◌≤◌, ◌<◌, ◌^◌}
use native.Mathlib.Omega.{arith}
use lib.ListN.{length}
use Rattle.desk.specs.Refusals.{refusal_text, refusal_room}
use Rattle.desk.proofs.Rooms.{refusal-most}

-- numbers of a byte and lines of 32 bits
pub text-fits : (n line m : ℕ) → n < 2 ^ 8 → line < 2 ^ 32 → refusal_room ≤ m → length (refusal_text n line) ≤ m
text-fits n line m h l r = omega (arith, refusal-most n line h l)

pub text_room : (n line m : ℕ) → n < 2 ^ 8 → line < 2 ^ 32 → refusal_room ≤ m → 0 + length (refusal_text n line) ≤ m
text_room n line m h l r = omega (arith, text-fits n line m h l r)
