-- `bits::mask` meets its contract: a power of 2 less 1 has the bits below its exponent.
-- Assumes nothing.
use mathlib.Core.Path.{◌≡◌, sym, ◌∙◌}
use Prim.Native.Nat.{ℕ, ◌+◌, ◌*◌, ◌%◌, ◌^◌, ◌≤◌}
use native.Mathlib.Nat.{one-mul}
use native.Mathlib.Omega.{arith}
use lib.Dec.{lit<}
use lib.Pow.{pow_pos, shl_exact}
use borrow.Author.Tests.{lt-ltb}
use Rattle.bits.proofs.Words.{bit-ones}
use Rattle.bits.proofs.mask.Goals as goal

-- the shifted bit fits
shifted : (c : ℕ) → 1 + c ≤ 64 → (1 * 2 ^ c) % 2 ^ 64 ≡ 2 ^ c
shifted c l = shl_exact {a = 1} 1 c 64 (lit< tt) l ∙ one-mul (2 ^ c)

pub overflow_sub-result : goal.overflow_sub-result
overflow_sub-result c = rw (shifted c.args.c (omega arith)) (pow_pos c.args.c)

pub returns-then-c-lt64 : goal.returns-then-c-lt64
returns-then-c-lt64 c = λ b l. rw (shifted c.args.c (omega arith)) (bit-ones c.args.c b)

pub returns-else-c-lt64 : goal.returns-else-c-lt64
returns-else-c-lt64 c = λ b l. bit-ones 64 b ∙ lt-ltb b 64 l ∙ sym (lt-ltb b c.args.c (omega arith))
