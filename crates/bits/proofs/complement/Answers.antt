-- `bits::complement` meets its contract: the operation says of two bits what the definition says.
-- Assumes nothing.
use mathlib.Core.Path.{◌≡◌, refl, ap, ◌∙◌}
use mathlib.Core.Bool.{◌&&◌, not}
use Prim.Native.Nat.{◌-◌, ◌^◌}
use lib.Bits.{bit_and, bit_xor}
use Rattle.std.proofs.Common.{rules}
use Rattle.bits.specs.Row.{bit}
use Rattle.bits.proofs.Words.{bit-and-not}
use Rattle.bits.proofs.Rows.{combined-member}
use Rattle.bits.proofs.complement.Goals as goal

pub returns : goal.returns
returns c = combined-member c.change.ensures (λ x y. x && not y) refl c.requires
    (λ x y r e k l. let d : r ≡ bit_and x (bit_xor y (2 ^ 64 - 1)) = search rules in ap (λ z. bit z k) d ∙ bit-and-not x y k l)
