-- `bits::union` meets its contract: the operation says of two bits what the definition says.
-- Assumes nothing.
use mathlib.Core.Path.{◌≡◌, refl, ap, ◌∙◌, sym}
use mathlib.Core.Bool.{◌||◌}
use lib.Bits.{bit_or}
use Rattle.std.proofs.Common.{rules}
use Rattle.bits.specs.Row.{bit}
use Rattle.bits.proofs.Words.{bit-or}
use Rattle.bits.proofs.Rows.{combined-member}
use Rattle.bits.proofs.union.Goals as goal

pub returns : goal.returns
returns c = combined-member c.combine.ensures ◌||◌ refl (c.requires.left ∙ sym c.requires.right)
    (λ x y r e k l. let d : r ≡ bit_or x y = search rules in ap (λ z. bit z k) d ∙ bit-or x y k)
