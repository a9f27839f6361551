-- A proof device: what speaks against an operator bears another one out, of other operands; proofs/Dual.antt holds it to the definitions.
use Rattle.std.specs.Prelude.{◌↔◌, ℕ, ◌<◌}
use Rattle.labelling.specs.declared.Operator.{Operator}
use Rattle.labelling.specs.declared.Operator.TheVariants as op
use Rattle.lassos.specs.Lassos.{Not, Neither}

abbrev pub dual : Operator → Operator
dual op.Next = op.Next
dual op.Finally = op.Globally
dual op.Globally = op.Finally
dual op.Until = op.Weak
dual op.Weak = op.Until

abbrev pub dual_first : Operator → (ℕ → Type 0) → (ℕ → Type 0) → ℕ → Type 0
dual_first op.Next X Y = Not X
dual_first op.Finally X Y = Not X
dual_first op.Globally X Y = Not X
dual_first op.Until X Y = Not Y
dual_first op.Weak X Y = Not Y

abbrev pub dual_second : Operator → (ℕ → Type 0) → (ℕ → Type 0) → ℕ → Type 0
dual_second op.Next X Y = Not Y
dual_second op.Finally X Y = Not Y
dual_second op.Globally X Y = Not Y
dual_second op.Until X Y = Neither X Y
dual_second op.Weak X Y = Neither X Y

-- X and X' are the same at the places below n
abbrev pub Same : ℕ → (ℕ → Type 0) → (ℕ → Type 0) → Type 0
Same n X X' = (t : ℕ) → t < n → X t ↔ X' t
