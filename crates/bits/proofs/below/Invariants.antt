use mathlib.Core.Path.{◌≡◌}
use Prim.Native.Nat.{◌-◌, ◌*◌}
use lib.Dec.{ltb}
use Rattle.bits.proofs.Rows.{Filled}
use Rattle.bits.proofs.below.Given as goal

abbrev pub invariant-loop-word : goal.invariant-loop-word
invariant-loop-word l = (l.left ≡ l.n - l.word-index * 64) × Filled (λ j. ltb j l.n) l.initial.row l.row l.word-index
