-- A test of the variables of an expression. Assumes nothing.
use mathlib.Core.Path.{◌≡◌, refl}
use mathlib.Core.Bool.{Bool, true, false, not}
use Prim.Native.Nat.{ℕ}
use Rattle.base.specs.Decides.{Decides}
use Rattle.language.specs.declared.Expression.{Expression}
use Rattle.truth.specs.Truth.{In}

-- no variable of e is y, where y alone is defined
pub decides-none : (b : Bool) (e : Expression) (y : ℕ) → Decides b (In y e) → Decides (not b) ((x : ℕ) → In x e → x ≡ y → ⊥)
decides-none true e y d = λ h. h y d refl
decides-none false e y d = λ x i s. d (rw s at i)
