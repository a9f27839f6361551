-- Tests that answer the truth of a claim. Assumes nothing.
use mathlib.Core.Path.{◌≡◌, refl}
use mathlib.Core.Bool.{Bool, true, false}
use mathlib.Core.Logic.{◌↔◌, ◌⊎◌, inr, ⊎_elim}
use Prim.Native.Nat.{ℕ}
use lib.Dec.{eqb}
use borrow.Author.Tests.{eqb-true, eqb-false}
use Rattle.base.specs.Decides.{Decides}
use Rattle.base.proofs.Bools.{clash}

module _ {X : Type 0} where
  pub decides : (b : Bool) → (b ≡ true → X) → (b ≡ false → X → ⊥) → Decides b X
  decides true f g = f refl
  decides false f g = g refl

  pub decided-true : (b : Bool) → b ≡ true → Decides b X → X
  decided-true b e d = rw e at d

  pub decided-false : (b : Bool) → b ≡ false → Decides b X → X → ⊥
  decided-false b e d = rw e at d

-- a claim that means the same is decided too
pub decides-same : {X Y : Type 0} (b : Bool) → (X → Y) → (Y → X) → Decides b X → Decides b Y
decides-same true f g d = f d
decides-same false f g d = λ y. d (g y)

pub decides_eqb : (a b : ℕ) → Decides (eqb a b) (a ≡ b)
decides_eqb a b = decides (eqb a b) (eqb-true a b) (eqb-false a b)

-- a test that decides a claim is true exactly where the claim is
pub decides-iff : {X : Type 0} (b : Bool) → Decides b X → (b ≡ true) ↔ X
decides-iff true d = (λ _. d, λ _. refl)
decides-iff false d = (λ e. clash e refl, λ x. absurd (d x))

-- the second of two decides both where the first holds, and one of them where it fails
pub decides-either : {X : Type 0} (Y : Type 0) (b : Bool) → (X → ⊥) → Decides b Y → Decides b (X ⊎ Y)
decides-either Y true n d = inr d
decides-either Y false n d = λ h. ⊎_elim n d h
