-- `Holds` is what document 02's sentence says, and nothing else is. Assumes nothing.
use mathlib.Core.List.{List}
use mathlib.Core.Logic.{◌↔◌}
use Prim.Native.Nat.{ℕ, zero, suc, ◌≤◌, ◌<◌}
use native.Mathlib.Omega.{arith}
use Rattle.base.proofs.Bools.{last-or-below}
use Rattle.stages.specs.Stages.{places, place, Stands, Holds}
use Rattle.stages.specs.Sentence.{Sentence}

module _ (mem : List ℕ) where
  -- no earlier place holds the name, so none has it that stands right
  none-stands :
      (n : List ℕ) (k : ℕ) → k ≤ places → ((j : ℕ) (u : List ℕ) → j < k → Holds mem j n u → ⊥) → (j : ℕ) → j < k → (u : List ℕ) → Stands (place mem j) n u → ⊥
  none-stands n zero h f = λ j l. absurd (omega arith)
  none-stands n (suc k) h f =
      let before = none-stands n k (omega arith) (λ j u l. f j u (omega arith)) in
      last-or-below k (λ j. (u : List ℕ) → Stands (place mem j) n u → ⊥) (λ u s. f k u (omega arith) (record { inside = omega arith; stands = s; first = before })) before

  pub sentence-holds : Sentence mem (Holds mem)
  sentence-holds k n t = (
    λ h. (h.inside, h.stands, λ j u l g. h.first j l u g.stands),
    λ (inside, s, f). record { inside = inside; stands = s; first = none-stands n k (omega arith) f },
  )

  module _ (H : ℕ → List ℕ → List ℕ → Type 0) (so : Sentence mem H) where
    abbrev Same : ℕ → Type 0
    Same k = (n t : List ℕ) → H k n t ↔ Holds mem k n t

    here : (m : ℕ) → ((k : ℕ) → k < m → Same k) → Same m
    here m before n t = (
      λ h. let a = (so m n t).0 h in (sentence-holds m n t).1 (a.0, a.1, λ j u l g. a.2 j u l ((before j l n u).1 g)),
      λ h. let a = (sentence-holds m n t).0 h in (so m n t).1 (a.0, a.1, λ j u l g. a.2 j u l ((before j l n u).0 g)),
    )

    below : (m k : ℕ) → k < m → Same k
    below zero = λ k l. absurd (omega arith)
    below (suc m) = last-or-below m Same (here m (below m)) (below m)

    pub sentence-unique : (k : ℕ) (n t : List ℕ) → H k n t ↔ Holds mem k n t
    sentence-unique k = below (suc k) k (omega arith)
