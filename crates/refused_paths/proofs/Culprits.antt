-- What a place does by the rows of the facts. Assumes nothing.
use mathlib.Core.Path.{◌≡◌, refl, subst}
use mathlib.Core.Bool.{Bool, true, false}
use mathlib.Core.Logic.{inl, inr}
use mathlib.Core.List.{List}
use Prim.Native.Nat.{ℕ, ◌<◌}
use native.Mathlib.Decide.{ℕ_discrete}
use Rattle.base.proofs.Bools.{clash}
use Rattle.language.specs.declared.Expression.{Expression}
use Rattle.language.specs.declared.Statement.{Statement}
use Rattle.language.specs.declared.Statement.TheVariants.{Read, Write, Assign, Branch, Skip}
use Rattle.program.specs.Program.{at}
use Rattle.labelling.specs.Labels.{Labelled}
use Rattle.truth.specs.Truth.{In, Defines, uses_of}
use Rattle.lockstep.proofs.Decisions.{in-decided}
use Rattle.refused_marks.specs.RefusedMarks.{Spoils, UsedBy, SpoiltBy}
use Rattle.refused_marks.specs.Ends.{Untouched}
use Rattle.refused_paths.proofs.Rows.{keeps-iff}

-- a statement defines one variable at most, so where it isn't so that none of the expression's is defined, that one is
spoils-one : (i : Statement) (e : Expression) (y : ℕ) → ((z : ℕ) → Defines i z → z ≡ y) → Defines i y → ¬ ((z : ℕ) → In z e → Defines i z → ⊥) → Spoils i e
spoils-one i e y only d some =
    elim (in-decided y e) [
      | yes h ↦ (y, h, d)
      | no h ↦ absurd (some (λ z k f. h (subst (λ (w : ℕ). In w e) (only z f) k)))
    ]

spoils-some : (i : Statement) (e : Expression) → ¬ ((z : ℕ) → In z e → Defines i z → ⊥) → Spoils i e
spoils-some (Read y) e some = spoils-one (Read y) e y (λ z d. d) refl some
spoils-some (Write y) e some = absurd (some (λ z k d. d))
spoils-some (Assign y f) e some = spoils-one (Assign y f) e y (λ z d. d) refl some
spoils-some (Branch y n m) e some = absurd (some (λ z k d. d))
spoils-some Skip e some = absurd (some (λ z k d. d))

module _ (P : List Statement) (x : ℕ) (e : Expression) (n t : ℕ) (low : t < n) (touched : Untouched P x e t → ⊥) {d : ℕ → Bool} (defined : Labelled n d (λ s. Defines (at P s) x)) where
  pub by-definition : d t ≡ true → SpoiltBy (at P t) x e t 3
  by-definition h = inl (refl, (defined.exact t low).0 h)

  module _ (other : d t ≡ false) {k : ℕ → Bool} (kept : Labelled n k (λ s. (y : ℕ) → In y e → Defines (at P s) y → ⊥)) where
    elsewhere : ¬ Defines (at P t) x
    elsewhere h = clash ((defined.exact t low).1 h) other

    pub by-spoiling : k t ≡ false → SpoiltBy (at P t) x e t 4
    by-spoiling h = inr (inl (refl, elsewhere, spoils-some (at P t) e (λ none. clash ((kept.exact t low).1 none) h)))

    pub by-start : k t ≡ true → SpoiltBy (at P t) x e t 5
    by-start h = let none = (keeps-iff P e t).0 ((kept.exact t low).0 h) in inr (inr (refl, elsewhere, none, first (ℕ_discrete t 0) none))
      where
        first : Dec (t ≡ 0) → ¬ Spoils (at P t) e → t ≡ 0
        first (yes z) none = z
        first (no z) none = absurd (touched (elsewhere, none, z))

module _ (U : ℕ → ℕ → Type 0) (P : List Statement) (x n t : ℕ) (low : t < n) {own : ℕ → Bool} (uses : Labelled n own (uses_of P x)) where
  pub by-use : own t ≡ true → UsedBy U P x t 1
  by-use h = inl (refl, (uses.exact t low).0 h)

  pub by-reuse : own t ≡ false → U x t → UsedBy U P x t 2
  by-reuse h u = inr (refl, (λ o. clash ((uses.exact t low).1 o) h), u)
