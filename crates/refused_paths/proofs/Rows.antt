-- Rows cut out of each other, and what they say of a mark's statement. Assumes nothing.
use mathlib.Core.Path.{◌≡◌, sym, ap, ◌∙◌}
use mathlib.Core.Bool.{Bool, not, ◌&&◌}
use mathlib.Core.Logic.Iff
use mathlib.Core.Logic.{◌↔◌, ⊎_elim}
use mathlib.Core.List.{List}
use Prim.Native.Nat.{ℕ}
use lib.Dec.{ltb}
use borrow.Author.Tests.{lt-ltb, le-ltb}
use Rattle.base.proofs.Bools.{split, clash, and_left, and_right, and_both, not_of_false, false_of_not}
use Rattle.language.specs.declared.Expression.{Expression}
use Rattle.language.specs.declared.Statement.{Statement}
use Rattle.program.specs.Program.{at}
use Rattle.labelling.specs.Labels.{Labelled}
use Rattle.truth.specs.Truth.{In, Defines}
use Rattle.refused_marks.specs.RefusedMarks.{Spoils}

-- what is said of the places in other words
pub row_as : {n : ℕ} {y : ℕ → Bool} {X X' : ℕ → Type 0} → ((t : ℕ) → X t ↔ X' t) → Labelled n y X → Labelled n y X'
row_as f x = record { exact = λ t l. Iff.trans (x.exact t l) (f t); beyond = x.beyond }

module _ {n : ℕ} {a b y : ℕ → Bool} {X Y : ℕ → Type 0} (x : Labelled n a X) (z : Labelled n b Y) where
  pub both-row : ((t : ℕ) → y t ≡ (a t && b t)) → Labelled n y (λ t. X t × Y t)
  both-row f = record {
    exact = λ t l. (
      λ e. let h = sym (f t) ∙ e in ((x.exact t l).0 (and_left (a t) (b t) h), (z.exact t l).0 (and_right (a t) (b t) h)),
      λ h. f t ∙ and_both (a t) (b t) ((x.exact t l).1 h.0) ((z.exact t l).1 h.1),
    );
    beyond = λ t l. f t ∙ ap (λ (c : Bool). c && b t) (x.beyond t l);
  }

  pub cut-row : ((t : ℕ) → y t ≡ (a t && not (b t))) → Labelled n y (λ t. X t × (¬ Y t))
  cut-row f = record {
    exact = λ t l. (
      λ e. let h = sym (f t) ∙ e in ((x.exact t l).0 (and_left (a t) (not (b t)) h), λ i. clash ((z.exact t l).1 i) (false_of_not (b t) (and_right (a t) (not (b t)) h))),
      λ h. f t ∙ and_both (a t) (not (b t)) ((x.exact t l).1 h.0) (not_of_false (b t) (⊎_elim (λ e. absurd (h.1 ((z.exact t l).0 e))) (λ e. e) (split (b t)))),
    );
    beyond = λ t l. f t ∙ ap (λ (c : Bool). c && not (b t)) (x.beyond t l);
  }

-- all places, and all but those of Y
all_row : (n : ℕ) → Labelled n (λ t. ltb t n) (λ t. Unit)
all_row n = record { exact = λ t l. (λ e. tt, λ u. lt-ltb t n l); beyond = λ t l. le-ltb t n l }

pub out-row : {n : ℕ} {b y : ℕ → Bool} {Y : ℕ → Type 0} → Labelled n b Y → ((t : ℕ) → y t ≡ (ltb t n && not (b t))) → Labelled n y (λ t. ¬ Y t)
out-row {n} {b} {y} {Y} z f = row_as (λ t. (λ h. h.1, λ h. (tt, h))) (cut-row {X = λ t. Unit} {Y = Y} (all_row n) z f)

-- what the atom `trans` says
pub keeps-iff : (P : List Statement) (e : Expression) (t : ℕ) → ((y : ℕ) → In y e → Defines (at P t) y → ⊥) ↔ (¬ Spoils (at P t) e)
keeps-iff P e t = (λ k s. k s.0 s.1 s.2, λ k y i d. k (y, i, d))
