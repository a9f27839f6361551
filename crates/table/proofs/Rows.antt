-- The rows of the operators that look at one place only. Assumes nothing.
use mathlib.Core.Path.{◌≡◌, sym, ap, ap₂, ◌∙◌}
use mathlib.Core.Bool.{Bool, false, not, ◌&&◌, ◌||◌}
use mathlib.Core.Logic.{◌⊎◌, ⊎_elim}
use Prim.Native.Nat.{ℕ, ◌≤◌}
use lib.Dec.{ltb}
use borrow.Author.Tests.{lt-ltb, le-ltb}
use Rattle.base.proofs.Bools.{split, clash, and_left, and_right, and_both, or_case, or_left, or_right, not_of_false, false_of_not}
use Rattle.ctl.specs.Paths.{So}
use Rattle.labelling.specs.Labels.{Labelled}

module _ (n : ℕ) (y : ℕ → Bool) where
  pub negation-row : (p places : ℕ → Bool) → ((j : ℕ) → places j ≡ ltb j n) → ((j : ℕ) → y j ≡ (places j && not (p j))) → Labelled n y (λ s. So p s → ⊥)
  negation-row p places w f =
      record {
        exact = λ s l. (
          λ e t. clash t (false_of_not (p s) (and_right (places s) (not (p s)) (sym (f s) ∙ e))),
          λ g. f s ∙ and_both (places s) (not (p s)) (w s ∙ lt-ltb s n l) (not_of_false (p s) (⊎_elim (λ t. absurd (g t)) (λ e. e) (split (p s)))),
        );
        beyond = λ s l. f s ∙ ap (λ (b : Bool). b && not (p s)) (w s ∙ le-ltb s n l);
      }

  pub conjunction-row : (p q : ℕ → Bool) → ((j : ℕ) → y j ≡ (p j && q j)) → ((j : ℕ) → n ≤ j → p j ≡ false) → Labelled n y (λ s. So p s × So q s)
  conjunction-row p q f b =
      record {
        exact = λ s l. (λ e. (and_left (p s) (q s) (sym (f s) ∙ e), and_right (p s) (q s) (sym (f s) ∙ e)), λ h. f s ∙ and_both (p s) (q s) h.0 h.1);
        beyond = λ s l. f s ∙ ap (λ (x : Bool). x && q s) (b s l);
      }

  pub disjunction-row : (p q : ℕ → Bool) → ((j : ℕ) → y j ≡ (p j || q j)) → ((j : ℕ) → n ≤ j → p j ≡ false) → ((j : ℕ) → n ≤ j → q j ≡ false) → Labelled n y (λ s. So p s ⊎ So q s)
  disjunction-row p q f b c =
      record {
        exact = λ s l. (λ e. or_case (p s) (q s) (sym (f s) ∙ e), λ h. f s ∙ ⊎_elim (or_left (p s) (q s)) (or_right (p s) (q s)) h);
        beyond = λ s l. f s ∙ ap₂ ◌||◌ (b s l) (c s l);
      }

  pub empty-row : ((j : ℕ) → y j ≡ false) → Labelled n y (λ s. ⊥)
  empty-row f = record { exact = λ s l. (λ e. clash e (f s), λ x. absurd x); beyond = λ s l. f s }
