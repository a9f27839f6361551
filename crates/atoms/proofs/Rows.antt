-- The rows of the atoms. Assumes nothing.
use mathlib.Core.Path.{◌≡◌, refl, sym, ap, ◌∙◌}
use mathlib.Core.Bool.{Bool, true, false}
use mathlib.Core.Logic.Iff
use mathlib.Core.Logic.{◌↔◌, inl, inr, ⊎_elim}
use mathlib.Core.List.{List, []}
use Prim.Native.Nat.{ℕ, ◌≤◌, ◌<◌}
use lib.Dec.{ltb}
use lib.ListN.{length, get_or}
use borrow.Author.Tests.{lt-ltb, le-ltb}
use Rattle.language.specs.declared.Operand.{Operand}
use Rattle.language.specs.declared.Operator.{Operator}
use Rattle.language.specs.declared.Expression.TheVariants.{Single, Binary}
use Rattle.language.specs.declared.Statement.{Statement}
use Rattle.program.specs.Program.{at}
use Rattle.base.specs.Decides.{Decides}
use Rattle.base.proofs.Decides.{decides-same, decides-iff}
use Rattle.base.proofs.Bools.{clash}
use Rattle.ctl.specs.Paths.{So}
use Rattle.labelling.specs.Labels.{Labelled}
use Rattle.truth.specs.Truth.{InOperand, In, Defines}
use Rattle.codes.specs.Codes.{statement_code, code_words}
use Rattle.codes.specs.declared.Code.{Code}
use Rattle.codes.proofs.Words.{words-unique}
use Rattle.atoms.specs.Facts.{FactsBy, FactsIn}

-- the same places, and what is said of them in other words
label-as : (n : ℕ) (y y' : ℕ → Bool) (X X' : ℕ → Type 0) → ((j : ℕ) → y' j ≡ y j) → ((s : ℕ) → s < n → X s ↔ X' s) → Labelled n y X → Labelled n y' X'
label-as n y y' X X' f x l = record {
  exact = λ s b. Iff.trans (λ e. sym (f s) ∙ e, λ e. f s ∙ e) (Iff.trans (l.exact s b) (x s b));
  beyond = λ s b. f s ∙ l.beyond s b;
}

pub label_same : (n : ℕ) (y y' : ℕ → Bool) (X : ℕ → Type 0) → ((j : ℕ) → y' j ≡ y j) → Labelled n y X → Labelled n y' X
label_same n y y' X f = label-as n y y' X X f (λ s b. (λ h. h, λ h. h))

module _ (n : ℕ) (y : ℕ → Bool) where
  pub beyond-clear : ((j : ℕ) → y j ≡ ltb j n) → (s : ℕ) → n ≤ s → y s ≡ false
  beyond-clear f s l = f s ∙ le-ltb s n l

  pub whole_row : ((j : ℕ) → y j ≡ ltb j n) → Labelled n y (λ s. Unit)
  whole_row f = record { exact = λ s l. (λ e. tt, λ u. f s ∙ lt-ltb s n l); beyond = beyond-clear f }

  pub empty-row : (X : ℕ → Type 0) → ((j : ℕ) → y j ≡ false) → ((s : ℕ) → s < n → X s → ⊥) → Labelled n y X
  empty-row X f x = record { exact = λ s l. (λ e. clash e (f s), λ h. absurd (x s l h)); beyond = λ s l. f s }

pub sized : {U : ℕ → ℕ → Type 0} (P : List Statement) (n : ℕ) (rows : List ℕ) (codes : List (List ℕ)) → length P ≡ n → FactsBy U P (length P) rows codes → FactsBy U P n rows codes
sized P n rows codes size f = rw size at f

-- of whatever uses these are the facts, they are those of the uses that the rows have
pub facts-in : {U : ℕ → ℕ → Type 0} {P : List Statement} {n : ℕ} {rows : List ℕ} {codes : List (List ℕ)} → FactsBy U P n rows codes → FactsIn P n rows codes
facts-in f = record {
  many = f.many;
  many_codes = f.many_codes;
  defined = f.defined;
  used = λ x l. record { exact = λ s b. (λ h. h, λ h. h); beyond = (f.used x l).beyond };
  coded = f.coded;
}

module _ {U : ℕ → ℕ → Type 0} (P : List Statement) (n : ℕ) (rows : List ℕ) (codes : List (List ℕ)) (found : FactsBy U P n rows codes) where
  -- a test of the code at place s is one of the statement
  pub statement-iff : (s : ℕ) → s < n → (i : Statement) (c : Code) → c ≡ statement_code i → (b : Bool) → Decides b (get_or codes s [] ≡ code_words c) → (b ≡ true) ↔ (at P s ≡ i)
  statement-iff s l i c is b d =
      decides-iff b
      (decides-same b (λ e. words-unique (at P s) i (sym (found.coded s l) ∙ e ∙ ap code_words is))
      (λ e. found.coded s l ∙ ap (λ z. code_words (statement_code z)) e ∙ sym (ap code_words is)) d)

  -- no variable of the operand is defined
  abbrev Keeps : Operand → ℕ → Type 0
  Keeps a s = (x : ℕ) → InOperand x a → Defines (at P s) x → ⊥

  -- no variable of the expression is defined
  module _ (places y : ℕ → Bool) (whole : (j : ℕ) → places j ≡ ltb j n) where
    pub single-kept : (a : Operand) → Labelled n y (λ s. So places s × Keeps a s) → Labelled n y (λ s. (x : ℕ) → In x (Single a) → Defines (at P s) x → ⊥)
    single-kept a = label-as n y y _ _ (λ j. refl) (λ s l. (λ h. h.1, λ g. (whole s ∙ lt-ltb s n l, g)))

    pub binary-kept : (left : ℕ → Bool) (a b : Operand) (o : Operator) → Labelled n left (λ s. So places s × Keeps a s) → Labelled n y (λ s. So left s × Keeps b s)
        → Labelled n y (λ s. (x : ℕ) → In x (Binary a o b) → Defines (at P s) x → ⊥)
    binary-kept left a b o k = label-as n y y _ _ (λ j. refl) (λ s l. (
      λ h x i d. ⊎_elim (λ u. ((k.exact s l).0 h.0).1 x u d) (λ u. h.1 x u d) i,
      λ g. ((k.exact s l).1 (whole s ∙ lt-ltb s n l, λ x u d. g x (inl u) d), λ x u d. g x (inr u) d),
    ))
