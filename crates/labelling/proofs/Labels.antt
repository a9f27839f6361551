-- From tables to labels: a set place by place, and what the rows of each operator come to. Assumes nothing.
use mathlib.Core.Path.{◌≡◌, refl, sym, ap, ap₂, ◌∙◌, subst}
use mathlib.Core.Bool.{Bool, true, false, ◌||◌, ◌&&◌, not, or-false, and-true, and_comm}
use mathlib.Core.Logic.Iff
use mathlib.Core.Logic.{◌↔◌}
use Prim.Native.Nat.{ℕ, ◌+◌, ◌≤◌, ◌<◌}
use native.Mathlib.Decide.{dec_lt, ℕ_discrete}
use native.Mathlib.Omega.{arith}
use lib.Dec.{eqb, ltb}
use borrow.Author.Tests.{eq-eqb, ne_eqb, lt-ltb, le-ltb}
use Rattle.base.proofs.Bools.{clash, or_right}
use Rattle.ctl.specs.Paths.{Quant, Paths, quant, Next, Finally, Globally, Until, Weak, So, Graph}
use Rattle.ctl.specs.Tables.{other, Onto, Table, Grown}
use Rattle.ctl.proofs.Paths.{path_inside, paths-iff, next-iff, finally-iff, globally-iff, until-map, weak-map}
use Rattle.ctl.proofs.Reach.{table_same}
use Rattle.ctl.proofs.Until.{until-table}
use Rattle.ctl.proofs.Weak.{non, nor, weak-table}
use Rattle.labelling.specs.Labels.{Said, Labelled}
use Rattle.labelling.specs.declared.Operator.{Operator}
use Rattle.labelling.specs.declared.Operator.TheVariants as op

-- ---- place by place

-- the places below m have been asked
module _ (X : ℕ → Type 0) (m : ℕ) (y : ℕ → Bool) (l : Labelled m y X) where
  pub label-skip : (r : Bool) → (r ≡ true) ↔ X m → r ≡ false → Labelled (m + 1) y X
  label-skip r i e = record { exact = λ s b. go s (dec_lt s m) b; beyond = λ s b. l.beyond s (omega arith) }
    where
      go : (s : ℕ) → Dec (s < m) → s < m + 1 → (y s ≡ true) ↔ X s
      go s (yes h) b = l.exact s h
      go s (no h) b = let d : m ≡ s = omega arith in subst (λ (t : ℕ). (y t ≡ true) ↔ X t) d (λ t. clash t (l.beyond m (omega arith)), λ x. clash (i.1 x) e)

  pub label-join : X m → (y' : ℕ → Bool) → ((j : ℕ) → y' j ≡ (y j || eqb m j)) → Labelled (m + 1) y' X
  label-join x y' f = record { exact = λ s b. go s (ℕ_discrete m s) b; beyond = λ s b. f s ∙ ap₂ ◌||◌ (l.beyond s (omega arith)) (ne_eqb m s (omega arith)) }
    where
      go : (s : ℕ) → Dec (m ≡ s) → s < m + 1 → (y' s ≡ true) ↔ X s
      go s (yes d) b = (λ _. subst X d x, λ _. f s ∙ or_right (y s) (eqb m s) (eq-eqb m s d))
      go s (no d) b = subst (λ (b : Bool). (b ≡ true) ↔ X s) (sym (f s ∙ ap (λ (z : Bool). y s || z) (ne_eqb m s d) ∙ or-false (y s))) (l.exact s (omega arith))

-- ---- operator by operator

-- what is meant may be said in other words
label-map : (n : ℕ) (y : ℕ → Bool) (X Y : ℕ → Type 0) → ((s : ℕ) → s < n → X s ↔ Y s) → Labelled n y X → Labelled n y Y
label-map n y X Y f l = record { exact = λ s b. Iff.trans (l.exact s b) (f s b); beyond = l.beyond }

module _ (all : Bool) (n : ℕ) (step : ℕ → ℕ → Bool) (g : Graph n step) (places : ℕ → Bool) (whole : (s : ℕ) → places s ≡ ltb s n) where
  abbrev k : Quant
  k = quant all

  -- a row cut to the places below n: as it was below n, and clear from n on
  cut-same : (b : Bool) (s : ℕ) → s < n → (places s && b) ≡ b
  cut-same b s l = ap (λ (x : Bool). x && b) (whole s ∙ lt-ltb s n l)

  cut-none : (b : Bool) (s : ℕ) → n ≤ s → (places s && b) ≡ false
  cut-none b s l = ap (λ (x : Bool). x && b) (whole s ∙ le-ltb s n l)

  pub next-label : (p y : ℕ → Bool) → Labelled n y (Onto k step (So p)) → Labelled n y (λ s. Paths k step s (Next (So p)))
  next-label p y = label-map n y _ _ (next-iff g k (So p))

  module _ (p q q' y : ℕ → Bool) (cut : (s : ℕ) → q' s ≡ (places s && q s)) where
    pub until-label : Grown k n step p q' y → Labelled n y (λ s. Paths k step s (Until (So p) (So q)))
    until-label t = record {
      exact = until-table g p q k y (table_same k n step g.inside p p q' q y (λ s l. refl) (λ s l. cut s ∙ cut-same (q s) s l) t.table);
      beyond = λ s l. t.beyond s l ∙ cut s ∙ cut-none (q s) s l;
    }

  pub finally-label : (q q' y : ℕ → Bool) → ((s : ℕ) → q' s ≡ (places s && q s)) → Grown k n step places q' y → Labelled n y (λ s. Paths k step s (Finally (So q)))
  finally-label q q' y cut t = label-map n y _ _ (finally-iff g k places (So q) (λ s l. whole s ∙ lt-ltb s n l)) (until-label places q q' y cut t)

  -- W is what `!q U (!p & !q)` leaves out for the other quantifier
  module _ (p q a b z y : ℕ → Bool) (ea : (s : ℕ) → s < n → a s ≡ non q s) (eb : (s : ℕ) → s < n → b s ≡ nor p q s) where
    dual-label : Grown (quant (not all)) n step a b z → ((s : ℕ) → y s ≡ (places s && not (z s))) → Labelled n y (λ s. Paths k step s (Weak (So p) (So q)))
    dual-label t f = record {
      exact = λ s l. subst (λ (x : Bool). (x ≡ true) ↔ Paths k step s (Weak (So p) (So q))) (sym (f s ∙ cut-same (not (z s)) s l))
          (weak-table g p q z s l k (table_same (other k) n step g.inside a (non q) b (nor p q) z ea eb (subst (λ (j : Quant). Table j n step a b z) (other-quant all) t.table)));
      beyond = λ s l. f s ∙ cut-none (not (z s)) s l;
    }
      where
        other-quant : (b : Bool) → quant (not b) ≡ other (quant b)
        other-quant true = refl
        other-quant false = refl

  pub weak-label : (p q a b z y : ℕ → Bool) → ((s : ℕ) → a s ≡ (places s && not (q s))) → ((s : ℕ) → b s ≡ (a s && not (p s)))
      → Grown (quant (not all)) n step a b z → ((s : ℕ) → y s ≡ (places s && not (z s))) → Labelled n y (λ s. Paths k step s (Weak (So p) (So q)))
  weak-label p q a b z y ea eb =
      let fa : (s : ℕ) → s < n → a s ≡ not (q s) = λ s l. ea s ∙ cut-same (not (q s)) s l in
      dual-label p q a b z y fa (λ s l. eb s ∙ ap (λ (x : Bool). x && not (p s)) (fa s l) ∙ and_comm (not (q s)) (not (p s)))

  -- G is W with no place of q
  pub globally-label : (p b z y : ℕ → Bool) → ((s : ℕ) → b s ≡ (places s && not (p s))) → Grown (quant (not all)) n step places b z → ((s : ℕ) → y s ≡ (places s && not (z s)))
      → Labelled n y (λ s. Paths k step s (Globally (So p)))
  globally-label p b z y eb t f =
      label-map n y _ _ (globally-iff g k p (λ _. false) (λ _ _. refl))
      (dual-label p (λ _. false) places b z y (λ s l. whole s ∙ lt-ltb s n l) (λ s l. eb s ∙ cut-same (not (p s)) s l ∙ sym (and-true (not (p s)))) t f)

-- ---- for a caller: what holds at the places below n may be said in other words

pub said-iff : {n : ℕ} {step : ℕ → ℕ → Bool} → Graph n step → (o : Operator) (k : Quant) (P Q P' Q' : ℕ → Type 0) → ((t : ℕ) → t < n → P t ↔ P' t) → ((t : ℕ) → t < n → Q t ↔ Q' t)
    → (s : ℕ) → s < n → Paths k step s (Said o P Q) ↔ Paths k step s (Said o P' Q')
said-iff {step = step} g o k P Q P' Q' p q s l = paths-iff step k _ _ s (λ π w. one o π (λ i. p (π i) (path_inside g s l π w i)) (λ i. q (π i) (path_inside g s l π w i)))
  where
    one : (o : Operator) (π : ℕ → ℕ) → ((i : ℕ) → P (π i) ↔ P' (π i)) → ((i : ℕ) → Q (π i) ↔ Q' (π i)) → Said o P Q π ↔ Said o P' Q' π
    one op.Next π a b = a 1
    one op.Finally π a b = (λ u. (u.0, (a u.0).0 u.1), λ u. (u.0, (a u.0).1 u.1))
    one op.Globally π a b = (λ u i. (a i).0 (u i), λ u i. (a i).1 (u i))
    one op.Until π a b = (until-map P Q P' Q' π (λ i. (a i).0) (λ i. (b i).0), until-map P' Q' P Q π (λ i. (a i).1) (λ i. (b i).1))
    one op.Weak π a b = (weak-map P Q P' Q' π (λ i. (a i).0) (λ i. (b i).0), weak-map P' Q' P Q π (λ i. (a i).1) (λ i. (b i).1))
