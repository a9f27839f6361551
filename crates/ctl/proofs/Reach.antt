-- What is reached, for some and for all ways alike; a set that grows by what is reached, place by place, and is then the table.
-- Assumes nothing.
use mathlib.Core.Path.{◌≡◌, refl, sym, ap, ◌∙◌, subst}
use mathlib.Core.Bool.{Bool, true, ◌||◌, or-false}
use mathlib.Core.Logic.{◌⊎◌, inl, inr, ⊎_elim}
use Prim.Native.Nat.{ℕ, ◌<◌}
use native.Mathlib.Omega.{arith}
use lib.Dec.{eqb}
use borrow.Author.Tests.{eqb-true, eq-eqb, ne_eqb}
use Rattle.base.proofs.Bools.{split, or_case, or_left, or_right}
use Rattle.ctl.specs.Paths.{Quant, E, A, So, Graph}
use Rattle.ctl.specs.Tables.{Onto, Some, All, now, later, Reach, Table, Joins, Grew, Grown}

module _ (step : ℕ → ℕ → Bool) (p q : ℕ → Bool) where
  pub reach_now : (k : Quant) (s : ℕ) → q s ≡ true → Reach k step p q s
  reach_now E s e = Some.now e
  reach_now A s e = All.now e

  pub reach-later : (k : Quant) (s : ℕ) → p s ≡ true → Onto k step (Reach k step p q) s → Reach k step p q s
  reach-later E s e (t, h, r) = Some.later e h r
  reach-later A s e r = All.later e r

pub onto-map : (k : Quant) (step : ℕ → ℕ → Bool) (P Q : ℕ → Type 0) (s : ℕ) → ((t : ℕ) → step s t ≡ true → P t → Q t) → Onto k step P s → Onto k step Q s
onto-map E step P Q s f (t, h, x) = (t, h, f t h x)
onto-map A step P Q s f r = λ t h. f t h (r t h)

-- where a place has a step, what steps into P has one step that does
pub onto-some : (k : Quant) (n : ℕ) (step : ℕ → ℕ → Bool) → Graph n step → (P : ℕ → Type 0) (s : ℕ) → s < n → Onto k step P s → Onto E step P s
onto-some E n step g P s l o = o
onto-some A n step g P s l o = let w = g.onward s l in (w.0, w.1, o w.0 w.1)

-- what is reached from z through p is reached from q through p', where p is within p' and z within what is reached so
module _ (n : ℕ) (step : ℕ → ℕ → Bool) (inside : (s t : ℕ) → s < n → step s t ≡ true → t < n) (p p' z q : ℕ → Bool) (pass : (s : ℕ) → s < n → p s ≡ true → p' s ≡ true) where
  some-carry : ((t : ℕ) → t < n → z t ≡ true → Some step p' q t) → {s : ℕ} → s < n → Some step p z s → Some step p' q s
  some-carry f l (now {s = s} e) = f s l e
  some-carry f l (later {s = s} {t = t} e h r) = Some.later (pass s l e) h (some-carry f (inside s t l h) r)

  all-carry : ((t : ℕ) → t < n → z t ≡ true → All step p' q t) → {s : ℕ} → s < n → All step p z s → All step p' q s
  all-carry f l (now {s = s} e) = f s l e
  all-carry f l (later {s = s} e r) = All.later (pass s l e) (λ t h. all-carry f (inside s t l h) (r t h))

  pub reach-carry : (k : Quant) → ((t : ℕ) → t < n → z t ≡ true → Reach k step p' q t) → (s : ℕ) → s < n → Reach k step p z s → Reach k step p' q s
  reach-carry E f s l r = some-carry f l r
  reach-carry A f s l r = all-carry f l r

-- only the places below n count
pub table_same : (k : Quant) (n : ℕ) (step : ℕ → ℕ → Bool) → ((s t : ℕ) → s < n → step s t ≡ true → t < n) → (p p' q q' z : ℕ → Bool)
    → ((s : ℕ) → s < n → p s ≡ p' s) → ((s : ℕ) → s < n → q s ≡ q' s) → Table k n step p q z → Table k n step p' q' z
table_same k n step inside p p' q q' z ep eq w = record {
  sound = λ s l e. reach-carry n step inside p p' q q' (λ t b h. sym (ep t b) ∙ h) k (λ t b h. reach_now step p' q' k t (sym (eq t b) ∙ h)) s l (w.sound s l e);
  here = λ s l e. w.here s l (eq s l ∙ e);
  back = λ s l e r. w.back s l (ep s l ∙ e) r;
}

-- ---- one place more

module _ (y y' : ℕ → Bool) (x : ℕ) (f : (i : ℕ) → y' i ≡ (y i || eqb x i)) where
  pub more-on : (s : ℕ) → y s ≡ true → y' s ≡ true
  more-on s h = f s ∙ or_left (y s) (eqb x s) h

  pub more-self : y' x ≡ true
  more-self = f x ∙ or_right (y x) (eqb x x) (eq-eqb x x refl)

  pub more-only : (s : ℕ) → y' s ≡ true → (y s ≡ true) ⊎ (x ≡ s)
  more-only s e = ⊎_elim inl (λ d. inr (eqb-true x s d)) (or_case (y s) (eqb x s) (sym (f s) ∙ e))

  pub more-other : (s : ℕ) → (x ≡ s → ⊥) → y' s ≡ y s
  more-other s e = f s ∙ ap (λ (b : Bool). y s || b) (ne_eqb x s e) ∙ or-false (y s)

-- ---- growth

module _ (k : Quant) (n : ℕ) (step : ℕ → ℕ → Bool) (p : ℕ → Bool) where
  pub grew_none : (z : ℕ → Bool) → Grew k n step p z z
  grew_none z = record { sound = λ s l e. reach_now step p z k s e; grows = λ s e. e; beyond = λ s l. refl }

  pub grew-more : Graph n step → (q z y : ℕ → Bool) → Grew k n step p q z → Grew k n step p z y → Grew k n step p q y
  grew-more g q z y a b = record {
    sound = λ s l e. reach-carry n step g.inside p p z q (λ _ _ x. x) k a.sound s l (b.sound s l e);
    grows = λ s e. b.grows s (a.grows s e);
    beyond = λ s l. b.beyond s l ∙ a.beyond s l;
  }

  pub grew-join : Graph n step → (z y y' : ℕ → Bool) (x : ℕ) → x < n → Joins k step p y x → ((i : ℕ) → y' i ≡ (y i || eqb x i)) → Grew k n step p z y → Grew k n step p z y'
  grew-join g z y y' x l j f w = record {
    sound = λ s b h. ⊎_elim (w.sound s b) (λ e. subst (Reach k step p z) e new) (more-only y y' x f s h);
    grows = λ s h. more-on y y' x f s (w.grows s h);
    beyond = λ s b. more-other y y' x f s (omega arith) ∙ w.beyond s b;
  }
    where
      new : Reach k step p z x
      new = reach-later step p z k x j.pass (onto-map k step (So y) (Reach k step p z) x (λ t e. w.sound t (g.inside x t l e)) j.onto)

  -- where no place is left to join, the set is the table
  pub grew-all : (q y : ℕ → Bool) → Grew k n step p q y → ((s : ℕ) → s < n → Joins k step p y s → ⊥) → Grown k n step p q y
  grew-all q y a none = record {
    table = record {
      sound = a.sound;
      here = λ s l e. a.grows s e;
      back = λ s l e o. ⊎_elim (λ x. x) (λ x. absurd (none s l (record { out = x; pass = e; onto = o }))) (split (y s));
    };
    beyond = a.beyond;
  }
