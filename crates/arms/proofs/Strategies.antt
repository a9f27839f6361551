-- The arms are strategies: a play that takes his goes to a lower number, one that takes the unit's stays where he can't. Assumes nothing.
use mathlib.Core.Path.{◌≡◌, refl, sym, ap, ◌∙◌, subst}
use mathlib.Core.List.{List}
use mathlib.Core.Bool.{Bool, true, false, not, ◌&&◌, ◌||◌}
use mathlib.Core.Logic.{◌⊎◌, inl, inr, ⊎_elim}
use Prim.Native.Nat.{ℕ, suc, ◌+◌, ◌-◌, ◌≤◌, ◌<◌}
use native.Mathlib.Omega.{arith}
use lib.Dec.{eqb, leb}
use lib.ListN.{length, get_or}
use borrow.Author.Tests.{eqb-true, eqb-false, leb-true, leb-false, eq-eqb, ne_eqb}
use Rattle.language.specs.declared.Statement.{Statement}
use Rattle.language.specs.declared.Statement.TheVariants.{Read, Write, Assign, Branch, Skip}
use Rattle.program.specs.Program.{at}
use Rattle.base.proofs.Bools.{split, clash, or_case, or_left, or_right}
use Rattle.ctl.specs.Paths.{So, Graph}
use Rattle.ctl.proofs.Paths.{path_inside}
use Rattle.flow.specs.Flow.{leads, is_write, steps_forward}
use Rattle.games.specs.Ranks.{Ranks}
use Rattle.games.proofs.Games.{forced, avoided}
use Rattle.forcing.specs.Numbers.{none, number_of, numbered}
use Rattle.arms.specs.Arms.{side, arm_of, arm_at, ArmsOf, Goes, Strategies}
use Rattle.forcing.proofs.Steps.{numbered-some, numbered-none, none-numbered}

-- ---- the arm of one `if`, test by test

pub arm-his : (k a b : ℕ) → (k ≡ 0 → ⊥) → (k ≡ none → ⊥) → arm_of true k a b ≡ side (leb a b)
arm-his k a b f h = rw (ne_eqb k 0 f, ne_eqb k none h)

pub arm-units : (k a b : ℕ) → k ≡ none → arm_of false k a b ≡ side (eqb a none)
arm-units k a b e = rw (eq-eqb k none e)

-- ---- where a statement steps to

Nexts : Statement → ℕ → ℕ → Type 0
Nexts (Read x) s t = s + 1 ≡ t
Nexts (Write x) s t = s ≡ t
Nexts (Assign x e) s t = s + 1 ≡ t
Nexts (Branch x n m) s t = (n - 1 ≡ t) ⊎ (m - 1 ≡ t)
Nexts Skip s t = s + 1 ≡ t

one : (a t : ℕ) → (eqb a t || false) ≡ true → a ≡ t
one a t e = ⊎_elim (eqb-true a t) (λ x. clash x refl) (or_case (eqb a t) false e)

nexts : (x : Statement) (s t : ℕ) → (leads x s t || (is_write x && eqb s t)) ≡ true → Nexts x s t
unfolding Nexts
nexts (Read x) s t e = one (s + 1) t e
nexts (Write x) s t e = eqb-true s t e
nexts (Assign x y) s t e = one (s + 1) t e
nexts (Branch x n m) s t e =
    ⊎_elim (λ y. ⊎_elim (λ z. inl (eqb-true (n - 1) t z)) (λ z. inr (eqb-true (m - 1) t z)) (or_case (eqb (n - 1) t) (eqb (m - 1) t) y)) (λ y. clash y refl)
    (or_case (eqb (n - 1) t || eqb (m - 1) t) false e)
nexts Skip s t e = one (s + 1) t e

module _ (n : ℕ) (step : ℕ → ℕ → Bool) (mine q : ℕ → Bool) (numbers : List ℕ) (g : Graph n step) (r : Ranks n step mine q (numbered numbers) (number_of numbers)) (small : (s : ℕ) → number_of numbers s ≤ none)
    (P : List Statement) (size : length P ≡ n) (exact : (s t : ℕ) → s < n → step s t ≡ steps_forward P s t) (arms : List ℕ) (told : ArmsOf P mine numbers arms) where
  abbrev number : ℕ → ℕ
  number = number_of numbers

  abbrev won : ℕ → Bool
  won = numbered numbers

  -- s steps where its statement does
  module _ (x : Statement) (s : ℕ) (is : at P s ≡ x) (l : s < n) where
    goes : (t : ℕ) → step s t ≡ true → Nexts x s t
    goes t e = nexts x s t (ap (λ (y : Statement). leads y s t || (is_write y && eqb s t)) (sym is) ∙ sym (exact s t l) ∙ e)

    steps : (t : ℕ) → (leads x s t || (is_write x && eqb s t)) ≡ true → step s t ≡ true
    steps t e = exact s t l ∙ ap (λ (y : Statement). leads y s t || (is_write y && eqb s t)) is ∙ e

    arm : get_or arms s 0 ≡ arm_at x (mine s) numbers s
    arm = told s (omega (arith, size)) ∙ ap (λ (y : Statement). arm_at y (mine s) numbers s) is

  -- ---- his

  Down : ℕ → ℕ → Type 0
  Down s t = (won t ≡ true) × (number s ≡ suc (number t))

  module _ (s t : ℕ) (l : s < n) (m : mine s ≡ true) (w : won s ≡ true) (off : q s ≡ false) where
    -- where there is one step only
    down-only : ((u : ℕ) → step s u ≡ true → u ≡ t) → Down s t
    unfolding Down
    down-only f = let a = r.mine_on s l w off m in subst (Down s) (f a.0 a.1) (a.2, a.3)

    -- where there are two, to u and to v
    down-two : (u v : ℕ) → step s u ≡ true → step s v ≡ true → ((i : ℕ) → step s i ≡ true → (u ≡ i) ⊎ (v ≡ i)) → number u ≤ number v → Down s u
    unfolding Down
    down-two u v eu ev f le =
        let a = r.mine_on s l w off m in
        ⊎_elim (λ d. subst (Down s) (sym d) (a.2, a.3))
        (λ d.
        let b = subst (Down s) (sym d) (a.2, a.3) in
        let here : won u ≡ true = numbered-some numbers u (λ e. absurd (above v b.0 (omega (arith, le, e)))) in
        let least = r.mine_least s u l m eu here in
        (here, omega (arith, least.1, b.1, le)))
        (f a.0 a.1)
      where
        above : (i : ℕ) → won i ≡ true → none ≤ number i → ⊥
        above i x e = clash x (numbered-none numbers i (omega (arith, small i)))

    arm_is : (a b : ℕ) → get_or arms s 0 ≡ arm_of (mine s) (number s) (number a) (number b) → get_or arms s 0 ≡ side (leb (number a) (number b))
    arm_is a b e =
        e ∙ ap (λ (o : Bool). arm_of o (number s) (number a) (number b)) m
        ∙ arm-his (number s) (number a) (number b) (λ z. let d = r.mine_on s l w off m in omega (arith, d.3, z)) (λ z. clash w (numbered-none numbers s z))

    down : (x : Statement) → at P s ≡ x → step s t ≡ true → Goes x (get_or arms s 0) t → Down s t
    unfolding Nexts
    down (Read x) is e h = down-only (λ u f. sym (goes (Read x) s is l u f) ∙ goes (Read x) s is l t e)
    down (Write x) is e h = down-only (λ u f. sym (goes (Write x) s is l u f) ∙ goes (Write x) s is l t e)
    down (Assign x y) is e h = down-only (λ u f. sym (goes (Assign x y) s is l u f) ∙ goes (Assign x y) s is l t e)
    down Skip is e h = down-only (λ u f. sym (goes Skip s is l u f) ∙ goes Skip s is l t e)
    down (Branch x a b) is e h =
        ⊎_elim
        (λ c. subst (Down s) (sym (h.0 (arm_is (a - 1) (b - 1) (arm (Branch x a b) s is l) ∙ ap side c)))
        (down-two (a - 1) (b - 1) to-a to-b (λ i f. goes (Branch x a b) s is l i f) (leb-true (number (a - 1)) (number (b - 1)) c)))
        (λ c. subst (Down s) (sym (h.1 (arm_is (a - 1) (b - 1) (arm (Branch x a b) s is l) ∙ ap side c)))
        (down-two (b - 1) (a - 1) to-b to-a (λ i f. ⊎_elim inr inl (goes (Branch x a b) s is l i f)) (let d = leb-false (number (a - 1)) (number (b - 1)) c in omega arith)))
        (split (leb (number (a - 1)) (number (b - 1))))
      where
        to-a : step s (a - 1) ≡ true
        to-a = steps (Branch x a b) s is l (a - 1) (or_left _ _ (or_left _ _ (eq-eqb (a - 1) (a - 1) refl)))

        to-b : step s (b - 1) ≡ true
        to-b = steps (Branch x a b) s is l (b - 1) (or_left _ _ (or_right (eqb (a - 1) (b - 1)) _ (eq-eqb (b - 1) (b - 1) refl)))

  -- ---- the unit's

  module _ (s t : ℕ) (l : s < n) (m : mine s ≡ false) (w : won s ≡ false) where
    out-only : ((u : ℕ) → step s u ≡ true → u ≡ t) → won t ≡ false
    out-only f = let a = r.theirs_out s l w m in ap won (sym (f a.0 a.1)) ∙ a.2

    out-is : (a b : ℕ) → get_or arms s 0 ≡ arm_of (mine s) (number s) (number a) (number b) → get_or arms s 0 ≡ side (eqb (number a) none)
    out-is a b e = e ∙ ap (λ (o : Bool). arm_of o (number s) (number a) (number b)) m ∙ arm-units (number s) (number a) (number b) (none-numbered numbers s w)

    out : (x : Statement) → at P s ≡ x → step s t ≡ true → Goes x (get_or arms s 0) t → won t ≡ false
    unfolding Nexts
    out (Read x) is e h = out-only (λ u f. sym (goes (Read x) s is l u f) ∙ goes (Read x) s is l t e)
    out (Write x) is e h = out-only (λ u f. sym (goes (Write x) s is l u f) ∙ goes (Write x) s is l t e)
    out (Assign x y) is e h = out-only (λ u f. sym (goes (Assign x y) s is l u f) ∙ goes (Assign x y) s is l t e)
    out Skip is e h = out-only (λ u f. sym (goes Skip s is l u f) ∙ goes Skip s is l t e)
    out (Branch x a b) is e h =
        ⊎_elim
        (λ c. ap won (h.0 (out-is (a - 1) (b - 1) (arm (Branch x a b) s is l) ∙ ap side c)) ∙ numbered-none numbers (a - 1) (eqb-true (number (a - 1)) none c))
        (λ c.
        let d = r.theirs_out s l w m in
        ap won (h.1 (out-is (a - 1) (b - 1) (arm (Branch x a b) s is l) ∙ ap side c))
        ∙ ⊎_elim (λ f. absurd (eqb-false (number (a - 1)) none c (none-numbered numbers (a - 1) (ap won f ∙ d.2)))) (λ f. ap won f ∙ d.2) (goes (Branch x a b) s is l d.0 d.1))
        (split (eqb (number (a - 1)) none))

  pub strategies : (s : ℕ) → s < n → Strategies P step mine (So q) numbers arms s
  unfolding Down
  strategies s l = record {
    his_arms = λ f π p k. forced g mine q won number r (number s) s l (numbered-some numbers s f) (omega arith) π p
        (λ i m w e. down (π i) (π (suc i)) (path_inside g s l π p i) m w e (at P (π i)) refl (p.1 i) (k i m));
    unit_arms = λ e π p k i x. clash x (avoided g mine q won number r s l (numbered-none numbers s e) π p
        (λ j m w. out (π j) (π (suc j)) (path_inside g s l π p j) m w (at P (π j)) refl (p.1 j) (k j (ap not m))) i);
  }
