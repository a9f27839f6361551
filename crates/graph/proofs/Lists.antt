-- Laws of lists of edges: what is listed along the links, no edges, and one edge more. Assumes nothing.
use mathlib.Core.Path.{◌≡◌, refl, sym, ap, ap₂, ◌∙◌}
use mathlib.Core.List.{List}
use mathlib.Core.Bool.{Bool, false, ◌||◌, ◌&&◌, or_comm, or-false}
use Prim.Native.Nat.{ℕ, zero, suc, ◌+◌, ◌-◌, ◌≤◌, ◌<◌}
use native.Mathlib.Decide.{dec_lt, ℕ_discrete}
use native.Mathlib.Omega.{arith}
use lib.ListN.{length, get_or, set, length-set}
use lib.Seq.{get_or-set_same, get_or-set_other}
use lib.Dec.{eqb}
use borrow.Author.Tests.{eq-eqb, ne_eqb}
use Rattle.graph.specs.Lists.{leads, listed, step, Lists, Blank}

-- ---- along the links

-- the links below `count` lead to smaller positions
abbrev Falling : List ℕ → ℕ → Type 0
Falling link count = (e : ℕ) → e < count → get_or link e 0 ≤ e

module _ (link to : List ℕ) (count : ℕ) (falling : Falling link count) (t : ℕ) where
  -- any fuel that suffices gives the same
  leads-fuel : (f g k : ℕ) → k ≤ f → k ≤ g → k ≤ count → leads f link to k t ≡ leads g link to k t
  unfolding leads
  leads-fuel zero zero k a b c = refl
  leads-fuel zero (suc g) zero a b c = refl
  leads-fuel zero (suc g) (suc e) a b c = absurd (omega arith)
  leads-fuel (suc f) zero zero a b c = refl
  leads-fuel (suc f) zero (suc e) a b c = absurd (omega arith)
  leads-fuel (suc f) (suc g) zero a b c = refl
  leads-fuel (suc f) (suc g) (suc e) a b c =
      let l = falling e (omega arith) in
      ap (λ (x : Bool). eqb (get_or to e 0) t || x) (leads-fuel f g (get_or link e 0) (omega arith) (omega arith) (omega arith))

  listed_suc : (e : ℕ) → e < count → listed link to (suc e) t ≡ (eqb (get_or to e 0) t || listed link to (get_or link e 0) t)
  unfolding leads listed
  listed_suc e c =
      let l = falling e c in
      ap (λ (x : Bool). eqb (get_or to e 0) t || x) (leads-fuel e (get_or link e 0) (get_or link e 0) l (omega arith) (omega arith))

  -- what is listed from k on is the target there and what is listed from its link on
  pub listed-step : (k : ℕ) → 0 < k → k ≤ count → listed link to k t ≡ (eqb (get_or to (k - 1) 0) t || listed link to (get_or link (k - 1) 0) t)
  listed-step zero a c = absurd (omega arith)
  listed-step (suc e) a c = let d : suc e - 1 ≡ e = omega arith in rw d (listed_suc e (omega arith))

  -- what stands from `count` on does not matter
  module _ (link' to' : List ℕ) (same : (e : ℕ) → e < count → (get_or link' e 0 ≡ get_or link e 0) × (get_or to' e 0 ≡ get_or to e 0)) where
    leads-same : (f k : ℕ) → k ≤ count → leads f link' to' k t ≡ leads f link to k t
    unfolding leads
    leads-same zero k c = refl
    leads-same (suc f) zero c = refl
    leads-same (suc f) (suc e) c =
        let s = same e (omega arith) in
        let l = falling e (omega arith) in
        ap₂ ◌||◌ (ap (λ (x : ℕ). eqb x t) s.1) (ap (λ (x : ℕ). leads f link' to' x t) s.0 ∙ leads-same f (get_or link e 0) (omega arith))

    listed_same : (k : ℕ) → k ≤ count → listed link' to' k t ≡ listed link to k t
    unfolding listed
    listed_same k c = leads-same k k c

pub listed-end : (link to : List ℕ) (t : ℕ) → listed link to 0 t ≡ false
unfolding leads listed
listed-end link to t = refl

-- ---- no edges

module _ (head link to : List ℕ) (b : Blank head) where
  pub blank-lists : Lists head link to 0
  blank-lists = record {
    heads = λ s. omega (arith, b.blank s);
    edges = record { links = λ e l. absurd (omega arith); targets = λ e l. absurd (omega arith); link_room = omega arith; to_room = omega arith };
  }

  pub blank_step : (s t : ℕ) → step head link to s t ≡ false
  blank_step s t = ap (λ (k : ℕ). listed link to k t) (b.blank s) ∙ listed-end link to t

-- ---- one edge more

module _ (head link to : List ℕ) (count s t : ℕ) (g : Lists head link to count)
    (link_room : count < length link) (to_room : count < length to) (source : s < length head) (target : t < length head) where
  abbrev head' : List ℕ
  head' = set head s (count + 1)

  abbrev link' : List ℕ
  link' = set link count (get_or head s 0)

  abbrev to' : List ℕ
  to' = set to count t

  kept : (e : ℕ) → e < count → (get_or link' e 0 ≡ get_or link e 0) × (get_or to' e 0 ≡ get_or to e 0)
  kept e l = (get_or-set_other link count e _ 0 (omega arith), get_or-set_other to count e t 0 (omega arith))

  link-new : get_or link' count 0 ≡ get_or head s 0
  link-new = get_or-set_same link count (get_or head s 0) 0 link_room

  to-new : get_or to' count 0 ≡ t
  to-new = get_or-set_same to count t 0 to_room

  falling : Falling link' (count + 1)
  falling e l = go (dec_lt e count)
    where
      go : Dec (e < count) → get_or link' e 0 ≤ e
      go (yes h) = rw (kept e h).0 (g.edges.links e h)
      go (no h) = let d : e ≡ count = omega arith in rw (d, link-new) (g.heads s)

  target_at : (e : ℕ) → e < count + 1 → get_or to' e 0 < length head
  target_at e l = go (dec_lt e count)
    where
      go : Dec (e < count) → get_or to' e 0 < length head
      go (yes h) = rw (kept e h).1 (g.edges.targets e h)
      go (no h) = let d : e ≡ count = omega arith in rw (d, to-new) target

  head_at : (a : ℕ) → Dec (a ≡ s) → get_or head' a 0 ≤ count + 1
  head_at a (yes e) = rw (e, get_or-set_same head s (count + 1) 0 source) (omega arith)
  head_at a (no e) = rw (get_or-set_other head s a (count + 1) 0 e) (omega (arith, g.heads a))

  -- the lists as they were
  same : (k b : ℕ) → k ≤ count → listed link' to' k b ≡ listed link to k b
  same k b c = listed_same link to count g.edges.links b link' to' kept k c

  step-at : (a b : ℕ) → Dec (a ≡ s) → step head' link' to' a b ≡ (step head link to a b || (eqb s a && eqb t b))
  step-at a b (yes e) =
      let last : count + 1 - 1 ≡ count = omega arith in
      ap (λ (x : ℕ). step head' link' to' x b) e ∙ ap (λ (k : ℕ). listed link' to' k b) (get_or-set_same head s (count + 1) 0 source)
      ∙ listed-step link' to' (count + 1) falling b (count + 1) (omega arith) (omega arith)
      ∙ ap (λ (k : ℕ). eqb (get_or to' k 0) b || listed link' to' (get_or link' k 0) b) last
      ∙ ap₂ ◌||◌ (ap (λ (x : ℕ). eqb x b) to-new) (ap (λ (k : ℕ). listed link' to' k b) link-new ∙ same (get_or head s 0) b (g.heads s))
      ∙ or_comm (eqb t b) (step head link to s b)
      ∙ ap₂ (λ (x : ℕ) (y : Bool). step head link to x b || (y && eqb t b)) (sym e) (sym (eq-eqb s a (sym e)))
  step-at a b (no e) =
      ap (λ (k : ℕ). listed link' to' k b) (get_or-set_other head s a (count + 1) 0 e) ∙ same (get_or head a 0) b (g.heads a)
      ∙ sym (ap (λ (y : Bool). step head link to a b || (y && eqb t b)) (ne_eqb s a (λ d. e (sym d))) ∙ or-false _)

  pub lists-more : Lists head' link' to' (count + 1)
  lists-more = record {
    heads = λ a. head_at a (ℕ_discrete a s);
    edges = record {
      links = falling;
      targets = λ e l. simp length-set (target_at e l);
      link_room = simp length-set (omega (arith, link_room));
      to_room = simp length-set (omega (arith, to_room));
    };
  }

  pub step-more : (a b : ℕ) → step head' link' to' a b ≡ (step head link to a b || (eqb s a && eqb t b))
  step-more a b = step-at a b (ℕ_discrete a s)
