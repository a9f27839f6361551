-- Laws of the lists of edges as they are filled: an edge, the steps of one place more, a step of a place to itself. Assumes nothing.
use mathlib.Core.Path.{◌≡◌, refl, sym, ap, ap₂, ◌∙◌}
use mathlib.Core.List.{List, ◌++◌, append-nil}
use mathlib.Core.Bool.{Bool, true, false, ◌||◌, ◌&&◌, not, and-true, and-false, and_comm, or-false, or_self, or_assoc, and-or_distrib_left}
use Prim.Native.Nat.{ℕ, ◌+◌, ◌-◌, ◌*◌, ◌≤◌, ◌<◌}
use native.Mathlib.Decide.{dec_lt, ℕ_discrete}
use native.Mathlib.Omega.{arith}
use lib.ListN.{length, get_or, take, drop, length-append, length-drop, drop_of_length-le}
use lib.Seq.{length-take-le, take-take, take_at, drop_at}
use lib.Dec.{eqb, ltb}
use borrow.Author.Tests.{eq-eqb, ne_eqb, lt-ltb, le-ltb}
use Rattle.base.proofs.Bools.{or_left}
use Rattle.graph.specs.Lists.{listed, Blank}
use Rattle.graph.specs.Graphs.{places, entries, edges_at, head_of, step_of, ListsAt, Room, Added}
use Rattle.graph.proofs.Lists.{listed-end, listed-step, blank-lists, blank_step}
use Rattle.graph.proofs.Graphs.{heads-size, heads-at}
use Rattle.flow.specs.Flow.{some}
use Rattle.flow.specs.FlowOf.{flow_entries}
use Rattle.flow.specs.Edges.{goes, Inside, Holds, turn, edge, with_edge, steps_below, with_self, steps_back, Drawn, BothDrawn}
use Rattle.flow.proofs.Some.{some-none, some_same, some-here}

-- what holds below k, and at k, is what holds below k + 1
below-and : (f : ℕ → Bool) (k x : ℕ) → ((ltb x k && f x) || (eqb k x && f k)) ≡ (ltb x (k + 1) && f x)
below-and f k x = go (dec_lt x k) (ℕ_discrete k x)
  where
    go : Dec (x < k) → Dec (k ≡ x) → ((ltb x k && f x) || (eqb k x && f k)) ≡ (ltb x (k + 1) && f x)
    go (yes l) d = rw (lt-ltb x k l, lt-ltb x (k + 1) (omega arith), ne_eqb k x (omega arith)) (or-false (f x))
    go (no l) (yes e) = rw (le-ltb x k (omega arith), lt-ltb x (k + 1) (omega arith), eq-eqb k x e) (ap f e)
    go (no l) (no e) = rw (le-ltb x k (omega arith), le-ltb x (k + 1) (omega arith), ne_eqb k x e)

-- ---- the numbers

-- there is room for two edges of each of n places, and one more of those that have none
pub space-room : {n : ℕ} {ws : List ℕ} → n ≤ places → length ws ≡ entries → (count s t : ℕ) → count < 3 * n → s < n → t < n → Room ws count s t
space-room few e count s t c ls lt = record { size = e; more = omega arith; source = omega arith; target = omega arith }

-- the first n numbers are cleared
pub cleared-heads : (n : ℕ) (blank ws : List ℕ) → n ≤ places → length blank ≡ n → head_of n (edges_at (blank ++ drop n ws)) ≡ blank
cleared-heads n blank ws few e = take-take n places (blank ++ drop n ws) few ∙ take_at blank (drop n ws) n e

-- ---- one edge

module _ (n : ℕ) (ws ws' : List ℕ) (count s t r : ℕ) (turned : Bool) where
  pub added-straight : turned ≡ false → Added n ws ws' count s t r → Holds n ws' r (count + 1) (with_edge (step_of n (edges_at ws)) turned s t)
  added-straight e a = rw e (record { lists = a.lists; few = omega (arith, a.more); steps = a.steps })

  pub added-turned : turned ≡ true → Added n ws ws' count t s r → Holds n ws' r (count + 1) (with_edge (step_of n (edges_at ws)) turned s t)
  added-turned e a = rw e (record {
    lists = a.lists;
    few = omega (arith, a.more);
    steps = λ x y. a.steps x y ∙ ap (λ (b : Bool). step_of n (edges_at ws) x y || b) (and_comm (eqb t x) (eqb s y));
  })

-- ---- the steps of the first k places, in either direction

turn-or : (turned : Bool) (f g : ℕ → ℕ → Bool) (x y : ℕ) → (turn turned f x y || turn turned g x y) ≡ turn turned (λ a b. f a b || g a b) x y
turn-or true f g x y = refl
turn-or false f g x y = refl

turn-same : (turned : Bool) (f g : ℕ → ℕ → Bool) → ((a b : ℕ) → f a b ≡ g a b) → (x y : ℕ) → turn turned f x y ≡ turn turned g x y
turn-same true f g e x y = e y x
turn-same false f g e x y = e x y

module _ (first second : List ℕ) (turned : Bool) (n : ℕ) where
  -- the first k places' steps are in the lists
  abbrev pub Connected : List ℕ → ℕ → ℕ → Type 0
  Connected ws count k = Holds n ws count (2 * k) (turn turned (steps_below first second k))

  pub connected-none : (ws : List ℕ) → Blank (head_of n (edges_at ws)) → Connected ws 0 0
  connected-none ws b = record {
    lists = blank-lists (head_of n (edges_at ws)) (edges_at ws).link (edges_at ws).to b;
    few = omega arith;
    steps = λ x y. blank_step (head_of n (edges_at ws)) (edges_at ws).link (edges_at ws).to b x y ∙ none turned x y;
  }
    where
      below : (x y : ℕ) → false ≡ steps_below first second 0 x y
      below x y = sym (ap (λ (b : Bool). b && goes first second x y) (le-ltb x 0 (omega arith)))

      none : (d : Bool) (x y : ℕ) → false ≡ turn d (steps_below first second 0) x y
      none true x y = below y x
      none false x y = below x y

  -- the edges from k to its successors
  fork : (k a b : ℕ) → a ≡ get_or first k 0 → b ≡ get_or second k 0 → (x y : ℕ) → (steps_below first second k x y || (edge k a x y || edge k b x y)) ≡ steps_below first second (k + 1) x y
  fork k a b ea eb x y =
      rw (ea, eb)
      (ap (λ (c : Bool). steps_below first second k x y || c) (sym (and-or_distrib_left (eqb k x) (eqb (get_or first k 0) y) (eqb (get_or second k 0) y)))
      ∙ below-and (λ z. goes first second z y) k x)

  module _ (k a b : ℕ) (ea : a ≡ get_or first k 0) (eb : b ≡ get_or second k 0) (ws : List ℕ) (count : ℕ) (h : Connected ws count k)
      (ws₁ : List ℕ) (r₁ : ℕ) (p : Holds n ws₁ r₁ (count + 1) (with_edge (step_of n (edges_at ws)) turned k a)) where
    -- the steps with the first edge
    once : (x y : ℕ) → step_of n (edges_at ws₁) x y ≡ turn turned (λ u v. steps_below first second k u v || edge k a u v) x y
    once x y = p.steps x y ∙ ap (λ (c : Bool). c || turn turned (edge k a) x y) (h.steps x y) ∙ turn-or turned (steps_below first second k) (edge k a) x y

    -- the successors are one place
    pub connected-one : a ≡ b → Connected ws₁ r₁ (k + 1)
    connected-one e = record {
      lists = p.lists;
      few = omega (arith, p.few, h.few);
      steps = λ x y. once x y ∙ turn-same turned _ _ one x y;
    }
      where
        one : (x y : ℕ) → (steps_below first second k x y || edge k a x y) ≡ steps_below first second (k + 1) x y
        one x y = ap (λ (c : Bool). steps_below first second k x y || c) (sym (or_self (edge k a x y))) ∙ fork k a a ea (e ∙ eb) x y

    -- and two
    pub connected-two : (ws₂ : List ℕ) (r₂ : ℕ) → Holds n ws₂ r₂ (r₁ + 1) (with_edge (step_of n (edges_at ws₁)) turned k b) → Connected ws₂ r₂ (k + 1)
    connected-two ws₂ r₂ q = record {
      lists = q.lists;
      few = omega (arith, q.few, p.few, h.few);
      steps = λ x y.
          q.steps x y ∙ ap (λ (c : Bool). c || turn turned (edge k b) x y) (once x y) ∙ turn-or turned (λ u v. steps_below first second k u v || edge k a u v) (edge k b) x y ∙ turn-same turned _ _ two x y;
    }
      where
        two : (x y : ℕ) → ((steps_below first second k x y || edge k a x y) || edge k b x y) ≡ steps_below first second (k + 1) x y
        two x y = or_assoc (steps_below first second k x y) (edge k a x y) (edge k b x y) ∙ fork k a b ea eb x y

  pub connected-all : (ws : List ℕ) (count k m : ℕ) → k ≡ m → Connected ws count k → Connected ws count m
  connected-all ws count k m e h = rw e at h

-- ---- steps to itself

pub with_self-same : (n : ℕ) (f g : ℕ → ℕ → Bool) → ((a b : ℕ) → f a b ≡ g a b) → (k x y : ℕ) → with_self n f k x y ≡ with_self n g k x y
with_self-same n f g e k x y = ap₂ (λ (u v : Bool). u || (ltb x k && (eqb x y && not v))) (e x y) (some_same n (f x) (g x) (e x))

module _ (n : ℕ) (f : ℕ → ℕ → Bool) where
  -- the lists hold the steps f, and of the first k places those without any step to themselves
  abbrev pub SelfStepped : List ℕ → ℕ → ℕ → Type 0
  SelfStepped ws count k = Holds n ws count (2 * n + k) (with_self n f k)

  pub self-none : (ws : List ℕ) (count : ℕ) → ListsAt n ws count → count ≤ 2 * n → ((a b : ℕ) → step_of n (edges_at ws) a b ≡ f a b) → SelfStepped ws count 0
  self-none ws count g l e = record {
    lists = g;
    few = omega arith;
    steps = λ a b. e a b ∙ sym (ap (λ (z : Bool). f a b || (z && (eqb a b && not (some n (f a))))) (le-ltb a 0 (omega arith)) ∙ or-false (f a b));
  }

  module _ (ws : List ℕ) (count k : ℕ) (l : k < n) (few : n ≤ places) (room : length ws ≡ entries) (h : SelfStepped ws count k) where
    abbrev head : List ℕ
    head = head_of n (edges_at ws)

    abbrev link : List ℕ
    link = (edges_at ws).link

    abbrev to : List ℕ
    to = (edges_at ws).to

    size : length head ≡ n
    size = heads-size ws room n few

    -- at k nothing was added yet
    here : (t : ℕ) → step_of n (edges_at ws) k t ≡ f k t
    here t = h.steps k t ∙ ap (λ (z : Bool). f k t || (z && (eqb k t && not (some n (f k))))) (le-ltb k k (omega arith)) ∙ or-false (f k t)

    pub self-skip : (get_or ws k 0 ≡ 0 → ⊥) → SelfStepped ws count (k + 1)
    self-skip z = record {
      lists = h.lists;
      few = omega (arith, h.few);
      steps = λ x y.
          h.steps x y
          ∙ ap (λ (b : Bool). f x y || b)
          (sym (sym (below-and (λ v. eqb v y && not (some n (f v))) k x) ∙ ap (λ (b : Bool). (ltb x k && (eqb x y && not (some n (f x)))) || b) (off x y) ∙ or-false _));
    }
      where
        e : ℕ
        e = get_or head k 0 - 1

        some-edge : 0 < get_or head k 0
        some-edge = rw (heads-at ws room n k few l) (omega (arith, z))

        first_step : f k (get_or to e 0) ≡ true
        first_step =
            let b = h.lists.heads k in
            sym (here (get_or to e 0)) ∙ listed-step link to count h.lists.edges.links (get_or to e 0) (get_or head k 0) some-edge b ∙ or_left (eqb (get_or to e 0) (get_or to e 0)) _ (eq-eqb (get_or to e 0) (get_or to e 0) refl)

        off : (x y : ℕ) → (eqb k x && (eqb k y && not (some n (f k)))) ≡ false
        off x y =
            let b = h.lists.heads k in
            let t = h.lists.edges.targets e (omega (arith, some-edge)) in
            ap (λ (z : Bool). eqb k x && (eqb k y && not z)) (some-here n (f k) (get_or to e 0) (omega (arith, size)) first_step) ∙ ap (λ (z : Bool). eqb k x && z) (and-false (eqb k y)) ∙ and-false (eqb k x)

    pub self-more : get_or ws k 0 ≡ 0 → (ws' : List ℕ) (r : ℕ) → Added n ws ws' count k k r → SelfStepped ws' r (k + 1)
    self-more z ws' r a = record {
      lists = a.lists;
      few = omega (arith, a.more, h.few);
      steps = λ x y.
          a.steps x y ∙ ap (λ (b : Bool). b || (eqb k x && eqb k y)) (h.steps x y) ∙ or_assoc (f x y) (ltb x k && (eqb x y && not (some n (f x)))) (eqb k x && eqb k y)
          ∙ ap (λ (b : Bool). f x y || b) (ap (λ (b : Bool). (ltb x k && (eqb x y && not (some n (f x)))) || (eqb k x && b)) (on y) ∙ below-and (λ v. eqb v y && not (some n (f v))) k x);
    }
      where
        none : some n (f k) ≡ false
        none = some-none n (f k) (λ t b. sym (here t) ∙ ap (λ (j : ℕ). listed link to j t) (heads-at ws room n k few l ∙ z) ∙ listed-end link to t)

        on : (y : ℕ) → eqb k y ≡ (eqb k y && not (some n (f k)))
        on y = sym (ap (λ (b : Bool). eqb k y && not b) none ∙ and-true (eqb k y))

  pub self-all : (ws : List ℕ) (count k : ℕ) → k ≡ n → SelfStepped ws count k → Holds n ws count (3 * n) (with_self n f n)
  self-all ws count k e h = record { lists = h.lists; few = omega (arith, h.few); steps = λ x y. h.steps x y ∙ ap (λ (j : ℕ). with_self n f j x y) e }

-- the same of the same steps
pub self-same : (n : ℕ) (f g : ℕ → ℕ → Bool) → ((a b : ℕ) → f a b ≡ g a b) → (ws : List ℕ) (count : ℕ) → Holds n ws count (3 * n) (with_self n f n) → Holds n ws count (3 * n) (with_self n g n)
self-same n f g e ws count h = record { lists = h.lists; few = h.few; steps = λ x y. h.steps x y ∙ with_self-same n f g e n x y }

-- ---- as a graph

pub inside-fewer : (first second : List ℕ) (k n : ℕ) → k ≤ n → Inside first second n n → Inside first second k n
inside-fewer first second k n l i = record {
  low = l;
  first_room = omega (arith, i.first_room);
  second_room = omega (arith, i.second_room);
  firsts = λ s b. i.firsts s (omega arith);
  seconds = λ s b. i.seconds s (omega arith);
}

pub holds-drawn : (n : ℕ) (ws : List ℕ) (count most : ℕ) (f : ℕ → ℕ → Bool) → n ≤ places → length ws ≡ entries → Holds n ws count most f → Drawn n (edges_at ws) f
holds-drawn n ws count most f few size h = record { size = heads-size ws size n few; linked = record { count = count; lists = h.lists }; steps = h.steps }

-- both directions, each in its part of the numbers xs
module _ (n : ℕ) (first second xs ys zs : List ℕ) (few : n ≤ places) (size : length xs ≡ flow_entries) (ahead : length ys ≡ entries) where
  abbrev half : List ℕ
  half = ys ++ drop entries xs

  -- the second part's numbers
  abbrev others : ℕ
  others = length half - entries

  abbrev new : List ℕ
  new = take entries half ++ (zs ++ drop others (drop entries half))

  half-size : length half ≡ flow_entries
  half-size = simp (length-append, length-drop) (omega arith)

  front : take entries new ≡ ys
  front = take_at (take entries half) _ entries (length-take-le entries half (omega (arith, half-size))) ∙ take_at ys _ entries ahead

  back : drop entries new ≡ zs
  back =
      drop_at (take entries half) _ entries (length-take-le entries half (omega (arith, half-size)))
      ∙ ap (λ (l : List ℕ). zs ++ l) (drop_of_length-le (drop entries half) {i = others} (rw (length-drop entries half) (omega arith))) ∙ append-nil zs

  pub both-drawn : length zs ≡ length (take others (drop entries half)) → (c most d least : ℕ) → Holds n ys c most (steps_below first second n) → Holds n zs d least (steps_back first second n)
      → BothDrawn n first second new
  both-drawn e c most d least f b =
      let behind : length zs ≡ entries = e ∙ length-take-le others (drop entries half) (rw (length-drop entries half) (omega arith)) ∙ (omega (arith, half-size)) in
      record { ahead = rw front (holds-drawn n ys c most _ few ahead f); behind = rw back (holds-drawn n zs d least _ few behind b) }
