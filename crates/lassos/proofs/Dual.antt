-- Evidence in other words: of operands that are the same on the graph, and against an operator for its dual. Assumes nothing.
use mathlib.Core.Path.{◌≡◌, sym, ◌∙◌}
use mathlib.Core.Bool.{Bool}
use mathlib.Core.List.{List}
use mathlib.Core.Logic.{◌↔◌}
use Prim.Native.Nat.{ℕ, suc, ◌<◌}
use native.Mathlib.Omega.{arith}
use lib.ListN.{length}
use Rattle.ctl.specs.Paths.{Quant, E, A, Paths, So, Graph}
use Rattle.ctl.proofs.Paths.{graph_same}
use Rattle.labelling.specs.declared.Operator.{Operator}
use Rattle.labelling.specs.declared.Operator.TheVariants as op
use Rattle.labelling.specs.Labels.{Said}
use Rattle.labelling.proofs.Labels.{said-iff}
use Rattle.lassos.specs.Lassos.{place, last, Rest, any, turn, Way, Goes, Bears, Not, Neither, Against, Evidence, Evident}
use Rattle.lassos.specs.Dual.{dual, dual_first, dual_second, Same}
use Rattle.lassos.proofs.Ways.{way-inside}
use Rattle.lassos.proofs.Sound.{bears-some, against-all}
use Rattle.lassos.proofs.Complete.{some-iff, not-all-iff}

-- ---- operands that are the same on the graph

same_not : (n : ℕ) (X X' : ℕ → Type 0) → Same n X X' → Same n (Not X) (Not X')
same_not n X X' f t b = ((λ h x. h ((f t b).1 x)), λ h x. h ((f t b).0 x))

same-neither : (n : ℕ) (X Y X' Y' : ℕ → Type 0) → Same n X X' → Same n Y Y' → Same n (Neither X Y) (Neither X' Y')
same-neither n X Y X' Y' f h t b = ((λ z. ((λ x. z.0 ((f t b).1 x)), λ y. z.1 ((h t b).1 y))), λ z. ((λ x. z.0 ((f t b).0 x)), λ y. z.1 ((h t b).0 y)))

module _ {n : ℕ} {step : ℕ → ℕ → Bool} (g : Graph n step) (s : ℕ) (l : s < n) where
  -- a list that goes by steps is a way
  goes-way : (r : Rest) (ls : List ℕ) → Goes step s r ls → Way step s ls
  goes-way any ls w = w
  goes-way (turn t) ls w = w.way

  module _ (X Y X' Y' : ℕ → Type 0) (f : Same n X X') (h : Same n Y Y') (ls : List ℕ) where
    bears-map : (o : Operator) (r : Rest) → Goes step s r ls → Bears o X Y r ls → Bears o X' Y' r ls
    bears-map o r w = go o r
      where
        way : Way step s ls
        way = goes-way r ls w

        on : (i : ℕ) → i < length ls → X (place ls i) → X' (place ls i)
        on i b = (f (place ls i) (way-inside g s l ls way i b)).0

        at_last : last ls < length ls
        at_last = omega (arith, way.some)

        go : (o : Operator) (r : Rest) → Bears o X Y r ls → Bears o X' Y' r ls
        go op.Next any (k, x) = (k, on 1 (omega (arith, k)) x)
        go op.Next (turn t) b = b
        go op.Finally any x = on (last ls) at_last x
        go op.Finally (turn t) b = b
        go op.Globally any b = b
        go op.Globally (turn t) x = λ i b. on i b (x i b)
        go op.Until any (y, x) = ((h (place ls (last ls)) (way-inside g s l ls way (last ls) at_last)).0 y, λ i b. on i (omega arith) (x i b))
        go op.Until (turn t) b = b
        go op.Weak any (y, x) = ((h (place ls (last ls)) (way-inside g s l ls way (last ls) at_last)).0 y, λ i b. on i (omega arith) (x i b))
        go op.Weak (turn t) x = λ i b. on i b (x i b)

  module _ (X Y X' Y' : ℕ → Type 0) (f : Same n X X') (h : Same n Y Y') where
    evidence-map : (k : Quant) (o : Operator) (r : Rest) (ls : List ℕ) → Goes step s r ls → Evidence k o X Y r ls → Evidence k o X' Y' r ls
    evidence-map E o r ls w b = bears-map X Y X' Y' f h ls o r w b
    evidence-map A op.Next r ls w b = bears-map (Not X) (Not Y) (Not X') (Not Y') (same_not n X X' f) (same_not n Y Y' h) ls op.Next r w b
    evidence-map A op.Finally r ls w b = bears-map (Not X) (Not Y) (Not X') (Not Y') (same_not n X X' f) (same_not n Y Y' h) ls op.Globally r w b
    evidence-map A op.Globally r ls w b = bears-map (Not X) (Not Y) (Not X') (Not Y') (same_not n X X' f) (same_not n Y Y' h) ls op.Finally r w b
    evidence-map A op.Until r ls w b = bears-map (Not Y) (Neither X Y) (Not Y') (Neither X' Y') (same_not n Y Y' h) (same-neither n X Y X' Y' f h) ls op.Weak r w b
    evidence-map A op.Weak r ls w b = bears-map (Not Y) (Neither X Y) (Not Y') (Neither X' Y') (same_not n Y Y' h) (same-neither n X Y X' Y' f h) ls op.Until r w b

  pub same_back : (X X' : ℕ → Type 0) → Same n X X' → Same n X' X
  same_back X X' f t b = ((f t b).1, (f t b).0)

  pub evident-map : (k : Quant) (o : Operator) (X Y X' Y' : ℕ → Type 0) → Same n X X' → Same n Y Y' → (r : Rest) (ls : List ℕ) → Evident k o n step X Y s r ls → Evident k o n step X' Y' s r ls
  evident-map k o X Y X' Y' f h r ls e = record {
    few = e.few;
    goes = e.goes;
    shows = evidence-map X Y X' Y' f h k o r ls e.goes e.shows;
    shortest = λ d ks w b. e.shortest d ks w (evidence-map X' Y' X Y (same_back X X' f) (same_back Y Y' h) k o any ks w b);
  }

-- ---- steps that are the same on the graph

module _ {n : ℕ} {step : ℕ → ℕ → Bool} (g : Graph n step) (step' : ℕ → ℕ → Bool) (same : (s t : ℕ) → s < n → step s t ≡ step' s t) (s : ℕ) (l : s < n) where
  way-there : (ls : List ℕ) → Way step s ls → Way step' s ls
  way-there ls w = record { some = w.some; starts = w.starts; steps = λ i b. sym (same (place ls i) (place ls (suc i)) (way-inside g s l ls w i (omega arith))) ∙ w.steps i b }

  way_back : (ls : List ℕ) → Way step' s ls → Way step s ls
  way_back ls w = record { some = w.some; starts = w.starts; steps = λ i b. same (place ls i) (place ls (suc i)) (way-inside (graph_same g step' same) s l ls w i (omega arith)) ∙ w.steps i b }

  goes-there : (r : Rest) (ls : List ℕ) → Goes step s r ls → Goes step' s r ls
  goes-there any ls w = way-there ls w
  goes-there (turn t) ls w = record {
    way = way-there ls w.way;
    within = w.within;
    turns = sym (same (place ls (last ls)) (place ls t) (way-inside g s l ls w.way (last ls) (omega (arith, w.within)))) ∙ w.turns;
  }

  pub evident-steps : (k : Quant) (o : Operator) (X Y : ℕ → Type 0) (r : Rest) (ls : List ℕ) → Evident k o n step X Y s r ls → Evident k o n step' X Y s r ls
  evident-steps k o X Y r ls e = record { few = e.few; goes = goes-there r ls e.goes; shows = e.shows; shortest = λ d ks w b. e.shortest d ks (way_back ks w) b }

-- ---- against an operator

-- what bears the dual out speaks against the operator
pub evident-against : (o : Operator) (n : ℕ) (step : ℕ → ℕ → Bool) (X Y : ℕ → Type 0) (s : ℕ) (r : Rest) (ls : List ℕ) → Evident E (dual o) n step (dual_first o X Y) (dual_second o X Y) s r ls → Evident A o n step X Y s r ls
evident-against op.Next n step X Y s r ls e = record { few = e.few; goes = e.goes; shows = e.shows; shortest = e.shortest }
evident-against op.Finally n step X Y s r ls e = record { few = e.few; goes = e.goes; shows = e.shows; shortest = e.shortest }
evident-against op.Globally n step X Y s r ls e = record { few = e.few; goes = e.goes; shows = e.shows; shortest = e.shortest }
evident-against op.Until n step X Y s r ls e = record { few = e.few; goes = e.goes; shows = e.shows; shortest = e.shortest }
evident-against op.Weak n step X Y s r ls e = record { few = e.few; goes = e.goes; shows = e.shows; shortest = e.shortest }

against-dual : (o : Operator) (X Y : ℕ → Type 0) (r : Rest) (ls : List ℕ) → Against o X Y r ls ↔ Bears (dual o) (dual_first o X Y) (dual_second o X Y) r ls
against-dual op.Next X Y r ls = ((λ b. b), λ b. b)
against-dual op.Finally X Y r ls = ((λ b. b), λ b. b)
against-dual op.Globally X Y r ls = ((λ b. b), λ b. b)
against-dual op.Until X Y r ls = ((λ b. b), λ b. b)
against-dual op.Weak X Y r ls = ((λ b. b), λ b. b)

-- A is false where E of the dual is true; x and y are tests of the dual's operands
module _ {n : ℕ} {step : ℕ → ℕ → Bool} (g : Graph n step) (s : ℕ) (l : s < n) (o : Operator) (p q x y : ℕ → Bool)
    (first : Same n (So x) (dual_first o (So p) (So q))) (second : Same n (So y) (dual_second o (So p) (So q))) where
  abbrev X₁ : ℕ → Type 0
  X₁ = dual_first o (So p) (So q)

  abbrev Y₁ : ℕ → Type 0
  Y₁ = dual_second o (So p) (So q)

  itself : (z : ℕ → Bool) → Same n (So z) (So z)
  itself z t b = ((λ e. e), λ e. e)

  pub not-all-some : (¬ Paths A step s (Said o (So p) (So q))) ↔ Paths E step s (Said (dual o) (So x) (So y))
  not-all-some = (there, back)
    where
      same : Paths E step s (Said (dual o) (So x) (So y)) ↔ Paths E step s (Said (dual o) X₁ Y₁)
      same = said-iff g (dual o) E (So x) (So y) X₁ Y₁ first second s l

      there : ¬ Paths A step s (Said o (So p) (So q)) → Paths E step s (Said (dual o) (So x) (So y))
      there h =
          let m = (not-all-iff g s l p q (So p) (So q) (itself p) (itself q) o).0 h in
          same.1 (bears-some g s l (dual o) X₁ Y₁ m.0 m.1 m.3 ((against-dual o (So p) (So q) m.0 m.1).0 m.4))

      back : Paths E step s (Said (dual o) (So x) (So y)) → ¬ Paths A step s (Said o (So p) (So q))
      back h =
          let m = (some-iff g s l x y X₁ Y₁ first second (dual o)).0 (same.0 h) in
          against-all g s l o (So p) (So q) m.0 m.1 m.3 ((against-dual o (So p) (So q) m.0 m.1).1 m.4)

  -- evidence for the dual, by the tests
  pub evident-dual : (r : Rest) (ls : List ℕ) → Evident E (dual o) n step (So x) (So y) s r ls → Evident A o n step (So p) (So q) s r ls
  evident-dual r ls e = evident-against o n step (So p) (So q) s r ls (evident-map g s l E (dual o) (So x) (So y) X₁ Y₁ first second r ls e)
