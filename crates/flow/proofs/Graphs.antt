-- Lists of edges that hold the model's steps are the two directions of a graph. Assumes nothing.
use mathlib.Core.Path.{◌≡◌, sym, ap, ◌∙◌}
use mathlib.Core.List.{List}
use mathlib.Core.Bool.{Bool, not, ◌&&◌, ◌||◌}
use Prim.Native.Nat.{ℕ, ◌-◌, ◌≤◌, ◌<◌}
use native.Mathlib.Decide.{dec_lt}
use native.Mathlib.Omega.{arith}
use lib.ListN.{length}
use lib.Dec.{eqb, ltb}
use borrow.Author.Tests.{lt-ltb, le-ltb}
use Rattle.language.specs.declared.Statement.{Statement}
use Rattle.program.specs.Program.{WellFormed}
use Rattle.ctl.specs.Paths.{Graph, Direction, forward, backward}
use Rattle.graph.specs.Graphs.{Edges, step_of, Opposite, Directions}
use Rattle.flow.specs.Flow.{steps_forward, precedes, some, steps}
use Rattle.flow.specs.FlowOf.{FlowOf}
use Rattle.flow.specs.Edges.{Successors, steps_below, steps_back, Drawn}
use Rattle.flow.proofs.Edges.{with_self-same}
use Rattle.flow.proofs.Model.{reverse, steps-graph, steps-opposite, precedes-forward}

module _ (P : List Statement) (w : WellFormed P) where
  -- the edges e hold the steps of the direction d
  abbrev Exact : Direction → Edges → Type 0
  Exact d e = (s t : ℕ) → s < length P → step_of (length P) e s t ≡ steps P d s t

  exact-graph : (d : Direction) (e : Edges) → Exact d e → Graph (length P) (step_of (length P) e)
  exact-graph d e x = record {
    inside = λ s t l h. (steps-graph P w d).inside s t l (sym (x s t l) ∙ h);
    onward = λ s l. let o = (steps-graph P w d).onward s l in (o.0, x s o.0 l ∙ o.1);
  }

  exact-opposite : (d : Direction) (e o : Edges) → Exact d e → Exact (reverse d) o → Opposite (length P) (step_of (length P) e) (step_of (length P) o)
  exact-opposite d e o x y = record { turned = λ s t ls lt a. y t s lt ∙ (steps-opposite P w d).turned s t ls lt a ∙ sym (x s t ls) }

  exact-directions : (d : Direction) (e o : Edges) (f g : ℕ → ℕ → Bool) → Drawn (length P) e f → Drawn (length P) o g → Exact d e → Exact (reverse d) o → Directions (length P) e o
  exact-directions d e o f g p q x y = record {
    few = w.counted.1;
    head_size = p.size;
    entry_size = q.size;
    forth = p.linked;
    back = q.linked;
    graph = exact-graph d e x;
    opposite = exact-opposite d e o x y;
  }

  module _ (first second : List ℕ) (q : Successors P first second) where
    -- the steps of the first k places are the model's
    below-exact : (k s t : ℕ) → k ≤ length P → steps_below first second k s t ≡ (ltb s k && steps_forward P s t)
    below-exact k s t l = go (dec_lt s k)
      where
        go : Dec (s < k) → steps_below first second k s t ≡ (ltb s k && steps_forward P s t)
        go (yes b) = ap (λ (v : Bool). ltb s k && v) (q.exact s t (omega arith))
        go (no b) = rw (le-ltb s k (omega arith))

    forward-exact : (e : Edges) → Drawn (length P) e (steps_below first second (length P)) → Exact forward e
    forward-exact e d s t l = d.steps s t ∙ below-exact (length P) s t (omega arith) ∙ ap (λ (v : Bool). v && steps_forward P s t) (lt-ltb s (length P) l)

    backward-exact : (e : Edges) → Drawn (length P) e (steps_back first second (length P)) → Exact backward e
    backward-exact e d s t l =
        d.steps s t ∙ with_self-same (length P) _ (λ a b. precedes P b a) before (length P) s t
        ∙ ap (λ (v : Bool). precedes P t s || (v && (eqb s t && not (some (length P) (λ u. precedes P u s))))) (lt-ltb s (length P) l)
      where
        before : (a b : ℕ) → steps_below first second (length P - 1) b a ≡ precedes P b a
        before a b = below-exact (length P - 1) b a (omega arith) ∙ precedes-forward P w b a

    pub flow-of : (n : ℕ) → n ≡ length P → (f b : Edges) → Drawn n f (steps_below first second n) → Drawn n b (steps_back first second n)
        → FlowOf P (record { forward = f; backward = b })
    flow-of n e f b c d =
        let c' : Drawn (length P) f (steps_below first second (length P)) = rw e at c in
        let d' : Drawn (length P) b (steps_back first second (length P)) = rw e at d in
        let x = forward-exact f c' in
        let y = backward-exact b d' in
        record {
          forward = exact-directions forward f b _ _ c' d' x y;
          backward = exact-directions backward b f _ _ d' c' y x;
          exact_forward = x;
          exact_backward = y;
        }
