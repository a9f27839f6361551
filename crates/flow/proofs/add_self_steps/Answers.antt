-- `flow::add_self_steps` meets its contract. The invariant: the lists hold the steps that they held, and each place below s without any
-- has one to itself. Assumes nothing.
use mathlib.Core.Path.{refl, ◌∙◌}
use native.Mathlib.Omega.{arith}
use Rattle.graph.specs.Graphs.{edges_at, step_of}
use Rattle.flow.proofs.Edges.{self-none, self-skip, self-more, self-all}
use Rattle.flow.proofs.add_self_steps.Goals.{then-edges-s-eq0, else-edges-s-eq0}
use Rattle.flow.proofs.add_self_steps.Goals as goal

pub loop-s-init : goal.loop-s-init
loop-s-init c = (c.requires.space.size, self-none _ _ _ _ c.requires.lists_at.0 c.requires.lists_at.1 (λ a b. refl))

pub returns : goal.returns
returns c =
    self-all _ (step_of c.args.n (edges_at c.args.edges.now)) c.loop-s.edges _ c.loop-s.s (omega arith) c.loop-s.invariant.1

pub loop-s-preserved : goal.loop-s-preserved
loop-s-preserved c =
    let few = c.requires.space.few in
    let l = c.loop-s-test.true in
    elim c.if-edges-s-eq0.branch [
      | then-edges-s-eq0 w ↦ rw (w.edges-is, w.count-is) (
        w.add-count.auto.edges ∙ c.loop-s.invariant.0,
        self-more _ (step_of c.args.n (edges_at c.args.edges.now)) c.loop-s.edges _ _ l few c.loop-s.invariant.0 c.loop-s.invariant.1 w.if-edges-s-eq0.true _ _ (w.add-count.ensures _ few l l c.loop-s.invariant.1.lists),
      )
      | else-edges-s-eq0 w ↦ rw (w.edges-is, w.count-is) (
        c.loop-s.invariant.0,
        self-skip _ (step_of c.args.n (edges_at c.args.edges.now)) c.loop-s.edges _ _ l few c.loop-s.invariant.0 c.loop-s.invariant.1 w.if-edges-s-eq0.false,
      )
    ]
