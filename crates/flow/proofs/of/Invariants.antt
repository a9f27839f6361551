use Rattle.flow.proofs.Successors.{Listed}
use Rattle.flow.proofs.of.Given as goal

abbrev pub invariant-loop-s : goal.invariant-loop-s
invariant-loop-s l = Listed l.p.entries l.n l.initial.first l.initial.second l.first l.second l.s
