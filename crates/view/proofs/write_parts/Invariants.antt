use Rattle.view.proofs.Parts.{Shown}
use Rattle.view.proofs.write_parts.Given as goal

abbrev pub invariant-loop-k : goal.invariant-loop-k
invariant-loop-k l = Shown l.text l.words l.n l.initial.out l.at l.out l.to l.k
