use Rattle.keys.proofs.Lists.{Search}
use Rattle.keys.proofs.find.Given as goal

abbrev pub invariant-loop-p : goal.invariant-loop-p
invariant-loop-p l = Search l.text l.entries l.count l.w l.p

abbrev pub decreases-loop-p : goal.decreases-loop-p
decreases-loop-p l = l.p
