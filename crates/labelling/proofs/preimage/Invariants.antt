use Rattle.bits.specs.Row.{member}
use Rattle.ctl.specs.Paths.{quant, So}
use Rattle.ctl.specs.Tables.{Onto}
use Rattle.graph.specs.Lists.{step}
use Rattle.labelling.specs.Labels.{Labelled}
use Rattle.labelling.proofs.preimage.Given as goal

abbrev pub invariant-loop-s : goal.invariant-loop-s
invariant-loop-s l = Labelled l.s (member l.out) (Onto (quant l.all) (step l.steps.head.now l.steps.link.now l.steps.to.now) (So (member l.p)))
