use Rattle.verdicts.proofs.Marks.{decides-inside}
use Rattle.verdicts.proofs.is_inside.Goals as goal

pub returns : goal.returns
returns c = decides-inside _ _ c.args.m c.statement_of-k.ensures c.if-k-lt1.false
