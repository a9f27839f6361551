-- `refused` meets its contract: a start that is wrong is refused at the beginning, and no run stands anywhere. Assumes nothing.
use mathlib.Core.Path.{refl}
use native.Mathlib.Omega.{arith}
use Rattle.side_by_side.proofs.Starts.{refused-start, stays-refused}
use Rattle.side_by_side.proofs.refused.Goals as goal

pub returns-in-Begin : goal.returns-in-Begin
returns-in-Begin c = λ t m u w read.
    refused-start t m u _ w c.args.wrong read c.in-Begin.is c.told.ensures c.write-n.ensures.0
    (omega (arith, c.write-n.ensures.1, c.requires))

pub returns-in-Steps : goal.returns-in-Steps
returns-in-Steps c = λ t m u w read.
    stays-refused t m u _ w c.args.wrong read _ c.in-Steps.is refl c.stay.ensures

pub returns-in-Closing : goal.returns-in-Closing
returns-in-Closing c = λ t m u w read.
    stays-refused t m u _ w c.args.wrong read _ c.in-Closing.is refl c.stay-in-Closing.ensures

pub returns-in-Ended : goal.returns-in-Ended
returns-in-Ended c = λ t m u w read.
    stays-refused t m u _ w c.args.wrong read _ c.in-Ended.is refl c.stay-in-Ended.ensures

pub returns-in-Refused : goal.returns-in-Refused
returns-in-Refused c = λ t m u w read.
    stays-refused t m u _ w c.args.wrong read _ c.in-Refused.is refl c.stay-in-Refused.ensures
