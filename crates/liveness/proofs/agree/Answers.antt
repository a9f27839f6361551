-- `agree` meets its contract: no variable is live at the place and differs. Assumes nothing.
use Rattle.liveness.proofs.Agreement.{agreement}
use Rattle.liveness.proofs.agree.Goals as goal

pub returns : goal.returns
returns c = λ P l h m n. agreement l h c.args.a.now c.args.b.now m n c.none_differs.result c.none_differs.ensures
