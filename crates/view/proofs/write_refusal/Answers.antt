-- `write_refusal` meets its contract. Assumes nothing.
use native.Mathlib.Omega.{arith}
use Rattle.view.proofs.Refusals.{text-fits, text_room}
use Rattle.view.proofs.write_refusal.Goals as goal

pub refusal-requires : goal.refusal-requires
refusal-requires c = text_room c.args.n c.args.line _ (omega arith) (omega arith) c.requires

pub returns : goal.returns
returns c = (text-fits c.args.n c.args.line _ (omega arith) (omega arith) c.requires, c.refusal.ensures)
