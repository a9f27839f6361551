-- `blame` meets its contract: a text gets one refusal only, or is taken. Assumes nothing.
use Rattle.blame.proofs.Blames.{read_taken, read-refused}
use Rattle.blame.proofs.blame.Goals as goal

pub returns-in-Ok : goal.returns-in-Ok
returns-in-Ok c = read_taken c.in-Ok.ensures.0

pub returns-in-Err : goal.returns-in-Err
returns-in-Err c = read-refused c.in-Err.ensures c.line_of.ensures
