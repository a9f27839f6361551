use Rattle.stages.proofs.Looking.{text-refused}
use Rattle.stages.proofs.text_taken.Goals as goal

pub returns-in-Err : goal.returns-in-Err
returns-in-Err c = text-refused c.args.bytes.now c.length_of-n.result c.length_of-n.ensures c.in-Err.field-0 c.in-Err.ensures
