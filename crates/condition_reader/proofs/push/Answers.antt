-- `push` meets its contract: a place beyond the room is kept. Assumes nothing.
use lib.Seq.{set_out}
use mathlib.Core.Path.{sym}
use native.Mathlib.Omega.{arith}
use Rattle.condition.specs.Words.{word}
use Rattle.condition_reader.proofs.push.Goals as goal

pub returns-else-n-lt-MOST_PARTS : goal.returns-else-n-lt-MOST_PARTS
returns-else-n-lt-MOST_PARTS c =
    sym (set_out c.args.out.now c.args.n (word c.args.code c.args.left c.args.start c.args.end) (omega (arith, c.requires.out_len)))
