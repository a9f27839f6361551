use Rattle.statement_writer.proofs.Puts.{put_then}
use Rattle.published.proofs.Published.{unneeded-text}
use Rattle.published.proofs.write_unneeded.Goals as goal

pub returns : goal.returns
returns c = rw unneeded-text (put_then c.word-k1.ensures c.write_live.ensures)
