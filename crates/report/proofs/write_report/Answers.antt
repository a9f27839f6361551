-- `write_report` meets its contract: the counts, the verdicts, the new text. Assumes nothing.
use Rattle.report.proofs.Together.{counts_room, verdicts-room, text_room, put-together}
use Rattle.report.proofs.write_report.Goals as goal

pub write_counts-k1-requires : goal.write_counts-k1-requires
write_counts-k1-requires c = counts_room c.requires

pub write_verdicts-k2-requires : goal.write_verdicts-k2-requires
write_verdicts-k2-requires c = verdicts-room c.requires c.write_counts-k1.ensures

pub word-requires : goal.word-requires
word-requires c = text_room c.requires c.write_counts-k1.ensures c.write_verdicts-k2.ensures

pub returns : goal.returns
returns c = put-together c.requires c.write_counts-k1.ensures c.write_verdicts-k2.ensures c.word.ensures
