-- `write_words` meets its contract: the words and byte 10. Assumes nothing.
use Rattle.report.proofs.Refusals.{words-length}
use Rattle.report.specs.Words.{words_line}
use Rattle.statement_writer.proofs.Puts.{put_then}
use native.Mathlib.Omega.{arith}
use Rattle.report.proofs.write_words.Goals as goal

pub words-k-requires : goal.words-k-requires
words-k-requires c = omega (arith, words-length c.args.n c.args.line)

pub byte-requires : goal.byte-requires
byte-requires c = omega (arith, words-length c.args.n c.args.line)

pub returns : goal.returns
unfolding words_line
returns c = put_then c.words-k.ensures c.byte.ensures
