-- `words` meets its contract: they are those of the refusal that `judge` answers, with the line that it is about. Assumes nothing.
use mathlib.Core.Path.{refl}
use Rattle.report.proofs.Refusals.{words-most}
use Rattle.report.proofs.Reports.{answer-refused, answer-finished}
use Rattle.refusal_line.proofs.Blames.{blamed}
use native.Mathlib.Omega.{arith}
use borrow.Author.Rules.{rules}
use Rattle.report.proofs.words.Goals as goal

pub write_words-requires : goal.write_words-requires
write_words-requires c =
    words-most c.number-n.result c.line_of_number-line.result _ (search rules) (search rules) c.if-out-lt-REFUSAL_ROOM.false

pub returns-in-Err : goal.returns-in-Err
returns-in-Err c =
    record {
      n = c.number-n.result;
      line = c.line_of_number-line.result;
      refuses = answer-refused c.args.given.now c.args.marks.now
          (record { verdicts = c.verdict_buffer-verdicts.result; new = c.text_buffer-text.result })
          (record { verdicts = c.judge-answer.new.verdicts; new = c.judge-answer.new.text })
          c.judge-answer.ensures c.in-Err.is c.number-n.ensures (omega arith, omega arith);
      blamed = blamed c.line_of_number-line.ensures;
      fits = words-most c.number-n.result c.line_of_number-line.result _ (search rules) (search rules) c.if-out-lt-REFUSAL_ROOM.false;
      written = c.write_words.ensures;
    }

pub returns-in-Ok : goal.returns-in-Ok
returns-in-Ok c =
    let f = answer-finished c.args.given.now c.args.marks.now
    (record { verdicts = c.verdict_buffer-verdicts.result; new = c.text_buffer-text.result })
    (record { verdicts = c.judge-answer.new.verdicts; new = c.judge-answer.new.text })
    c.judge-answer.ensures c.in-Ok.is in
    (f.P, f.program, f.ms, f.marks, refl)
