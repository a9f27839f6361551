-- `write` meets its contract: both outcomes, and that they agree. Assumes nothing.
use native.Mathlib.Omega.{arith}
use Rattle.std.specs.Prelude.{Ok, Err}
use Rattle.statement_writer.proofs.Puts.{put_then}
use Rattle.answer_line.proofs.Lengths.{line-most}
use Rattle.closing.specs.Closing.{closing_text}
use Rattle.closing.proofs.write.Goals as goal

-- by demand 3 both are finished
pub returns-in_default : goal.returns-in_default
returns-in_default c = absurd (c.requires.run_alike (Err c.in_default.field-0) c.run-rewritten.result c.in_default.ensures (rw c.ours-prices.ensures at c.run-rewritten.ensures))

pub returns-in_default-rewritten : goal.returns-in_default-rewritten
returns-in_default-rewritten c = absurd (c.requires.run_alike (Ok c.in-Ok.one) (Err c.in_default-rewritten.field-0) (rw c.ours-prices.ensures at c.in-Ok.ensures) c.in_default-rewritten.ensures)

pub returns : goal.returns
unfolding closing_text
returns c =
    let one = rw c.ours-prices.ensures at c.in-Ok.ensures in
    let two = rw c.ours-prices.ensures at c.in-Ok-rewritten.ensures in
    let same = c.requires.run_alike (Ok c.in-Ok.one) (Ok c.in-Ok-rewritten.two) one two in
    let p = put_then c.word-k1.ensures (put_then c.write-k2.ensures.0 (put_then c.word-k3.ensures (put_then (rw (← same.1) at c.write-k4.ensures.0) c.word.ensures))) in
    record {
      given = c.in-Ok.one.answer;
      rewritten = c.in-Ok-rewritten.two.answer;
      us = c.in-Ok.one.values;
      ws = c.in-Ok-rewritten.two.values;
      ks = c.in-Ok.one.kept;
      one = one;
      two = rw (← same.1) at two;
      alike = same.0;
      traces = c.requires.trace_alike;
      fits = omega (arith, p.after, c.requires.closing_room_in_bounds, c.word-k1.ensures.after, line-most c.in-Ok.one.answer, c.write-k2.ensures.1, c.word-k3.ensures.after, line-most c.in-Ok-rewritten.two.answer, c.write-k4.ensures.1, c.word.ensures.after);
      put = p;
    }
