use Rattle.statement_writer.proofs.Series.{Written}
use Rattle.price_text.specs.PriceText.{price_lines, price_room}
use Rattle.price_text.proofs.lines.Given as goal

abbrev pub invariant-loop-s : goal.invariant-loop-s
invariant-loop-s l = Written (λ k. price_lines k l.before l.after) l.n price_room l.initial.out l.at l.out l.to l.s
