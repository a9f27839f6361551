use lib.ListN.{get_or}
use Rattle.statement_writer.specs.Writing.{Put}
use Rattle.page.specs.Page.{escape_byte}
use Rattle.view.specs.View.{up_to}
use Rattle.page.proofs.escape.Given as goal

abbrev pub invariant-loop-b : goal.invariant-loop-b
invariant-loop-b l = Put l.initial.out 0 (up_to l.b-index (λ i. escape_byte (get_or l.text i 0))) l.out l.to
