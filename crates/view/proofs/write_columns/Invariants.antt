use Prim.Native.Nat.{◌≤◌}
use Rattle.statement_writer.specs.Writing.{Put}
use Rattle.view.specs.View.{up_to}
use Rattle.view.specs.Writing.{byte_in}
use Rattle.view.proofs.Texts.{cells}
use Rattle.view.proofs.write_columns.Given as goal

abbrev pub invariant-loop-k : goal.invariant-loop-k
invariant-loop-k l = (l.k ≤ l.last) × Put l.initial.out l.at (up_to l.k (cells (byte_in l.table l.row))) l.out l.to
