-- `tabulate::fill` meets its contract: the facts and the graph of the program, then the table by them. Assumes nothing.
use native.Mathlib.Omega.{arith}
use Rattle.table.proofs.Whole.{held-some, held-few}
use Rattle.table.proofs.By.{known_in, table-by}
use Rattle.atoms.proofs.Found.{placeless}
use Rattle.calls.proofs.Known.{known-program}
use Rattle.tabulate.proofs.fill.Goals as goal

pub find-requires : goal.find-requires
find-requires c = record { held = c.requires.held.0; well_formed = c.requires.held.1.1.program; placeless = placeless c.blank-rows.ensures }

pub of-requires : goal.of-requires
of-requires c = record { held = c.requires.held.0; well_formed = c.requires.held.1.1.program; flow_len = c.requires.flow_len.0 }

pub fill-requires : goal.fill-requires
fill-requires c =
    let few = held-few c.requires.some_held.held in
    let known = known-program {flow = c.of.new.flow} c.requires.held.1.1 c.requires.held.0 c.find.ensures c.blank_codes-codes.ensures.many c.of.ensures (omega (arith, c.of.auto.flow, c.requires.flow_len.0)) in
    record { some_known = record { P = _; known = known_in known }; some_held = c.requires.some_held; parts_in_bounds = omega (arith, c.requires.flow_len.1) }

pub overflow_sub-last : goal.overflow_sub-last
overflow_sub-last c = omega (arith, held-some c.requires.some_held.held)

pub summary_of-requires : goal.summary_of-requires
summary_of-requires c =
    omega (arith, held-some c.requires.some_held.held, held-few c.requires.some_held.held, c.requires.flow_len.1, c.fill.auto.table)

pub returns : goal.returns
returns c =
    let known = known-program {flow = c.of.new.flow} c.requires.held.1.1 c.requires.held.0 c.find.ensures c.blank_codes-codes.ensures.many c.of.ensures (omega (arith, c.of.auto.flow, c.requires.flow_len.0)) in
    record {
      table = λ d h. table-by known h (c.fill.ensures _ d (known_in known) h);
      flows = c.of.ensures;
      counts = c.summary_of.ensures;
    }
