-- `write_verdicts` meets its contract. The invariant: line j of the list begins at the position, and the lines of the verdicts before it
-- are written. Assumes nothing.
use Rattle.report.proofs.Walk.{none_written, written-length, line-there, verdict-there, line_room, written-more, all-written}
use Rattle.marks.proofs.Walk.{line-further}
use Prim.Native.Nat.{◌-◌}
use native.Mathlib.Omega.{arith}
use Rattle.report.proofs.write_verdicts.Goals as goal

pub loop-from-init : goal.loop-from-init
loop-from-init c = none_written c.requires

pub shape_of-out-in_default : goal.shape_of-out-in_default
shape_of-out-in_default c = written-length c.loop-from.invariant

pub returns-in_default : goal.returns-in_default
returns-in_default c = absurd (line-there c.loop-from.invariant c.in_default.is c.line.ensures c.loop-from-test.true)

pub bounds-verdicts-j : goal.bounds-verdicts-j
bounds-verdicts-j c = verdict-there c.loop-from.invariant c.in-Some.is c.line.ensures

pub write_verdict-to-requires : goal.write_verdict-to-requires
write_verdict-to-requires c = line_room c.loop-from.invariant c.in-Some.is c.line.ensures c.statement_of.ensures

pub overflow_add-j : goal.overflow_add-j
overflow_add-j c = omega (arith, verdict-there c.loop-from.invariant c.in-Some.is c.line.ensures)

pub loop-from-smaller : goal.loop-from-smaller
loop-from-smaller c = line-further c.args.list.now c.loop-from.from c.in-Some.is c.line.ensures

pub loop-from-preserved : goal.loop-from-preserved
loop-from-preserved c = written-more c.loop-from.invariant c.in-Some.is c.line.ensures c.statement_of.ensures c.write_verdict-to.ensures

pub shape_of-out : goal.shape_of-out
shape_of-out c = written-length c.loop-from.invariant

pub returns : goal.returns
returns c = all-written c.loop-from.invariant c.loop-from-test.false
