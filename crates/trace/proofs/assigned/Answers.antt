-- `assigned` meets its contract: two spaces, the value, and the words where it is the old one. Assumes nothing.
use mathlib.Core.List.{append-nil}
use native.Mathlib.Omega.{arith}
use lib.ListN.{get_or}
use borrow.Author.Tests.{eq-eqb, ne_eqb}
use Rattle.statement_writer.proofs.Puts.{put_then}
use Rattle.trace.specs.Trace.{value_text, assigned}
use Rattle.trace.proofs.Room.{value-most}
use Rattle.trace.proofs.assigned.Goals as goal

pub value-k2-requires : goal.value-k2-requires
value-k2-requires c =
    omega (arith, value-most c.args.x (get_or c.args.new.now c.args.x 0) c.requires.valid_variable)

pub word-requires : goal.word-requires
word-requires c =
    omega (arith, value-most c.args.x (get_or c.args.new.now c.args.x 0) c.requires.valid_variable)

pub returns-then-old-i : goal.returns-then-old-i
unfolding assigned
returns-then-old-i c = rw (eq-eqb _ _ c.if-old-i.true) (put_then c.spaces-k1.ensures (put_then c.value-k2.ensures c.word.ensures))

pub returns : goal.returns
unfolding assigned
returns c =
    rw (ne_eqb _ _ c.if-old-i.false, append-nil (value_text c.args.x (get_or c.args.new.now c.args.x 0)))
    (put_then c.spaces-k1.ensures c.value-k2.ensures)
