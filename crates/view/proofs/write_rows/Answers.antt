-- `write_rows` meets its contract. The invariant: the rows before place s are written. Assumes nothing.
use Prim.Native.Nat.{ℕ, ◌-◌}
use mathlib.Core.Path.{◌≡◌}
use native.Mathlib.Omega.{arith}
use borrow.Author.Rules.{rules}
use lib.ListN.{length}
use Rattle.program.proofs.Held.{length-held}
use Rattle.view.specs.View.{rows}
use Rattle.statement_writer.proofs.Puts.{put-length}
use Rattle.view.proofs.Rows.{listed, row_of, row_fits, inv-more}
use Rattle.view.proofs.Texts.{upto-none, upto_all}
use Rattle.view.proofs.write_rows.Goals as goal

pub loop-s-init : goal.loop-s-init
unfolding rows
loop-s-init c =
    let l : length (listed c.args.p.entries c.args.p.count) ≡ c.args.p.count = length-held c.args.p.entries c.args.p.count (omega arith) in
    record { room = c.requires.held.room; few = c.requires.held.few; tabled = c.requires.tabled; fits = rw l at c.requires.fits; within = omega arith; put = upto-none _ _ _ }

pub write_row-to-requires : goal.write_row-to-requires
write_row-to-requires c = rw c.statement_of-i.ensures (row_fits c.loop-s.invariant c.loop-s-test.true)

pub loop-s-preserved : goal.loop-s-preserved
loop-s-preserved c = inv-more c.loop-s.invariant c.loop-s-test.true (rw c.statement_of-i.ensures at c.write_row-to.ensures)

pub returns : goal.returns
unfolding rows
returns c =
    let l : length (listed c.args.p.entries c.args.p.count) ≡ c.args.p.count = length-held c.args.p.entries c.args.p.count (omega arith) in
    rw l (upto_all (row_of c.args.table.now c.args.n c.args.p.entries c.args.p.count) c.args.p.count c.loop-s.invariant.within c.loop-s-test.false c.loop-s.invariant.put)
