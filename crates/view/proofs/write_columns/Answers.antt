-- `write_columns` meets its contract. The invariant: the bytes of the parts before k are written. Assumes nothing.
use mathlib.Core.Path.{◌∙◌}
use Prim.Native.Nat.{◌-◌}
use native.Mathlib.Omega.{arith}
use Rattle.statement_writer.proofs.Puts.{put_then, put-length}
use Rattle.view.specs.View.{columns}
use Rattle.view.specs.Writing.{byte_in}
use Rattle.view.proofs.Texts.{upto-none, upto-more, upto_all, cells, cells-length, columns-length}
use Rattle.view.proofs.write_columns.Goals as goal

pub overflow_sub-last : goal.overflow_sub-last
overflow_sub-last c = let s = c.requires.tabled.some in omega arith

pub loop-k-init : goal.loop-k-init
loop-k-init c = (omega arith, upto-none _ _ _)

pub byte_in-requires : goal.byte_in-requires
byte_in-requires c =
    let t = c.requires.tabled in
    let s = t.some in
    let f = t.few in
    record { tabled = record { size = t.size; some = omega arith; few = omega arith }; placed = c.requires.placed }

pub byte-to-requires : goal.byte-to-requires
byte-to-requires c =
    let s = c.requires.tabled.some in
    omega (arith, columns-length (byte_in c.args.table.now c.args.row) c.args.n, c.requires.fits, c.loop-k.invariant.1.after, put-length c.loop-k.invariant.1, cells-length (byte_in c.args.table.now c.args.row) c.loop-k.k)

pub loop-k-preserved : goal.loop-k-preserved
loop-k-preserved c =
    (omega arith, upto-more (cells (byte_in c.args.table.now c.args.row)) c.loop-k.invariant.1 (rw c.byte_in.ensures at c.byte-to.ensures))

pub spaces-k1-requires : goal.spaces-k1-requires
spaces-k1-requires c =
    let s = c.requires.tabled.some in
    omega (arith, columns-length (byte_in c.args.table.now c.args.row) c.args.n, c.requires.fits, c.loop-k.invariant.1.after, put-length c.loop-k.invariant.1, cells-length (byte_in c.args.table.now c.args.row) c.loop-k.k)

pub byte_in-requires-2 : goal.byte_in-requires-2
byte_in-requires-2 c =
    let t = c.requires.tabled in
    let s = t.some in
    let f = t.few in
    record { tabled = record { size = t.size; some = omega arith; few = omega arith }; placed = c.requires.placed }

pub byte-requires : goal.byte-requires
byte-requires c =
    let s = c.requires.tabled.some in
    omega (arith, columns-length (byte_in c.args.table.now c.args.row) c.args.n, c.requires.fits, c.loop-k.invariant.1.after, put-length c.loop-k.invariant.1, cells-length (byte_in c.args.table.now c.args.row) c.loop-k.k)

pub shape_of-out : goal.shape_of-out
shape_of-out c = put-length c.byte.ensures ∙ put-length c.spaces-k1.ensures ∙ put-length c.loop-k.invariant.1

pub returns : goal.returns
unfolding columns
returns c =
    put_then (upto_all (cells (byte_in c.args.table.now c.args.row)) (c.args.n - 1) c.loop-k.invariant.0 c.loop-k-test.false c.loop-k.invariant.1)
    (put_then c.spaces-k1.ensures (rw c.byte_in-2.ensures at c.byte.ensures))
