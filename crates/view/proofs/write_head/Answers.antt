-- `write_head` meets its contract: the margin, the columns and byte 10. Assumes nothing.
use native.Mathlib.Omega.{arith}
use Rattle.statement_writer.proofs.Puts.{put_then, put-length}
use Rattle.view.specs.View.{head_row}
use Rattle.view.specs.Writing.{byte_in}
use Rattle.view.proofs.Texts.{head-length}
use Rattle.view.proofs.write_head.Goals as goal

pub spaces-k1-requires : goal.spaces-k1-requires
spaces-k1-requires c = omega (arith, head-length (byte_in c.args.table.now c.args.row) c.args.n, c.requires.fits)

pub write_columns-k2-requires : goal.write_columns-k2-requires
write_columns-k2-requires c =
    let f = c.requires.fits in
    record {
      tabled = c.requires.tabled;
      placed = c.requires.placed;
      fits = omega (arith, head-length (byte_in c.args.table.now c.args.row) c.args.n, c.spaces-k1.ensures.after, put-length c.spaces-k1.ensures);
    }

pub byte-requires : goal.byte-requires
byte-requires c =
    let f = c.requires.fits in
    omega (arith, head-length (byte_in c.args.table.now c.args.row) c.args.n, c.write_columns-k2.ensures.after, c.spaces-k1.ensures.after, put-length c.spaces-k1.ensures, put-length c.write_columns-k2.ensures)

pub returns : goal.returns
unfolding head_row
returns c = put_then c.spaces-k1.ensures (put_then c.write_columns-k2.ensures c.byte.ensures)
