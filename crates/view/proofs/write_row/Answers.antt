-- `write_row` meets its contract: the number, the statement, the marks and byte 10. Assumes nothing.
use native.Mathlib.Omega.{arith}
use Rattle.statement_writer.proofs.Puts.{put_then, put-length}
use Rattle.view.specs.View.{row}
use Rattle.view.specs.Writing.{truth_in}
use Rattle.view.proofs.Texts.{row-length}
use Rattle.view.proofs.write_row.Goals as goal

pub number-k1-requires : goal.number-k1-requires
number-k1-requires c = omega (arith, row-length (truth_in c.args.table.now) c.args.n c.args.s c.args.e, c.requires.fits)

pub spaces-k2-requires : goal.spaces-k2-requires
spaces-k2-requires c = omega (arith, row-length (truth_in c.args.table.now) c.args.n c.args.s c.args.e, c.requires.fits, c.number-k1.ensures.after, put-length c.number-k1.ensures)

pub statement-k3-requires : goal.statement-k3-requires
statement-k3-requires c = omega (arith, row-length (truth_in c.args.table.now) c.args.n c.args.s c.args.e, c.requires.fits, c.number-k1.ensures.after, put-length c.number-k1.ensures, c.spaces-k2.ensures.after, put-length c.spaces-k2.ensures)

pub spaces-k4-requires : goal.spaces-k4-requires
spaces-k4-requires c = omega (arith, row-length (truth_in c.args.table.now) c.args.n c.args.s c.args.e, c.requires.fits, c.number-k1.ensures.after, put-length c.number-k1.ensures, c.spaces-k2.ensures.after, put-length c.spaces-k2.ensures, c.statement-k3.ensures.after, put-length c.statement-k3.ensures)

pub write_columns-k5-requires : goal.write_columns-k5-requires
write_columns-k5-requires c =
    record {
      tabled = c.requires.tabled;
      placed = c.requires.placed;
      fits = omega (arith, row-length (truth_in c.args.table.now) c.args.n c.args.s c.args.e, c.requires.fits, c.number-k1.ensures.after, put-length c.number-k1.ensures, c.spaces-k2.ensures.after, put-length c.spaces-k2.ensures, c.statement-k3.ensures.after, put-length c.statement-k3.ensures, c.spaces-k4.ensures.after, put-length c.spaces-k4.ensures);
    }

pub byte-requires : goal.byte-requires
byte-requires c = omega (arith, row-length (truth_in c.args.table.now) c.args.n c.args.s c.args.e, c.requires.fits, c.number-k1.ensures.after, put-length c.number-k1.ensures, c.spaces-k2.ensures.after, put-length c.spaces-k2.ensures, c.statement-k3.ensures.after, put-length c.statement-k3.ensures, c.spaces-k4.ensures.after, put-length c.spaces-k4.ensures, c.write_columns-k5.ensures.after, put-length c.write_columns-k5.ensures)

pub returns : goal.returns
unfolding row
returns c =
    put_then c.number-k1.ensures (put_then c.spaces-k2.ensures (put_then c.statement-k3.ensures (put_then c.spaces-k4.ensures
    (put_then c.write_columns-k5.ensures c.byte.ensures))))
