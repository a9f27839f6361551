-- `line` meets its contract: the head, the rewritten statement, the differences and byte 10. Assumes nothing.
use native.Mathlib.Omega.{arith}
use Rattle.language.specs.Spelling.{variables}
use Rattle.statement_writer.proofs.Puts.{put_then}
use Rattle.trace.proofs.Room.{head-most, text-most}
use Rattle.comparison.specs.Lines.{pair_line}
use Rattle.comparison.proofs.Room.{differences-parts, line-most}
use Rattle.statement_writer.proofs.Series.{parts-most}
use borrow.Author.Rules.{rules}
use Rattle.comparison.proofs.line.Goals as goal

pub head-k1-requires : goal.head-k1-requires
head-k1-requires c =
    record { place_lt_most = c.requires.place_lt_most; s_in_bounds = omega (arith, head-most c.args.k c.args.place c.args.s (search rules) c.requires.place_lt_most c.requires.valid.0 c.requires.valid.1) }

pub spaces-k2-requires : goal.spaces-k2-requires
spaces-k2-requires c =
    omega (arith, head-most c.args.k c.args.place c.args.s (search rules) c.requires.place_lt_most c.requires.valid.0 c.requires.valid.1)

pub statement-k3-requires : goal.statement-k3-requires
statement-k3-requires c =
    omega (arith, head-most c.args.k c.args.place c.args.s (search rules) c.requires.place_lt_most c.requires.valid.0 c.requires.valid.1, text-most c.args.t c.requires.valid_2.0 c.requires.valid_2.1)

pub differences-k4-requires : goal.differences-k4-requires
differences-k4-requires c =
    omega (arith, head-most c.args.k c.args.place c.args.s (search rules) c.requires.place_lt_most c.requires.valid.0 c.requires.valid.1, text-most c.args.t c.requires.valid_2.0 c.requires.valid_2.1)

pub byte-requires : goal.byte-requires
byte-requires c =
    let head = head-most c.args.k c.args.place c.args.s (search rules) c.requires.place_lt_most c.requires.valid.0 c.requires.valid.1 in
    let text = text-most c.args.t c.requires.valid_2.0 c.requires.valid_2.1 in
    omega (arith, head, text, parts-most (differences-parts c.args.a.now c.args.b.now) variables (omega arith))

pub returns : goal.returns
unfolding pair_line
returns c =
    let p = put_then c.head-k1.ensures (put_then c.spaces-k2.ensures (put_then c.statement-k3.ensures (put_then c.differences-k4.ensures c.byte.ensures))) in
    (p, omega (arith, p.after, line-most c.args.k c.args.place c.args.s c.args.t c.args.a.now c.args.b.now (search rules) c.requires.place_lt_most c.requires.valid c.requires.valid_2))
