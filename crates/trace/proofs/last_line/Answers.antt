-- `last_line` meets its contract: the head and byte 10. Assumes nothing.
use mathlib.Core.List.{[]}
use native.Mathlib.Omega.{arith}
use Rattle.statement_writer.proofs.Puts.{put_then}
use Rattle.trace.specs.Trace.{line_text}
use Rattle.trace.proofs.Room.{head-most, line-most}
use borrow.Author.Rules.{rules}
use Rattle.trace.proofs.last_line.Goals as goal

pub head-k1-requires : goal.head-k1-requires
head-k1-requires c =
    record { place_lt_most = c.requires.place_lt_most; s_in_bounds = omega (arith, head-most c.args.k c.args.place c.args.s (search rules) c.requires.place_lt_most c.requires.valid c.requires.targets) }

pub byte-requires : goal.byte-requires
byte-requires c =
    omega (arith, head-most c.args.k c.args.place c.args.s (search rules) c.requires.place_lt_most c.requires.valid c.requires.targets)

pub returns : goal.returns
unfolding line_text
returns c =
    let p = put_then c.head-k1.ensures c.byte.ensures in
    (p, omega (arith, p.after, line-most c.args.k c.args.place c.args.s [] (search rules) c.requires.place_lt_most c.requires.valid c.requires.targets (omega arith)))
