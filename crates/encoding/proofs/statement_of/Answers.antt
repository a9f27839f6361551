-- `statement_of` meets its contract. Assumes nothing.
use Rattle.std.proofs.Common.{eqb, ◌/◌, ◌%◌, ◌<◌, arith}
use Rattle.encoding.specs.Encoding.{statement_in}
use Rattle.encoding.proofs.Entries.{kind-high}
use Rattle.encoding.proofs.statement_of.Goals as goal

pub returns-in_default : goal.returns-in_default
unfolding statement_in
returns-in_default c =
    let e = c.args.e in
    let h : 4 < e.head % 16 = omega arith in
    rw (kind-high (e.head % 16) (e.head / 64 % 256) (eqb (e.head / 16 % 2) 1) (eqb (e.head / 32 % 2) 1) e.first e.second h, c.operator_of.ensures, c.operand_of-b.ensures, c.operand_of-a-in_default.ensures)
