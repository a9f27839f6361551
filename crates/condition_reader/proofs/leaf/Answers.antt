use Rattle.std.proofs.Common.{sym}
use Rattle.condition_reader.proofs.Readers.{leaf-found, leaf-not}
use Rattle.condition_reader.proofs.leaf.Goals as goal

pub returns-in_err-k-clause-tells : goal.returns-in_err-k-clause-tells
returns-in_err-k-clause-tells c =
    let a = c.args in
    rw c.from_residual.ensures (leaf-not a.s.now a.at a.out.now a.n a.out.now (sym c.in_err-k.ensures.result_value))

pub returns-clause-tells : goal.returns-clause-tells
returns-clause-tells c =
    let a = c.args in
    let k = c.in_ok-k in
    leaf-found a.s.now a.at a.out.now a.n k.k k.field-0-0 c.push.new.out (sym k.ensures.result_value) k.ensures.result_in_bounds c.push.ensures
