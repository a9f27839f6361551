use mathlib.Core.Path.{ap}
use native.Mathlib.Omega.{arith}
use lib.ListN.{length}
use Rattle.language.specs.Spelling.{spell}
use Rattle.statement_writer.proofs.Puts.{put_then}
use Rattle.language.proofs.Lengths.{assign-length, branch-length}
use Rattle.statement_writer.proofs.statement.Goals as goal

pub word-k-requires : goal.word-k-requires
unfolding spell
word-k-requires c = omega (arith, ap (λ z. length (spell z)) c.in-Read.is, c.requires)

pub variable-requires : goal.variable-requires
unfolding spell
variable-requires c = omega (arith, ap (λ z. length (spell z)) c.in-Read.is, c.requires)

pub word-k-requires-in-Write : goal.word-k-requires-in-Write
unfolding spell
word-k-requires-in-Write c = omega (arith, ap (λ z. length (spell z)) c.in-Write.is, c.requires)

pub variable-requires-in-Write : goal.variable-requires-in-Write
unfolding spell
variable-requires-in-Write c = omega (arith, ap (λ z. length (spell z)) c.in-Write.is, c.requires)

pub variable-k1-requires : goal.variable-k1-requires
variable-k1-requires c = omega (arith, ap (λ z. length (spell z)) c.in-Assign.is, assign-length c.in-Assign.x c.in-Assign.e, c.requires)

pub word-k2-requires : goal.word-k2-requires
word-k2-requires c = omega (arith, ap (λ z. length (spell z)) c.in-Assign.is, assign-length c.in-Assign.x c.in-Assign.e, c.requires)

pub expression-requires : goal.expression-requires
expression-requires c = omega (arith, ap (λ z. length (spell z)) c.in-Assign.is, assign-length c.in-Assign.x c.in-Assign.e, c.requires)

pub word-k1-requires : goal.word-k1-requires
word-k1-requires c = omega (arith, ap (λ z. length (spell z)) c.in-Branch.is, branch-length c.in-Branch.x c.in-Branch.n c.in-Branch.m, c.requires)

pub variable-k2-requires : goal.variable-k2-requires
variable-k2-requires c = omega (arith, ap (λ z. length (spell z)) c.in-Branch.is, branch-length c.in-Branch.x c.in-Branch.n c.in-Branch.m, c.requires)

pub word-k3-requires : goal.word-k3-requires
word-k3-requires c = omega (arith, ap (λ z. length (spell z)) c.in-Branch.is, branch-length c.in-Branch.x c.in-Branch.n c.in-Branch.m, c.requires)

pub number-k4-requires : goal.number-k4-requires
number-k4-requires c = omega (arith, ap (λ z. length (spell z)) c.in-Branch.is, branch-length c.in-Branch.x c.in-Branch.n c.in-Branch.m, c.requires)

pub word-k5-requires : goal.word-k5-requires
word-k5-requires c = omega (arith, ap (λ z. length (spell z)) c.in-Branch.is, branch-length c.in-Branch.x c.in-Branch.n c.in-Branch.m, c.requires)

pub number-requires : goal.number-requires
number-requires c = omega (arith, ap (λ z. length (spell z)) c.in-Branch.is, branch-length c.in-Branch.x c.in-Branch.n c.in-Branch.m, c.requires)

pub word-requires : goal.word-requires
unfolding spell
word-requires c = omega (arith, ap (λ z. length (spell z)) c.in-Skip.is, c.requires)

pub returns-in-Read : goal.returns-in-Read
unfolding spell
returns-in-Read c = rw c.in-Read.is (put_then c.word-k.ensures c.variable.ensures)

pub returns-in-Write : goal.returns-in-Write
unfolding spell
returns-in-Write c = rw c.in-Write.is (put_then c.word-k-in-Write.ensures c.variable-in-Write.ensures)

pub returns-in-Assign : goal.returns-in-Assign
unfolding spell
returns-in-Assign c = rw c.in-Assign.is (put_then c.variable-k1.ensures (put_then c.word-k2.ensures c.expression.ensures))

pub returns-in-Branch : goal.returns-in-Branch
unfolding spell
returns-in-Branch c = rw c.in-Branch.is (put_then c.word-k1.ensures (put_then c.variable-k2.ensures (put_then c.word-k3.ensures (put_then c.number-k4.ensures (put_then c.word-k5.ensures c.number.ensures)))))

pub returns-in-Skip : goal.returns-in-Skip
unfolding spell
returns-in-Skip c = rw c.in-Skip.is c.word.ensures
