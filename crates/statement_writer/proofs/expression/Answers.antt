use mathlib.Core.Path.{ap}
use native.Mathlib.Omega.{arith}
use lib.ListN.{length}
use Rattle.language.specs.Spelling.{spell_expression}
use Rattle.statement_writer.proofs.Puts.{put_then}
use Rattle.language.proofs.Lengths.{binary-length}
use Rattle.statement_writer.proofs.expression.Goals as goal

pub operand-requires : goal.operand-requires
unfolding spell_expression
operand-requires c = omega (arith, ap (λ z. length (spell_expression z)) c.in-Single.is, c.requires)

pub operand-k1-requires : goal.operand-k1-requires
operand-k1-requires c = omega (arith, ap (λ z. length (spell_expression z)) c.in-Binary.is, binary-length c.in-Binary.a c.in-Binary.o c.in-Binary.b, c.requires)

pub byte-k2-requires : goal.byte-k2-requires
byte-k2-requires c = omega (arith, ap (λ z. length (spell_expression z)) c.in-Binary.is, binary-length c.in-Binary.a c.in-Binary.o c.in-Binary.b, c.requires)

pub byte-k3-requires : goal.byte-k3-requires
byte-k3-requires c = omega (arith, ap (λ z. length (spell_expression z)) c.in-Binary.is, binary-length c.in-Binary.a c.in-Binary.o c.in-Binary.b, c.requires)

pub byte-k4-requires : goal.byte-k4-requires
byte-k4-requires c = omega (arith, ap (λ z. length (spell_expression z)) c.in-Binary.is, binary-length c.in-Binary.a c.in-Binary.o c.in-Binary.b, c.requires)

pub operand-requires-in-Binary : goal.operand-requires-in-Binary
operand-requires-in-Binary c = omega (arith, ap (λ z. length (spell_expression z)) c.in-Binary.is, binary-length c.in-Binary.a c.in-Binary.o c.in-Binary.b, c.requires)

pub returns-in-Single : goal.returns-in-Single
unfolding spell_expression
returns-in-Single c = rw c.in-Single.is c.operand.ensures

pub returns-in-Binary : goal.returns-in-Binary
unfolding spell_expression
returns-in-Binary c = rw (c.in-Binary.is, ← c.operator_byte.ensures) (put_then c.operand-k1.ensures (put_then c.byte-k2.ensures (put_then c.byte-k3.ensures (put_then c.byte-k4.ensures c.operand-in-Binary.ensures))))
