-- `long` meets its contract: a number of 32 bits has a writer, and a larger one is its last digit after the others. Assumes nothing.
use mathlib.Core.Path.{ap}
use mathlib.Core.List.{[], ◌∷◌}
use Prim.Native.Nat.{◌+◌, ◌/◌, ◌%◌, ◌≤◌}
use native.Mathlib.Omega.{arith}
use lib.ListN.{length, length-append}
use Rattle.language.specs.Spelling.{digits}
use Rattle.language.proofs.Digits.{digits-next}
use Rattle.statement_writer.proofs.Puts.{put_then, room}
use Rattle.answer_line.proofs.+long.Goals as goal

pub long-k-requires : goal.long-k-requires
long-k-requires t c =
    let many : 10 ≤ c.args.n = omega (arith, c.in_default.ensures) in (
      omega arith,
      omega (arith, c.requires, ap length (digits-next c.args.n many), length-append (digits (c.args.n / 10)) ((48 + c.args.n % 10) ∷ [])),
    )

pub byte-requires : goal.byte-requires
byte-requires t c =
    let many : 10 ≤ c.args.n = omega (arith, c.in_default.ensures) in
    room ((48 + c.args.n % 10) ∷ []) c.long-k.ensures (rw (digits-next c.args.n many) at c.requires)

pub returns : goal.returns
returns t c =
    let many : 10 ≤ c.args.n = omega (arith, c.in_default.ensures) in
    rw (digits-next c.args.n many) (put_then c.long-k.ensures c.byte.ensures)
