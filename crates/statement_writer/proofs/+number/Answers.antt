use mathlib.Core.Path.{ap}
use mathlib.Core.List.{[], ◌∷◌}
use Prim.Native.Nat.{◌+◌, ◌/◌, ◌%◌}
use native.Mathlib.Omega.{arith}
use lib.ListN.{length, length-append}
use Rattle.language.specs.Spelling.{digits}
use Rattle.language.proofs.Digits.{digits-small, digits-next}
use Rattle.statement_writer.proofs.Puts.{put_then, room}
use Rattle.statement_writer.proofs.+number.Goals as goal

pub byte-requires : goal.byte-requires
byte-requires t c = omega (arith, c.requires, ap length (digits-small c.args.n c.if-n-lt10.true))

pub number-k-requires : goal.number-k-requires
number-k-requires t c =
    (omega arith, omega (arith, c.requires, ap length (digits-next c.args.n c.if-n-lt10.false), length-append (digits (c.args.n / 10)) ((48 + c.args.n % 10) ∷ [])))

pub byte-requires-else-n-lt10 : goal.byte-requires-else-n-lt10
byte-requires-else-n-lt10 t c =
    room ((48 + c.args.n % 10) ∷ []) c.number-k.ensures (rw (digits-next c.args.n c.if-n-lt10.false) at c.requires)

pub returns-then-n-lt10 : goal.returns-then-n-lt10
returns-then-n-lt10 t c = rw (digits-small _ c.if-n-lt10.true) c.byte.ensures

pub returns-else-n-lt10 : goal.returns-else-n-lt10
returns-else-n-lt10 t c = rw (digits-next _ c.if-n-lt10.false) (put_then c.number-k.ensures c.byte-else-n-lt10.ensures)
