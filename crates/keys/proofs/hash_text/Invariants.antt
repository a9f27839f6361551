use Rattle.keys.specs.Store.{span, hash_from}
use Prim.Native.Nat.{◌<◌}
use mathlib.Core.Path.{◌≡◌}
use Rattle.keys.proofs.hash_text.Given as goal

abbrev pub invariant-loop-i : goal.invariant-loop-i
invariant-loop-i l = (l.h < 65536) × (hash_from l.h (span l.i l.end l.text) ≡ hash_from 0 (span l.start l.end l.text))
