use mathlib.Core.Path.{◌≡◌}
use Prim.Native.Nat.{ℕ, ◌<◌}
use lib.ListN.{take}
use Rattle.stage_names.specs.Names.{name_bytes}
use Rattle.stages.specs.Stages.{place}
use Rattle.stages.proofs.repeated.Given as goal

-- no place before j has the bytes of k's name
abbrev pub invariant-loop-j : goal.invariant-loop-j
invariant-loop-j l = (i : ℕ) → i < l.j → take name_bytes (place l.stages i) ≡ take name_bytes (place l.stages l.k) → ⊥
