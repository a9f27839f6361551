-- Tests of a place and of a target. Assumes nothing.
use mathlib.Core.Path.{◌≡◌}
use Prim.Native.Nat.{ℕ, ◌+◌, ◌≤◌, ◌<◌}
use native.Mathlib.Omega.{arith}
use lib.Dec.{leb, ltb}
use borrow.Author.Tests.{leb-true, leb-false, ltb-true, ltb-false}
use Rattle.program.specs.Program.{Inner, IsTarget}
use Rattle.base.specs.Decides.{Decides}
use Rattle.base.proofs.Decides.{decides}

pub decides-inner : (s n : ℕ) → (s ≡ 0 → ⊥) → Decides (ltb (s + 1) n) (Inner n s)
decides-inner s n z = decides (ltb (s + 1) n) (λ e. let l = ltb-true (s + 1) n e in (omega arith, l)) (λ e i. let l = ltb-false (s + 1) n e in omega arith)

pub decides-target : (t n : ℕ) → 2 ≤ t → Decides (leb t n) (IsTarget n t)
decides-target t n h = decides (leb t n) (λ e. (h, leb-true t n e)) (λ e i. let d : n < t = leb-false t n e in omega arith)
