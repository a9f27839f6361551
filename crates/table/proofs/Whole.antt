-- The last row of a filled table is that of the whole condition. Assumes nothing.
use mathlib.Core.Path.{◌≡◌, ap, ◌∙◌, subst}
use mathlib.Core.List.{List}
use Prim.Native.Nat.{ℕ, ◌-◌, ◌≤◌, ◌<◌}
use native.Mathlib.Omega.{arith}
use lib.ListN.{length}
use Rattle.language.specs.declared.Statement.{Statement}
use Rattle.bits.specs.Row.{member}
use Rattle.labelling.specs.Labels.{Labelled}
use Rattle.condition.specs.Condition.{Condition, parts}
use Rattle.truth.specs.Truth.{SatBy}
use Rattle.condition.proofs.Parts.{parts-few, parts_last}
use Rattle.table.specs.Table.{row, part_at}
use Rattle.table.specs.Fill.{HeldOf, TableOf}

module _ {t ws : List ℕ} {c : Condition} {m : ℕ} (h : HeldOf t c m ws) where
  pub held-some : 0 < m
  held-some = let a = h.held.counted in let b = parts-few c in omega arith

  pub held-few : m ≤ 64
  held-few = let a = h.held.counted in let b = h.taken.few in omega arith

  pub whole-labelled : {U : ℕ → ℕ → Type 0} {P : List Statement} {old new : List ℕ} → TableOf U P c old new → Labelled (length P) (member (row new (m - 1))) (SatBy U P c)
  whole-labelled {U = U} {P = P} {new = new} table =
      let n : m ≡ length (parts c) = h.held.counted in
      let some = parts-few c in
      let last : part_at c (m - 1) ≡ c = ap (λ (k : ℕ). part_at c (k - 1)) n ∙ parts_last c in
      subst (λ (d : Condition). Labelled (length P) (member (row new (m - 1))) (SatBy U P d)) last (table.rows (m - 1) (omega arith))
