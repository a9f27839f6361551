-- What is true by the uses that the facts' rows have is true by whatever uses these are the facts of. Assumes nothing.
use mathlib.Core.Path.{◌≡◌, ◌∙◌}
use mathlib.Core.Bool.{Bool, true}
use mathlib.Core.List.{List}
use mathlib.Core.Logic.Iff
use mathlib.Core.Logic.{◌↔◌}
use Prim.Native.Nat.{ℕ, ◌<◌}
use native.Mathlib.Omega.{arith}
use lib.ListN.{length}
use Rattle.language.specs.declared.Statement.{Statement}
use Rattle.ctl.specs.Paths.{Direction, forward, backward}
use Rattle.labelling.specs.Labels.{Labelled}
use Rattle.flow.specs.Flow.{steps}
use Rattle.condition.specs.Condition.{Condition, ValidCondition}
use Rattle.condition.proofs.Words.{held-describes}
use Rattle.truth.specs.Truth.{SatBy}
use Rattle.truth.proofs.By.{each_map, valid-each, sat-same}
use Rattle.atoms.specs.Facts.{used_in}
use Rattle.atoms.proofs.Rows.{facts-in}
use Rattle.table.specs.Known.{KnownBy, KnownIn}
use Rattle.table.specs.Fill.{HeldOf, TableOf}

module _ {U : ℕ → ℕ → Type 0} {P : List Statement} {n : ℕ} {rows : List ℕ} {codes : List (List ℕ)} {flow : List ℕ} (x : KnownBy U P n rows codes flow) where
  pub known_in : KnownIn P n rows codes flow
  known_in = record { size = x.size; few = x.few; found = facts-in x.found; flow_size = x.flow_size; flows = x.flows }

  inside : (d : Direction) (s t : ℕ) → s < length P → steps P d s t ≡ true → t < length P
  inside forward s t l e = x.flows.forward.graph.inside s t l (x.flows.exact_forward s t l ∙ e)
  inside backward s t l e = x.flows.backward.graph.inside s t l (x.flows.exact_backward s t l ∙ e)

  pub sat-by : (c : Condition) → ValidCondition c → (s : ℕ) → s < length P → SatBy (used_in rows) P c s ↔ SatBy U P c s
  sat-by c v = sat-same P (λ s. s < length P) inside (used_in rows) U c (each_map (λ y l. (x.found.used y l).exact) c (valid-each c v))

  pub labelled_by : (c : Condition) → ValidCondition c → {y : ℕ → Bool} → Labelled (length P) y (SatBy (used_in rows) P c) → Labelled (length P) y (SatBy U P c)
  labelled_by c v h = record { exact = λ s l. Iff.trans (h.exact s l) (sat-by c v s l); beyond = h.beyond }

  pub table-by : {t : List ℕ} {c : Condition} {m : ℕ} {ws old new : List ℕ} → HeldOf t c m ws → TableOf (used_in rows) P c old new → TableOf U P c old new
  table-by h table =
      let counted = h.held.counted in
      record { same = table.same; rows = λ k l. labelled_by _ (held-describes h.taken h.held k (omega arith)).stands.valid (table.rows k l); past = table.past }
