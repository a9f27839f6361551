-- From the numbers and arms of the rows to what `force` promises. Assumes nothing.
use mathlib.Core.Path.{◌≡◌, sym, ap, ◌∙◌, subst}
use mathlib.Core.List.{List}
use Prim.Native.Nat.{ℕ, ◌+◌, ◌-◌, ◌*◌, ◌≤◌}
use native.Mathlib.Omega.{arith}
use lib.ListN.{length, get_or}
use lib.Seq.{get_or-drop}
use Rattle.language.specs.declared.Statement.{Statement}
use Rattle.program.specs.Program.{Taken}
use Rattle.program.proofs.RoundTrip.{taken-unique}
use Rattle.bits.specs.Row.{member}
use Rattle.ctl.specs.Paths.{So, forward}
use Rattle.flow.proofs.Model.{steps-graph}
use Rattle.condition.specs.Condition.{Condition}
use Rattle.condition.specs.Texts as condition
use Rattle.condition_reader.proofs.Unique as condition-unique
use Rattle.truth.specs.Truth.{uses_of, Sat}
use Rattle.table.specs.Table.{part_words, row}
use Rattle.table.specs.Fill.{HeldOf, TableOf}
use Rattle.table.specs.Summary.{Counts}
use Rattle.table.proofs.Whole.{whole-labelled}
use Rattle.tabulate.specs.Tabulate.{table_words, TabulateFilled}
use Rattle.tabulate.proofs.Tabulates.{tabulated}
use Rattle.driver_reader.specs.Names.{among, Named}
use Rattle.arms.specs.Arms.{his}
use Rattle.arms.specs.Forced.{Forced, Kept}
use Rattle.arms.proofs.Forced.{forced-map}
use Rattle.force.specs.Force.{Beside, Beyond, ForceFilled}

-- what stands after the first n entries is kept
pub beyond-kept : {m n : ℕ} {before after : Beside} → m ≡ n → length after.numbers ≡ length before.numbers → length after.arms ≡ length before.arms
    → Kept n before.numbers after.numbers before.arms after.arms → Beyond m before after
beyond-kept {n = n} {before = before} {after = after} same e f k = rw same (record { sizes = (e, f); kept = λ s l. (at s l, k.arms_kept s l) })
  where
    at : (s : ℕ) → n ≤ s → get_or after.numbers s 0 ≡ get_or before.numbers s 0
    at s l =
        let i : n + (s - n) ≡ s = omega arith in
        rw i at (sym (get_or-drop n after.numbers (s - n) 0) ∙ ap (λ (x : List ℕ). get_or x (s - n) 0) k.numbers_kept ∙ get_or-drop n before.numbers (s - n) 0)

-- the program and the condition of the table are those that were read
module _ {t d u old new : List ℕ} {m satisfied first : ℕ} {before after : Beside} {P : List Statement} {c : Condition} {vs : List ℕ} where
  of-table : TabulateFilled t u old new m satisfied first → Taken t P → condition.Taken u c → Named d vs → Forced P (his P (among vs)) (Sat P c) after.numbers after.arms → Beyond (length P) before after
      → ForceFilled t d u old new m satisfied first before after
  of-table f p r named forced beyond =
      let ep = taken-unique p f.program in
      let ec = condition-unique.taken-unique r f.condition in
      record {
        table = f;
        vs = vs;
        named = named;
        forced = subst (λ (Q : List Statement). Forced Q (his Q (among vs)) (Sat Q f.c) after.numbers after.arms) ep
            (subst (λ (e : Condition). Forced P (his P (among vs)) (Sat P e) after.numbers after.arms) ec forced);
        beyond = subst (λ (Q : List Statement). Beyond (length Q) before after) ep beyond;
      }

module _ {u ws : List ℕ} {c : Condition} {m : ℕ} (h : HeldOf u c m ws) where
  pub filled : {t d old new : List ℕ} {P : List Statement} {satisfied first : ℕ} {vs : List ℕ} {before after : Beside} → Taken t P → table_words ≤ length old → TableOf (uses_of P) P c old new
      → Counts (member (row new (m - 1))) (part_words * 64) satisfied first → Named d vs
      → Forced P (his P (among vs)) (So (member (row new (m - 1)))) after.numbers after.arms → Beyond (length P) before after → ForceFilled t d u old new m satisfied first before after
  filled {P = P} p room table counts named forced beyond =
      of-table (tabulated h p room table counts) p h.taken named (forced-map (steps-graph P p.program forward) (λ s l. (whole-labelled h table).exact s l) forced) beyond
