-- From the rows of the table to the bits that `tabulate` promises. Assumes nothing.
use mathlib.Core.Path.{◌≡◌, sym, ap, ◌∙◌, subst}
use mathlib.Core.Bool.{Bool, true, true≢false}
use mathlib.Core.List.{List}
use mathlib.Core.Logic.{◌↔◌}
use Prim.Native.Nat.{ℕ, ◌+◌, ◌-◌, ◌*◌, ◌≤◌, ◌<◌}
use native.Mathlib.Decide.{dec_lt}
use native.Mathlib.Omega.{arith}
use lib.ListN.{length, get_or, drop}
use lib.Seq.{get_or-take, get_or-drop}
use Rattle.std.specs.Prelude.{Result, Ok, Err, MatchResult, is_ok}
use Rattle.language.specs.declared.Statement.{Statement}
use Rattle.program.specs.Program.{Taken}
use Rattle.bits.specs.Row.{bit, member}
use Rattle.bits.proofs.Rows.{word-member}
use Rattle.base.proofs.Bools.{clash}
use Rattle.labelling.specs.Labels.{Labelled}
use Rattle.condition.specs.Condition.{Condition, parts}
use Rattle.condition_reader.specs.Reading.{ConditionRead}
use Rattle.condition_reader.specs.declared.Reading.{Reading}
use Rattle.condition_reader.specs.declared.Refusal.{Refusal}
use Rattle.truth.specs.Truth.{uses_of}
use Rattle.table.specs.Table.{part_words, row}
use Rattle.table.specs.Fill.{HeldOf, SomeHeld, TableOf}
use Rattle.table.proofs.Whole.{held-some, whole-labelled}
use Rattle.table.specs.Summary.{Counts}
use Rattle.tabulate.specs.Tabulate.{table_words, TabulateFilled}

-- the condition that was read, where its refusal is told as that of a call's second text
abbrev HeldIn : (E : Type 0) → List ℕ → Result Reading E → Type 0
HeldIn E u (Ok c) = SomeHeld u c.count c.words
HeldIn E u (Err e) = Unit

pub condition-held : (E : Type 0) (Q : Refusal → Type 0) {u : List ℕ} {c : Reading} (r : Result Reading Refusal) → ConditionRead u r → MatchResult r (λ x. ◌≡◌ {A = Result Reading E} (Ok c) (Ok x)) Q → true ≡ is_ok r → SomeHeld u c.count c.words
condition-held E Q {u = u} (Ok x) h e t = subst (HeldIn E u) (sym e) (record { c = h.0; held = record { taken = h.1; held = h.2 } })
condition-held E Q (Err e) h q t = absurd (true≢false t)

-- a bit of a row is set exactly at the places below n of which X is true
pub labelled-bit : {n : ℕ} {y : ℕ → Bool} {X : ℕ → Type 0} → Labelled n y X → (s : ℕ) → (y s ≡ true) ↔ ((s < n) × X s)
labelled-bit {n = n} {y = y} {X = X} l s = go (dec_lt s n)
  where
    go : Dec (s < n) → (y s ≡ true) ↔ ((s < n) × X s)
    go (yes h) = (λ e. (h, (l.exact s h).0 e), λ x. (l.exact s h).1 x.1)
    go (no h) = (λ e. clash e (l.beyond s (omega arith)), λ x. absurd (h x.0))

-- the same of a word of the table
pub row-bit : (ws : List ℕ) (k w b : ℕ) → w < part_words → b < 64 → member (row ws k) (w * 64 + b) ≡ bit (get_or ws (part_words * k + w) 0) b
row-bit ws k w b h l =
    word-member (row ws k) w b l
    ∙ ap (λ (x : ℕ). bit x b) (get_or-take part_words (drop (part_words * k) ws) w 0 h ∙ get_or-drop (part_words * k) ws w 0)

module _ {u ws : List ℕ} {c : Condition} {m : ℕ} (h : HeldOf u c m ws) where
  pub tabulated : {t old new : List ℕ} {P : List Statement} {satisfied first : ℕ} → Taken t P → table_words ≤ length old → TableOf (uses_of P) P c old new → Counts (member (row new (m - 1))) (part_words * 64) satisfied first
      → TabulateFilled t u old new m satisfied first
  tabulated {new = new} {P = P} p room table counts =
      let n : m ≡ length (parts c) = h.held.counted in
      let some = held-some h in
      record {
        P = P;
        c = c;
        room = room;
        program = p;
        condition = h.taken;
        counted = n;
        same = table.same;
        bits = λ k l w b i j. rw (← row-bit new k w b i j) (labelled-bit (table.rows k (omega arith)) (w * 64 + b));
        kept = λ k l. table.past k (omega arith);
        truth = member (row new (m - 1));
        decides = λ s. labelled-bit (whole-labelled h table) s;
        counts = counts;
      }
