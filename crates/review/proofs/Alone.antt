-- "Each condition .. reads as it would by itself": what `review` tells of a line is what `tabulate` answers for that line alone. Assumes nothing.
use mathlib.Core.Path.{◌≡◌, refl, sym, ap, ◌∙◌, subst}
use mathlib.Core.Bool.{true}
use mathlib.Core.Logic.{◌↔◌}
use mathlib.Core.List.{List, []}
use Prim.Native.Nat.{ℕ, ◌+◌, ◌-◌, ◌*◌, ◌≤◌, ◌<◌}
use native.Mathlib.Omega.{arith}
use lib.ListN.{length, get_or}
use Rattle.program.proofs.RoundTrip.{taken-unique}
use Rattle.base.proofs.Bools.{tests_agree}
use Rattle.bits.specs.Row.{bit}
use Rattle.condition.specs.Condition.{Condition, parts}
use Rattle.condition.specs.Texts as condition
use Rattle.condition.proofs.Parts.{parts-few, parts_last}
use Rattle.condition_reader.specs.Reading as condition-reading
use Rattle.condition_reader.proofs.Unique as condition-unique
use Rattle.truth.specs.Truth.{Sat}
use Rattle.table.specs.Table.{part_words, part_at}
use Rattle.table.proofs.Summaries.{counts-unique}
use Rattle.sharing.specs.Sharing.{part, firsts, parts_of}
use Rattle.sharing.proofs.Lines.{line_known, line-own}
use Rattle.calls.proofs.Unique.{refuses-not}
use Rattle.review_reader.proofs.Taken.{taken-valid, taken_at}
use Rattle.tabulate.specs.Tabulate.{table_words, TabulateFilled, TabulateAnswers}
use Rattle.tabulate.specs.declared.Filled as tabulate
use Rattle.std.specs.Prelude.{Result, Ok, Err}
use Rattle.calls.specs.Refusals.{number_of as number_of_refusal}
use Rattle.calls.specs.declared.Refusal.{Refusal}
use Rattle.condition_reader.specs.declared.Refusal as condition-refusal
use Rattle.tabulate.proofs.Unique.{Words, word_same}
use Rattle.review.specs.Review.{Told, ReviewFilled}

module _ {t u old new : List ℕ} {tables lines : ℕ} {o : Told} (f : ReviewFilled t u old new tables lines o) (j : ℕ) (l : j < lines) where
  -- the text of line j
  abbrev pub line : List ℕ
  line = get_or f.conditions.spelled.ls j []

  abbrev c : Condition
  c = part f.cs j

  -- its table
  abbrev pub table : ℕ
  table = get_or o.tables j 0

  inside : j < length f.cs
  inside = omega (arith, f.counted)

  taken : condition.Taken line c
  taken = taken_at f.conditions.spelled.ls f.cs j inside f.conditions.spelled.taken

  own : part (firsts (parts_of f.cs)) table ≡ c
  own = rw (f.each j l).points (line-own f.cs j inside (taken-valid f.conditions.spelled.ls f.cs f.conditions.spelled.taken))

  among : table < tables
  among = omega (arith, (f.each j l).points, line_known f.cs j inside, f.filled)

  -- the same row, the same counts
  pub record Same (new' : List ℕ) (count n k : ℕ) : Type 0 where
    pub parts : get_or o.parts j 0 ≡ count
    pub satisfied : get_or o.satisfied j 0 ≡ n
    pub first : get_or o.first j 0 ≡ k
    pub row : (w : ℕ) → w < part_words → get_or new (part_words * table + w) 0 ≡ get_or new' (part_words * (count - 1) + w) 0

  module _ {old' new' : List ℕ} {count satisfied first : ℕ} (g : TabulateFilled t line old' new' count satisfied first) where
    same-program : g.P ≡ f.P
    same-program = taken-unique g.program f.program

    same-condition : g.c ≡ c
    same-condition = condition-unique.taken-unique g.condition taken

    -- the places of the program at which the line is true
    abbrev Truth : ℕ → Type 0
    Truth s = (s < length f.P) × Sat f.P c s

    counts : (get_or o.satisfied j 0 ≡ satisfied) × (get_or o.first j 0 ≡ first)
    counts =
        let e = f.each j l in
        let decides : (s : ℕ) → (g.truth s ≡ true) ↔ Truth s = rw (← same-program, ← same-condition) g.decides in
        counts-unique e.truth g.truth (part_words * 64) (λ s. tests_agree (e.truth s) (g.truth s) (e.decides s) (decides s)) e.counts g.counts

    here : (w : ℕ) → w < part_words → (b : ℕ) → b < 64 → (bit (get_or new (part_words * table + w) 0) b ≡ true) ↔ Truth (w * 64 + b)
    here w h b d = subst (λ (x : Condition). (bit (get_or new (part_words * table + w) 0) b ≡ true) ↔ ((w * 64 + b < length f.P) × Sat f.P x (w * 64 + b))) own (f.bits table among w b h d)

    there : (w : ℕ) → w < part_words → (b : ℕ) → b < 64 → (bit (get_or new' (part_words * (count - 1) + w) 0) b ≡ true) ↔ Truth (w * 64 + b)
    there w h b d =
        let some = parts-few g.c in
        let e : part_at g.c (count - 1) ≡ c = ap (λ (n : ℕ). part_at g.c (n - 1)) g.counted ∙ parts_last g.c ∙ same-condition in
        rw (← same-program, ← e) (g.bits (count - 1) (omega (arith, g.counted)) w b h d)

    filled-alone : Words new → Words new' → Same new' count satisfied first
    filled-alone x y = record {
      parts = (f.each j l).counted ∙ ap (λ (d : Condition). length (parts d)) (sym same-condition) ∙ sym g.counted;
      satisfied = counts.0;
      first = counts.1;
      row = λ w h. word_same _ _ Truth w (x (part_words * table + w)) (y (part_words * (count - 1) + w)) (here w h) (there w h);
    }

  -- `tabulate` on the line alone, with a table that is large enough, is not refused, and answers the same
  pub review-alone : (a : Result tabulate.Filled (Refusal condition-refusal.Refusal)) (old' new' : List ℕ) → table_words ≤ length old' → Words new → Words new'
      → TabulateAnswers t line old' new' a → (r : tabulate.Filled) × (a ≡ Ok r) × Same new' r.parts r.satisfied r.first
  review-alone (Err r) old' new' room x y h =
      absurd (refuses-not (λ s e. omega arith) t (condition-reading.Refused line) condition-reading.number (number_of_refusal condition-reading.number r) h.0 room f.program (condition-unique.taken_refused taken))
  review-alone (Ok r) old' new' room x y h = (r, refl, filled-alone h x y)
