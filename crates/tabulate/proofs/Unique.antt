-- A call of `tabulate` has one answer, and leaves one table. Assumes nothing.
use mathlib.Core.Path.{◌≡◌, refl, sym, ap, ◌∙◌, subst}
use mathlib.Core.Bool.{true}
use mathlib.Core.Logic.{◌↔◌}
use mathlib.Core.List.{List, [], ◌∷◌}
use Prim.Native.Nat.{ℕ, ◌+◌, ◌*◌, ◌/◌, ◌%◌, ◌^◌, ◌≤◌, ◌<◌}
use native.Mathlib.Decide.{dec_lt}
use native.Mathlib.Omega.{arith}
use lib.ListN.{length, get_or}
use lib.Seq.{ext_get_or}
use Rattle.std.specs.Prelude.{Result, Ok, Err}
use Rattle.language.specs.declared.Statement.{Statement}
use Rattle.program.specs.declared.Refusal.TheVariants as program
use Rattle.program.proofs.RoundTrip.{taken-unique}
use Rattle.bits.specs.Row.{bit}
use Rattle.base.proofs.Bools.{tests_agree}
use Rattle.bits.proofs.Words.{word-unique}
use Rattle.condition.specs.Condition.{Condition, parts}
use Rattle.condition_reader.specs.Reading as condition-reading
use Rattle.condition_reader.specs.declared.Refusal as condition-refusal
use Rattle.condition_reader.specs.declared.Refusal.TheVariants as condition-reader
use Rattle.truth.specs.Truth.{Sat}
use Rattle.condition_reader.proofs.Unique as condition-unique
use Rattle.table.specs.Table.{part_words, part_at}
use Rattle.table.proofs.Summaries.{counts-unique}
use Rattle.calls.specs.Refusals.{number_of}
use Rattle.calls.specs.declared.Refusal.{Refusal}
use Rattle.calls.specs.declared.Refusal.TheVariants.{Room, Program, Text}
use Rattle.calls.proofs.Unique.{refuses-unique, refuses-not}
use Rattle.tabulate.specs.Tabulate.{table_words, TabulateRefused, TabulateFilled, TabulateAnswers}
use Rattle.tabulate.specs.declared.Filled as tabulate

-- every word is one of 64 bits
abbrev pub Words : List ℕ → Type 0
Words ws = (m : ℕ) → get_or ws m 0 < 2 ^ 64

-- the bits of the first n rows are the truth of X, and the words beyond are the old ones
pub record Filled (old new : List ℕ) (n : ℕ) (X : ℕ → ℕ → Type 0) : Type 0 where
  pub same : length new ≡ length old
  pub bits : (k : ℕ) → k < n → (w b : ℕ) → w < part_words → b < 64 → (bit (get_or new (part_words * k + w) 0) b ≡ true) ↔ X k (w * 64 + b)
  pub kept : (m : ℕ) → part_words * n ≤ m → get_or new m 0 ≡ get_or old m 0

-- two words with the same bits
pub word_same : (x y : ℕ) (X : ℕ → Type 0) (w : ℕ) → x < 2 ^ 64 → y < 2 ^ 64
    → ((b : ℕ) → b < 64 → (bit x b ≡ true) ↔ X (w * 64 + b)) → ((b : ℕ) → b < 64 → (bit y b ≡ true) ↔ X (w * 64 + b)) → x ≡ y
word_same x y X w l m f g = word-unique 64 x y l m (λ b h. tests_agree (bit x b) (bit y b) (f b h) (g b h))

-- such a table is one only
module _ {old new other : List ℕ} {n : ℕ} {X : ℕ → ℕ → Type 0} (a : Filled old new n X) (b : Filled old other n X) where
  pub filled-unique : Words new → Words other → new ≡ other
  filled-unique w v = ext_get_or 0 new other (a.same ∙ sym b.same) (λ p _. go p (dec_lt p (part_words * n)))
    where
      go : (p : ℕ) → Dec (p < part_words * n) → get_or new p 0 ≡ get_or other p 0
      go p (yes h) =
          let k : ℕ = p / part_words in
          let i : ℕ = p % part_words in
          let place : part_words * k + i ≡ p = omega arith in
          rw place at (word_same _ _ (X k) i (w (part_words * k + i)) (v (part_words * k + i))
          (λ c l. a.bits k (omega arith) i c (omega arith) l) (λ c l. b.bits k (omega arith) i c (omega arith) l))
      go p (no h) = a.kept p (omega arith) ∙ sym (b.kept p (omega arith))

-- the refusal that has a number
abbrev by_number : ℕ → Refusal condition-refusal.Refusal
by_number n = get_or (Room ∷ Room ∷ Program program.Misspelled ∷ Program program.LineCount ∷ Program program.Placement ∷ Program program.Target
    ∷ Text condition-reader.Length ∷ Text condition-reader.Misspelled ∷ Text condition-reader.PartCount ∷ []) n Room

by_its_number : (r : Refusal condition-refusal.Refusal) → by_number (number_of condition-reading.number r) ≡ r
by_its_number Room = refl
by_its_number (Program program.Misspelled) = refl
by_its_number (Program program.LineCount) = refl
by_its_number (Program program.Placement) = refl
by_its_number (Program program.Target) = refl
by_its_number (Text condition-reader.Length) = refl
by_its_number (Text condition-reader.Misspelled) = refl
by_its_number (Text condition-reader.PartCount) = refl

filled-same : (m i n j k l : ℕ) → m ≡ i → n ≡ j → k ≡ l → ◌≡◌ {A = tabulate.Filled} (record { parts = m; satisfied = n; first = k }) (record { parts = i; satisfied = j; first = l })
filled-same m i n j k l e f g = rw (e, f, g)

-- what the rows of a condition's parts hold
abbrev Truth : List Statement → Condition → ℕ → ℕ → Type 0
Truth P c k s = (s < length P) × Sat P (part_at c k) s

module _ (t u old : List ℕ) where
  table-apart : length old < table_words → table_words ≤ length old → ⊥
  table-apart s e = omega arith

  module _ {m n k i j l : ℕ} {new other : List ℕ} (a : TabulateFilled t u old new m n k) (b : TabulateFilled t u old other i j l) where
    same-program : b.P ≡ a.P
    same-program = taken-unique b.program a.program

    same-condition : b.c ≡ a.c
    same-condition = condition-unique.taken-unique b.condition a.condition

    same_parts : m ≡ i
    same_parts = a.counted ∙ ap (λ (c : Condition). length (parts c)) (sym same-condition) ∙ sym b.counted

    same-counts : (n ≡ j) × (k ≡ l)
    same-counts =
        let decides : (s : ℕ) → (b.truth s ≡ true) ↔ ((s < length a.P) × Sat a.P a.c s) = rw (← same-program, ← same-condition) b.decides in
        counts-unique a.truth b.truth (part_words * 64) (λ s. tests_agree (a.truth s) (b.truth s) (a.decides s) (decides s)) a.counts b.counts

    tabulate-filled : Words new → Words other → ((m ≡ i) × (n ≡ j) × (k ≡ l)) × (new ≡ other)
    tabulate-filled w v =
        let p : Filled old new m (Truth a.P a.c) = record { same = a.same; bits = a.bits; kept = a.kept } in
        let q : Filled old other i (Truth b.P b.c) = record { same = b.same; bits = b.bits; kept = b.kept } in
        let r : Filled old other m (Truth a.P a.c) =
        subst (λ (c : Condition). Filled old other m (Truth a.P c)) same-condition
        (subst (λ (P : List Statement). Filled old other m (Truth P b.c)) same-program
        (subst (λ (x : ℕ). Filled old other x (Truth b.P b.c)) (sym same_parts) q)) in
        ((same_parts, same-counts.0, same-counts.1), filled-unique p r w v)

  tabulate-refused : (n m : ℕ) → TabulateRefused t u old n → TabulateRefused t u old m → n ≡ m
  tabulate-refused = refuses-unique table-apart t (condition-reading.Refused u) condition-reading.number (condition-unique.refused-unique u)

  tabulate-not : (n : ℕ) {i j k : ℕ} {new : List ℕ} → TabulateRefused t u old n → TabulateFilled t u old new i j k → ⊥
  tabulate-not n r f = refuses-not table-apart t (condition-reading.Refused u) condition-reading.number n r f.room f.program (condition-unique.taken_refused f.condition)

  -- a call of `tabulate` has one answer, and leaves one table
  pub tabulate-unique : (a b : Result tabulate.Filled (Refusal condition-refusal.Refusal)) (new other : List ℕ) → Words new → Words other
      → TabulateAnswers t u old new a → TabulateAnswers t u old other b → (a ≡ b) × (new ≡ other)
  tabulate-unique (Err r) (Err s) new other w v p q =
      let same = tabulate-refused (number_of condition-reading.number r) (number_of condition-reading.number s) p.0 q.0 in
      (ap Err (sym (by_its_number r) ∙ ap by_number same ∙ by_its_number s), p.1 ∙ sym q.1)
  tabulate-unique (Err r) (Ok g) new other w v p q = absurd (tabulate-not (number_of condition-reading.number r) p.0 q)
  tabulate-unique (Ok f) (Err s) new other w v p q = absurd (tabulate-not (number_of condition-reading.number s) q.0 p)
  tabulate-unique (Ok f) (Ok g) new other w v p q =
      let same = tabulate-filled p q w v in
      (ap Ok (filled-same f.parts g.parts f.satisfied g.satisfied f.first g.first same.0.0 same.0.1 same.0.2), same.1)
