-- A call of `review` has one answer, tells one thing of each line, and leaves one table. Assumes nothing.
use mathlib.Core.Path.{◌≡◌, refl, sym, ap, ◌∙◌, subst}
use mathlib.Core.List.{List, [], ◌∷◌}
use Prim.Native.Nat.{ℕ, ◌*◌, ◌≤◌, ◌<◌}
use native.Mathlib.Decide.{dec_lt}
use native.Mathlib.Omega.{arith}
use lib.ListN.{length, get_or}
use lib.Seq.{ext_get_or}
use Rattle.language.specs.declared.Statement.{Statement}
use Rattle.program.proofs.RoundTrip.{taken-unique}
use Rattle.base.proofs.Bools.{tests_agree}
use Rattle.condition.specs.Condition.{Condition}
use Rattle.truth.specs.Truth.{Sat}
use Rattle.table.specs.Table.{part_words}
use Rattle.table.proofs.Summaries.{counts-unique}
use Rattle.sharing.specs.Sharing.{most_lines, part, firsts, parts_of}
use Rattle.std.specs.Prelude.{Result, Ok, Err}
use Rattle.calls.specs.Refusals.{number_of as number_of_refusal}
use Rattle.calls.specs.declared.Refusal.{Refusal}
use Rattle.calls.specs.declared.Refusal.TheVariants.{Room, Program, Text}
use Rattle.program.specs.declared.Refusal.TheVariants as program
use Rattle.condition_reader.specs.declared.Refusal.TheVariants as condition-reader
use Rattle.review_reader.specs.declared.Refusal.TheVariants as review-reader
use Rattle.calls.proofs.Unique.{refuses-unique, refuses-not}
use Rattle.review_reader.specs.Reading as reading
use Rattle.review_reader.specs.declared.Refusal as reading-refusal
use Rattle.review_reader.proofs.Unique as reading-unique
use Rattle.tabulate.proofs.Unique.{Words, Filled, filled-unique}
use Rattle.review.specs.Review.{review_words, ReviewRefused, Told, LineTold, Rest, ReviewFilled, told_of, ReviewAnswers}
use Rattle.review.specs.declared.Reviewed.{Reviewed}

-- what is told of a line is one thing
line-unique : {P : List Statement} {ds : List Condition} {c : Condition} {a b d e i j k l : ℕ} → LineTold P ds c a b d e → LineTold P ds c i j k l → (a ≡ i) × (b ≡ j) × (d ≡ k) × (e ≡ l)
line-unique x y =
    let n = counts-unique x.truth y.truth (part_words * 64) (λ s. tests_agree (x.truth s) (y.truth s) (x.decides s) (y.decides s)) x.counts y.counts in
    (x.points ∙ sym y.points, x.counted ∙ sym y.counted, n.0, n.1)

-- two that tell the same of each line, and zeros past them
module _ {o q : Told} {lines : ℕ} (a : Rest o most_lines lines) (b : Rest q most_lines lines)
    (same : (j : ℕ) → j < lines
    → (get_or o.tables j 0 ≡ get_or q.tables j 0) × (get_or o.parts j 0 ≡ get_or q.parts j 0) × (get_or o.satisfied j 0 ≡ get_or q.satisfied j 0) × (get_or o.first j 0 ≡ get_or q.first j 0)) where
  each_same : (j : ℕ) → Dec (j < lines)
      → (get_or o.tables j 0 ≡ get_or q.tables j 0) × (get_or o.parts j 0 ≡ get_or q.parts j 0) × (get_or o.satisfied j 0 ≡ get_or q.satisfied j 0) × (get_or o.first j 0 ≡ get_or q.first j 0)
  each_same j (yes l) = same j l
  each_same j (no l) =
      let x = a.zeros j (omega arith) in
      let y = b.zeros j (omega arith) in
      (x.0 ∙ sym y.0, x.1 ∙ sym y.1, x.2 ∙ sym y.2, x.3 ∙ sym y.3)

  told_same : o ≡ q
  told_same =
      let s = a.sizes in
      let r = b.sizes in
      let e = ext_get_or 0 o.tables q.tables (s.0 ∙ sym r.0) (λ j _. (each_same j (dec_lt j lines)).0) in
      let f = ext_get_or 0 o.parts q.parts (s.1 ∙ sym r.1) (λ j _. (each_same j (dec_lt j lines)).1) in
      let g = ext_get_or 0 o.satisfied q.satisfied (s.2 ∙ sym r.2) (λ j _. (each_same j (dec_lt j lines)).2) in
      let h = ext_get_or 0 o.first q.first (s.3 ∙ sym r.3) (λ j _. (each_same j (dec_lt j lines)).3) in
      record_same o.tables o.parts o.satisfied o.first q.tables q.parts q.satisfied q.first e f g h
    where
      record_same : (a b c d i j k l : List ℕ) → a ≡ i → b ≡ j → c ≡ k → d ≡ l
          → ◌≡◌ {A = Told} (record { tables = a; parts = b; satisfied = c; first = d }) (record { tables = i; parts = j; satisfied = k; first = l })
      record_same a b c d i j k l e f g h = rw (e, f, g, h)

-- the refusal that has a number
abbrev by_number : ℕ → Refusal reading-refusal.Refusal
by_number n = get_or (Room ∷ Room ∷ Program program.Misspelled ∷ Program program.LineCount ∷ Program program.Placement ∷ Program program.Target
    ∷ Text (review-reader.Line condition-reader.Length) ∷ Text (review-reader.Line condition-reader.Misspelled) ∷ Text (review-reader.Line condition-reader.PartCount)
    ∷ Room ∷ Room ∷ Room ∷ Room ∷ Room ∷ Room ∷ Room ∷ Text review-reader.LineCount ∷ Text review-reader.TableCount ∷ []) n Room

by_its_number : (r : Refusal reading-refusal.Refusal) → by_number (number_of_refusal reading.number r) ≡ r
by_its_number Room = refl
by_its_number (Program program.Misspelled) = refl
by_its_number (Program program.LineCount) = refl
by_its_number (Program program.Placement) = refl
by_its_number (Program program.Target) = refl
by_its_number (Text review-reader.LineCount) = refl
by_its_number (Text (review-reader.Line condition-reader.Length)) = refl
by_its_number (Text (review-reader.Line condition-reader.Misspelled)) = refl
by_its_number (Text (review-reader.Line condition-reader.PartCount)) = refl
by_its_number (Text review-reader.TableCount) = refl

reviewed-same : (a b : Reviewed) → a.tables ≡ b.tables → a.lines ≡ b.lines → told_of a ≡ told_of b → a ≡ b
reviewed-same a b e f g = same a.tables a.lines a.table_of a.parts a.satisfied a.first b.tables b.lines b.table_of b.parts b.satisfied b.first e f (ap (λ (o : Told). o.tables) g) (ap (λ (o : Told). o.parts) g) (ap (λ (o : Told). o.satisfied) g) (ap (λ (o : Told). o.first) g)
  where
    same : (m n : ℕ) (a b c d : List ℕ) (m' n' : ℕ) (i j k l : List ℕ) → m ≡ m' → n ≡ n' → a ≡ i → b ≡ j → c ≡ k → d ≡ l
        → ◌≡◌ {A = Reviewed} (record { tables = m; lines = n; table_of = a; parts = b; satisfied = c; first = d }) (record { tables = m'; lines = n'; table_of = i; parts = j; satisfied = k; first = l })
    same m n a b c d m' n' i j k l p q e f g h = rw (p, q, e, f, g, h)

-- what the tables of the conditions cs hold
abbrev Truth : List Statement → List Condition → ℕ → ℕ → Type 0
Truth P cs k s = (s < length P) × Sat P (part (firsts (parts_of cs)) k) s

-- what is told of a line, of the conditions cs
abbrev OfLine : List Statement → List Condition → Told → ℕ → Type 0
OfLine P cs o j = LineTold P (firsts (parts_of cs)) (part cs j) (get_or o.tables j 0) (get_or o.parts j 0) (get_or o.satisfied j 0) (get_or o.first j 0)

module _ (t u old : List ℕ) where
  table-apart : length old < review_words → review_words ≤ length old → ⊥
  table-apart s e = omega arith

  module _ {m n i j : ℕ} {new other : List ℕ} {o q : Told} (a : ReviewFilled t u old new m n o) (b : ReviewFilled t u old other i j q) where
    same-program : b.P ≡ a.P
    same-program = taken-unique b.program a.program

    same-conditions : b.cs ≡ a.cs
    same-conditions = reading-unique.spelled-unique b.conditions.spelled a.conditions.spelled

    same_tables : m ≡ i
    same_tables = a.filled ∙ ap (λ (cs : List Condition). length (firsts (parts_of cs))) (sym same-conditions) ∙ sym b.filled

    same_lines : n ≡ j
    same_lines = a.counted ∙ ap (λ (cs : List Condition). length cs) (sym same-conditions) ∙ sym b.counted

    same-told : o ≡ q
    same-told =
        told_same a.rest (subst (Rest q most_lines) (sym same_lines) b.rest)
        (λ l h. line-unique (a.each l h)
        (subst (λ (cs : List Condition). OfLine a.P cs q l) same-conditions (subst (λ (P : List Statement). OfLine P b.cs q l) same-program (b.each l (omega (arith, same_lines))))))

    review-filled : Words new → Words other → ((m ≡ i) × (n ≡ j)) × (new ≡ other) × (o ≡ q)
    review-filled w v =
        let x : Filled old new m (Truth a.P a.cs) = record { same = a.same; bits = a.bits; kept = a.kept } in
        let y : Filled old other i (Truth b.P b.cs) = record { same = b.same; bits = b.bits; kept = b.kept } in
        let z : Filled old other m (Truth a.P a.cs) =
        subst (λ (cs : List Condition). Filled old other m (Truth a.P cs)) same-conditions
        (subst (λ (P : List Statement). Filled old other m (Truth P b.cs)) same-program
        (subst (λ (k : ℕ). Filled old other k (Truth b.P b.cs)) (sym same_tables) y)) in
        ((same_tables, same_lines), filled-unique x z w v, same-told)

  review-refused : (n m : ℕ) → ReviewRefused t u old n → ReviewRefused t u old m → n ≡ m
  review-refused = refuses-unique table-apart t (reading.Refused u) reading.number (reading-unique.refused-unique u)

  review-not : (n : ℕ) {i j : ℕ} {new : List ℕ} {o : Told} → ReviewRefused t u old n → ReviewFilled t u old new i j o → ⊥
  review-not n r f = refuses-not table-apart t (reading.Refused u) reading.number n r f.room f.program (reading-unique.taken_refused f.conditions)

  -- a call of `review` has one answer, tells one thing of each line, and leaves one table
  pub review-unique : (a b : Result Reviewed (Refusal reading-refusal.Refusal)) (new other : List ℕ) → Words new → Words other
      → ReviewAnswers t u old new a → ReviewAnswers t u old other b → (a ≡ b) × (new ≡ other)
  review-unique (Err r) (Err s) new other w v x y =
      let same = review-refused (number_of_refusal reading.number r) (number_of_refusal reading.number s) x.0 y.0 in
      (ap Err (sym (by_its_number r) ∙ ap by_number same ∙ by_its_number s), x.1 ∙ sym y.1)
  review-unique (Err r) (Ok b) new other w v x y = absurd (review-not (number_of_refusal reading.number r) x.0 y)
  review-unique (Ok a) (Err s) new other w v x y = absurd (review-not (number_of_refusal reading.number s) y.0 x)
  review-unique (Ok a) (Ok b) new other w v x y =
      let f = review-filled x y w v in
      (ap Ok (reviewed-same a b f.0.0 f.0.1 f.2), f.1)
