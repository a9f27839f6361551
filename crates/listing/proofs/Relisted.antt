-- A list that was the given program's is the new program's after it was brought up to date, and a program has one list only. Assumes
-- nothing.
use mathlib.Core.Path.{◌≡◌, sym, ap, ◌∙◌, subst}
use mathlib.Core.Bool.{Bool, true}
use mathlib.Core.Logic.{◌↔◌}
use mathlib.Core.List.{List}
use Prim.Native.Nat.{ℕ, ◌+◌, ◌*◌, ◌/◌, ◌%◌, ◌^◌, ◌≤◌, ◌<◌}
use native.Mathlib.Decide.{dec_lt, ℕ_discrete}
use native.Mathlib.Omega.{arith}
use lib.ListN.{length, get_or, get_or-eq_default}
use lib.Seq.{ext_get_or}
use Rattle.base.proofs.Bools.{tests_agree}
use Rattle.language.specs.Spelling.{variables}
use Rattle.language.specs.declared.Statement.TheVariants.{Skip}
use Rattle.language.specs.declared.Statement.{Statement}
use Rattle.program.specs.Program.{at, row_words}
use Rattle.bits.proofs.Rows.{word-member}
use Rattle.bits.proofs.Tables.{row_at}
use Rattle.bits.proofs.Words.{word-unique}
use Rattle.bits.specs.Row.{bit, member, row_of}
use Rattle.labelling.specs.Labels.{Labelled}
use Rattle.codes.proofs.Codes.{code-unique}
use Rattle.codes.specs.Codes.{statement_code}
use Rattle.codes.specs.declared.Code.{Code}
use Rattle.atoms.specs.Facts.{fact_rows, placed}
use Rattle.listing.specs.Listing.{list_words, ListOf, SetUpdated, Updated}

-- ---- statements are equal or not, by their codes

code-decided : (a b : Code) → Dec (a ≡ b)
code-decided a b = go (ℕ_discrete a.kind b.kind) (ℕ_discrete a.first b.first) (ℕ_discrete a.second b.second) (ℕ_discrete a.third b.third)
  where
    go : Dec (a.kind ≡ b.kind) → Dec (a.first ≡ b.first) → Dec (a.second ≡ b.second) → Dec (a.third ≡ b.third) → Dec (a ≡ b)
    go (yes k) (yes f) (yes s) (yes t) = yes (λ i. record { kind = k i; first = f i; second = s i; third = t i })
    go (no n) f s t = no (λ e. n (ap (λ (c : Code). c.kind) e))
    go (yes k) (no n) s t = no (λ e. n (ap (λ (c : Code). c.first) e))
    go (yes k) (yes f) (no n) t = no (λ e. n (ap (λ (c : Code). c.second) e))
    go (yes k) (yes f) (yes s) (no n) = no (λ e. n (ap (λ (c : Code). c.third) e))

statement-decided : (i j : Statement) → Dec (i ≡ j)
statement-decided i j = go (code-decided (statement_code i) (statement_code j))
  where
    go : Dec (statement_code i ≡ statement_code j) → Dec (i ≡ j)
    go (yes e) = yes (code-unique i j e)
    go (no n) = no (λ e. n (ap statement_code e))

-- ---- the theorem

module _ (P Q : List Statement) (same : length Q ≡ length P) where
  -- past the last line neither has a statement
  past_same : (s : ℕ) → length Q ≤ s → at Q s ≡ at P s
  past_same s l = get_or-eq_default Q Skip l ∙ sym (get_or-eq_default P Skip (omega arith))

  set-relisted : (Has : Statement → Type 0) (old new : List ℕ) → Labelled (length P) (member old) (λ s. Has (at P s)) → SetUpdated P Q Has old new
      → Labelled (length Q) (member new) (λ s. Has (at Q s))
  set-relisted Has old new l u = record {
    exact = λ s h. go s h (statement-decided (at Q s) (at P s));
    beyond = λ s h. u.kept s (past_same s h) ∙ l.beyond s (omega arith);
  }
    where
      go : (s : ℕ) → s < length Q → Dec (at Q s ≡ at P s) → (member new s ≡ true) ↔ Has (at Q s)
      go s h (yes e) =
          subst (λ (b : Bool). (b ≡ true) ↔ Has (at Q s)) (sym (u.kept s e))
          (subst (λ (i : Statement). (member old s ≡ true) ↔ Has i) (sym e) (l.exact s (omega arith)))
      go s h (no n) = u.changed s n

  pub list-updated : {old new : List ℕ} → ListOf P old → Updated P Q old new → ListOf Q new
  list-updated l u = record {
    room = omega (arith, l.room, u.same);
    defined = λ v h. set-relisted _ _ _ (l.defined v h) (u.defined v h);
    used = λ v h. set-relisted _ _ _ (l.used v h) (u.used v h);
  }

-- ---- one list only

-- every word is one of 64 bits
abbrev pub Words : List ℕ → Type 0
Words ws = (m : ℕ) → get_or ws m 0 < 2 ^ 64

-- what is true of the sets of each variable is true of all
by-variable : (X : ℕ → Type 0) → ((v : ℕ) → v < variables → X (2 * v)) → ((v : ℕ) → v < variables → X (2 * v + 1)) → (r : ℕ) → r < fact_rows → X r
by-variable X f g r h = go (ℕ_discrete (r % 2) 0)
  where
    go : Dec (r % 2 ≡ 0) → X r
    go (yes e) = let d : 2 * (r / 2) ≡ r = omega arith in subst X d (f (r / 2) (omega arith))
    go (no e) = let d : 2 * (r / 2) + 1 ≡ r = omega arith in subst X d (g (r / 2) (omega arith))

-- words are equal where their bits are
module _ (a b : List ℕ) (w : Words a) (v : Words b) (same : (r : ℕ) → r < fact_rows → (j : ℕ) → placed a r j ≡ placed b r j) where
  pub words_same : (m : ℕ) → m < list_words → get_or a m 0 ≡ get_or b m 0
  words_same m l =
      let r : ℕ = m / row_words in
      let i : ℕ = m % row_words in
      let here : row_words * r + i ≡ m = omega arith in
      rw here at (word-unique 64 _ _ (w (row_words * r + i)) (v (row_words * r + i))
      (λ c h. sym (word a r i c (omega arith) h) ∙ same r (omega arith) (i * 64 + c) ∙ word b r i c (omega arith) h))
    where
      word : (l : List ℕ) (r i c : ℕ) → i < row_words → c < 64 → placed l r (i * 64 + c) ≡ bit (get_or l (row_words * r + i) 0) c
      word l r i c h k = word-member (row_of row_words l r) i c k ∙ ap (λ (x : ℕ). bit x c) (row_at row_words l r i h)

labels-agree : {n : ℕ} {x y : ℕ → Bool} {X : ℕ → Type 0} → Labelled n x X → Labelled n y X → (j : ℕ) → x j ≡ y j
labels-agree {n = n} {x = x} {y = y} f g j = go (dec_lt j n)
  where
    go : Dec (j < n) → x j ≡ y j
    go (yes l) = tests_agree (x j) (y j) (f.exact j l) (g.exact j l)
    go (no l) = f.beyond j (omega arith) ∙ sym (g.beyond j (omega arith))

-- two lists of one program are equal in their words
pub lists_agree : {P : List Statement} {a b : List ℕ} → Words a → Words b → ListOf P a → ListOf P b → (m : ℕ) → m < list_words → get_or a m 0 ≡ get_or b m 0
lists_agree {a = a} {b = b} w v f g =
    words_same a b w v
    (by-variable (λ r. (j : ℕ) → placed a r j ≡ placed b r j) (λ x h. labels-agree (f.defined x h) (g.defined x h)) (λ x h. labels-agree (f.used x h) (g.used x h)))

-- what two programs make of a list is one list only
pub updated-unique : {P Q : List Statement} {old new other : List ℕ} → Words new → Words other → Updated P Q old new → Updated P Q old other → new ≡ other
updated-unique {P = P} {Q = Q} {old = old} {new = new} {other = other} w v f g =
    ext_get_or 0 new other (f.same ∙ sym g.same) (λ m _. go m (dec_lt m list_words))
  where
    agree : {Has : Statement → Type 0} {o x y : List ℕ} → SetUpdated P Q Has o x → SetUpdated P Q Has o y → (j : ℕ) → member x j ≡ member y j
    agree {x = x} {y = y} p q j = by (statement-decided (at Q j) (at P j))
      where
        by : Dec (at Q j ≡ at P j) → member x j ≡ member y j
        by (yes e) = p.kept j e ∙ sym (q.kept j e)
        by (no n) = tests_agree (member x j) (member y j) (p.changed j n) (q.changed j n)

    sets : (r : ℕ) → r < fact_rows → (j : ℕ) → placed new r j ≡ placed other r j
    sets = by-variable (λ r. (j : ℕ) → placed new r j ≡ placed other r j) (λ x h. agree (f.defined x h) (g.defined x h)) (λ x h. agree (f.used x h) (g.used x h))

    go : (m : ℕ) → Dec (m < list_words) → get_or new m 0 ≡ get_or other m 0
    go m (yes l) = words_same new other w v sets m l
    go m (no l) = f.past m (omega arith) ∙ sym (g.past m (omega arith))
