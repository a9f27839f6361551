-- The facts of a program, found statement by statement. Assumes nothing.
use mathlib.Core.Path.{◌≡◌, refl, sym, ap, ap₂, ◌∙◌, subst}
use mathlib.Core.Bool.{Bool, true, false, ◌&&◌, ◌||◌, or-false, and-true, and-false}
use mathlib.Core.List.{List, []}
use mathlib.Core.Logic.Iff
use mathlib.Core.Logic.{◌↔◌, ◌⊎◌, inl, inr, ⊎_elim}
use Prim.Native.Nat.{ℕ, zero, suc, ◌+◌, ◌*◌, ◌/◌, ◌%◌, ◌≤◌, ◌<◌}
use native.Mathlib.Decide.{dec_lt, ℕ_discrete}
use native.Mathlib.Nat.{mod-lt, zero-lt-suc}
use native.Mathlib.Numerals.{add-one}
use native.Mathlib.Omega.{arith}
use lib.Dec.{eqb, ltb}
use lib.ListN.{length, get_or, set, length-set, get_or-eq_default}
use lib.Seq.{get_or-set_same, get_or-set_other}
use borrow.Author.Count.{below_more}
use borrow.Author.Tests.{eq-eqb, ne_eqb, eqb-true, lt-ltb, le-ltb}
use Rattle.language.specs.Spelling.{variables, Valid}
use Rattle.language.specs.Kept.{first_kept, kept_count, Kept as KeptVariable}
use Rattle.language.specs.declared.Operand.{Operand}
use Rattle.language.specs.declared.Operand.TheVariants.{Variable, Constant}
use Rattle.language.specs.declared.Expression.{Expression}
use Rattle.language.specs.declared.Expression.TheVariants.{Single, Binary}
use Rattle.language.specs.declared.Statement.{Statement}
use Rattle.language.specs.declared.Statement.TheVariants.{Read, Write, Assign, Branch, Skip}
use Rattle.program.specs.Program.{at, most, row_words, WellFormed}
use Rattle.program.specs.Reading.{statements, Held}
use Rattle.program.specs.declared.Program.{Program}
use Rattle.program.proofs.Held.{held, held-valid, length-held}
use Rattle.bits.specs.Row.{bit, member, row_of, Kept, Zeros}
use Rattle.bits.proofs.Rows.{word-member, member-beyond, zeros-member}
use Rattle.bits.proofs.Tables.{row_at, row-length, row_kept, replaced, replaced-row, replaced-kept}
use Rattle.base.proofs.Bools.{clash, and_left, and_right, and_both, or_case, or_left, or_right}
use Rattle.labelling.specs.Labels.{Labelled}
use Rattle.truth.specs.Truth.{InOperand, In, Defines, Uses}
use Rattle.codes.specs.Codes.{statement_code, code_words}
use Rattle.atoms.specs.Facts.{defined_row, used_row, fact_rows, fact_words, placed, FactsBy, FactsOf, Also, noted_operand, noted_expression, noted_kept, noted, Placeless, Found, Marked}
use Rattle.atoms.proofs.Rows.{label_same}

-- ---- one place in some rows

-- row k of the rows has room
pub row_room : (rows : List ℕ) (k : ℕ) → k < fact_rows → length rows ≡ fact_words → row_words * k + row_words ≤ length rows
row_room rows k l size = omega arith

pub row-size : (rows : List ℕ) (k : ℕ) → k < fact_rows → length rows ≡ fact_words → length (row_of row_words rows k) ≡ row_words
row-size rows k l size = row-length row_words rows k (row_room rows k l size)

-- the row that was lent has the place s more
pub marked-one : (rows : List ℕ) (k s : ℕ) (l : k < fact_rows) (size : length rows ≡ fact_words) (ys : List ℕ) → length ys ≡ row_words
    → ((j : ℕ) → member ys j ≡ (placed rows k j || eqb s j)) → Marked rows (replaced row_words rows k (row_room rows k l size) ys) (eqb k) s
marked-one rows k s l size ys m f = record {
  same = kept.same;
  bits = λ r j b. go r j b (ℕ_discrete k r);
}
  where
    fits : row_words * k + row_words ≤ length rows
    fits = row_room rows k l size

    new : List ℕ
    new = replaced row_words rows k fits ys

    kept : Kept rows new (row_words * k) row_words
    kept = replaced-kept row_words rows k fits ys m

    go : (r j : ℕ) → r < fact_rows → Dec (k ≡ r) → placed new r j ≡ (placed rows r j || (eqb k r && eqb s j))
    go r j b (yes d) =
        subst (λ (t : ℕ). placed new t j ≡ (placed rows t j || (eqb k t && eqb s j))) d
        (ap (λ (w : List ℕ). member w j) (replaced-row row_words rows k fits ys m) ∙ f j
        ∙ ap (λ (b : Bool). placed rows k j || (b && eqb s j)) (sym (eq-eqb k k refl)))
    go r j b (no d) =
        ap (λ (w : List ℕ). member w j) (row_kept row_words rows new k kept r (λ e. d (sym e)) (row_room rows r b size))
        ∙ sym (ap (λ (b : Bool). placed rows r j || (b && eqb s j)) (ne_eqb k r d) ∙ or-false _)

pub marked-none : (rows : List ℕ) (s : ℕ) → Marked rows rows (λ r. false) s
marked-none rows s = record { same = refl; bits = λ r j b. sym (or-false _) }

or-spread : (x f g e : Bool) → ((x || (f && e)) || (g && e)) ≡ (x || ((f || g) && e))
or-spread true f g e = refl
or-spread false true g true = refl
or-spread false true true false = refl
or-spread false true false false = refl
or-spread false false g e = refl

pub marked_both : {a b c : List ℕ} {f g : ℕ → Bool} {s : ℕ} → Marked a b f s → Marked b c g s → Marked a c (λ r. f r || g r) s
marked_both {a} {b} {c} {f} {g} {s} m n = record {
  same = n.same ∙ m.same;
  bits = λ r j l. n.bits r j l ∙ ap (λ (x : Bool). x || (g r && eqb s j)) (m.bits r j l) ∙ or-spread (placed a r j) (f r) (g r) (eqb s j);
}

-- of the kept variables none yet, and one more
pub marked-unkept : (rows : List ℕ) (s : ℕ) → Marked rows rows (noted_kept 0) s
unfolding noted_kept
marked-unkept rows s = marked-none rows s

pub marked-kept : {a b c : List ℕ} {s : ℕ} (k : ℕ) → Marked a b (noted_kept k) s → Marked b c (eqb (used_row (first_kept + k))) s → Marked a c (noted_kept (k + 1)) s
unfolding noted_kept
marked-kept k m n = rw add-one (marked_both m n)

-- ---- which rows a statement's place stands in

operand_low : (a : Operand) (x : ℕ) → noted_operand a (defined_row x) ≡ false
operand_low (Variable y) x = ne_eqb (used_row y) (defined_row x) (omega arith)
operand_low (Constant n) x = refl

expression-low : (e : Expression) (x : ℕ) → noted_expression e (defined_row x) ≡ false
expression-low (Single a) x = operand_low a x
expression-low (Binary a o b) x = rw (operand_low a x) (operand_low b x)

kept_low : (n x : ℕ) → noted_kept n (defined_row x) ≡ false
unfolding noted_kept
kept_low zero x = refl
kept_low (suc n) x = rw (kept_low n x) (ne_eqb (used_row (first_kept + n)) (defined_row x) (omega arith))

-- rows of the same kind are of the same variable
defined-iff : (y x : ℕ) → (eqb (defined_row y) (defined_row x) ≡ true) ↔ (x ≡ y)
defined-iff y x = (λ e. let d : defined_row y ≡ defined_row x = eqb-true (defined_row y) (defined_row x) e in omega arith, λ d. eq-eqb (defined_row y) (defined_row x) (omega arith))

used-iff : (y x : ℕ) → (eqb (used_row y) (used_row x) ≡ true) ↔ (x ≡ y)
used-iff y x = (λ e. let d : used_row y ≡ used_row x = eqb-true (used_row y) (used_row x) e in omega arith, λ d. eq-eqb (used_row y) (used_row x) (omega arith))

none-iff : (r q : ℕ) → (r ≡ q → ⊥) → (eqb r q ≡ true) ↔ ⊥
none-iff r q n = (λ e. n (eqb-true r q e), λ d. absurd d)

pub noted-defined : (i : Statement) (x : ℕ) → (noted i (defined_row x) ≡ true) ↔ Defines i x
noted-defined (Read y) x = defined-iff y x
noted-defined (Write y) x = rw (kept_low kept_count x, or-false (eqb (used_row y) (defined_row x))) (none-iff (used_row y) (defined_row x) (omega arith))
noted-defined (Assign y e) x = rw (expression-low e x, or-false (eqb (defined_row y) (defined_row x))) (defined-iff y x)
noted-defined (Branch y n m) x = none-iff (used_row y) (defined_row x) (omega arith)
noted-defined Skip x = (λ e. clash e refl, λ d. absurd d)

operand-used : (a : Operand) (x : ℕ) → (noted_operand a (used_row x) ≡ true) ↔ InOperand x a
operand-used (Variable y) x = used-iff y x
operand-used (Constant n) x = (λ e. clash e refl, λ d. absurd d)

expression-used : (e : Expression) (x : ℕ) → (noted_expression e (used_row x) ≡ true) ↔ In x e
expression-used (Single a) x = operand-used a x
expression-used (Binary a o b) x =
    let p = noted_operand a (used_row x) in
    let q = noted_operand b (used_row x) in (
      λ e. ⊎_elim (λ h. inl ((operand-used a x).0 h)) (λ h. inr ((operand-used b x).0 h)) (or_case p q e),
      λ h. ⊎_elim (λ i. or_left p q ((operand-used a x).1 i)) (λ i. or_right p q ((operand-used b x).1 i)) h,
    )

-- one kept variable more
kept_more :
    (n x : ℕ) → (noted_kept n (used_row x) ≡ true) ↔ ((first_kept ≤ x) × (x < first_kept + n))
    → ((noted_kept n (used_row x) || eqb (used_row (first_kept + n)) (used_row x)) ≡ true) ↔ ((first_kept ≤ x) × (x < first_kept + suc n))
kept_more n x f = (to, λ h. from h (ℕ_discrete x (first_kept + n)))
  where
    to : (noted_kept n (used_row x) || eqb (used_row (first_kept + n)) (used_row x)) ≡ true → (first_kept ≤ x) × (x < first_kept + suc n)
    to e =
        ⊎_elim
        (λ h. let k = f.0 h in (k.0, omega (arith, k.1)))
        (λ h. let d = (used-iff (first_kept + n) x).0 h in (omega (arith, d), omega (arith, d)))
        (or_case (noted_kept n (used_row x)) (eqb (used_row (first_kept + n)) (used_row x)) e)

    from : (first_kept ≤ x) × (x < first_kept + suc n) → Dec (x ≡ first_kept + n) → (noted_kept n (used_row x) || eqb (used_row (first_kept + n)) (used_row x)) ≡ true
    from h (yes d) = or_right (noted_kept n (used_row x)) _ ((used-iff (first_kept + n) x).1 d)
    from h (no d) = or_left (noted_kept n (used_row x)) _ (f.1 (h.0, omega (arith, h.1)))

kept-used : (n x : ℕ) → (noted_kept n (used_row x) ≡ true) ↔ ((first_kept ≤ x) × (x < first_kept + n))
unfolding noted_kept
kept-used zero x = (λ e. clash e refl, λ h. absurd (omega (arith, h.0, h.1)))
kept-used (suc n) x = kept_more n x (kept-used n x)

-- what shows no use of a kept variable at all
plainly : {X Y : Type 0} {x : ℕ} → X ↔ Y → X ↔ (Y ⊎ (⊥ × KeptVariable x))
plainly f = (λ e. inl (f.0 e), λ h. ⊎_elim f.1 (λ k. absurd k.0) h)

pub noted-used : (i : Statement) (x : ℕ) → (noted i (used_row x) ≡ true) ↔ Uses i x
noted-used (Read y) x = plainly (none-iff (defined_row y) (used_row x) (omega arith))
noted-used (Write y) x =
    let p = eqb (used_row y) (used_row x) in
    let q = noted_kept kept_count (used_row x) in (
      λ e. ⊎_elim (λ h. inl ((used-iff y x).0 h)) (λ h. inr (tt, (kept-used kept_count x).0 h)) (or_case p q e),
      λ h. ⊎_elim (λ i. or_left p q ((used-iff y x).1 i)) (λ i. or_right p q ((kept-used kept_count x).1 i.1)) h,
    )
noted-used (Assign y e) x = plainly (rw (ne_eqb (defined_row y) (used_row x) (omega arith)) (expression-used e x))
noted-used (Branch y n m) x = plainly (used-iff y x)
noted-used Skip x = plainly (λ e. clash e refl, λ d. absurd d)

-- past the last statement nothing is noted
noted-past : (P : List Statement) (j r : ℕ) → length P ≤ j → noted (at P j) r ≡ false
noted-past P j r h = ap (λ (i : Statement). noted i r) (get_or-eq_default P Skip h)

-- a row in which each place stands by its statement
pub noted-set : (P : List Statement) (rows : List ℕ) → ((r j : ℕ) → r < fact_rows → placed rows r j ≡ noted (at P j) r)
    → (r : ℕ) → r < fact_rows → (Has : Statement → Type 0) → ((i : Statement) → (noted i r ≡ true) ↔ Has i) → Labelled (length P) (placed rows r) (λ s. Has (at P s))
noted-set P rows bits r l Has f = record {
  exact = λ s h. subst (λ (b : Bool). (b ≡ true) ↔ Has (at P s)) (sym (bits r s l)) (f (at P s));
  beyond = λ s h. bits r s l ∙ noted-past P s r h;
}

-- ---- statement by statement

pub placeless : {rows : List ℕ} → Zeros fact_words rows → Placeless rows
placeless z = record { many = z.size; none = zeros-member z }

placeless-row : (rows : List ℕ) → Placeless rows → (r j : ℕ) → r < fact_rows → placed rows r j ≡ false
unfolding member
placeless-row rows z r j l = go (dec_lt (j / 64) row_words)
  where
    go : Dec (j / 64 < row_words) → placed rows r j ≡ false
    go (yes h) =
        ap (λ (x : ℕ). bit x (j % 64)) (row_at row_words rows r (j / 64) h)
        ∙ sym (word-member rows (row_words * r + j / 64) (j % 64) (mod-lt j (zero-lt-suc 63))) ∙ z.none _
    go (no h) = member-beyond (row_of row_words rows r) j (omega (arith, row-size rows r l z.many))

-- a test of the places below s, and of one more
below_step : (f : ℕ → Bool) (s j : ℕ) → (ltb j (s + 1) && f j) ≡ ((ltb j s && f j) || (f s && eqb s j))
below_step f s j = go (ℕ_discrete s j)
  where
    low : Dec (j < s) → (s ≡ j → ⊥) → ltb j (s + 1) ≡ ltb j s
    low (yes h) d = lt-ltb j (s + 1) (omega arith) ∙ sym (lt-ltb j s h)
    low (no h) d = le-ltb j (s + 1) (omega arith) ∙ sym (le-ltb j s (omega arith))

    go : Dec (s ≡ j) → (ltb j (s + 1) && f j) ≡ ((ltb j s && f j) || (f s && eqb s j))
    go (yes d) =
        ap (λ (b : Bool). b && f j) (lt-ltb j (s + 1) (omega arith)) ∙ ap f (sym d) ∙ sym (and-true (f s))
        ∙ ap₂ (λ (a b : Bool). (a && f j) || (f s && b)) (sym (le-ltb j s (omega arith))) (sym (eq-eqb s j d))
    go (no d) =
        ap (λ (b : Bool). b && f j) (low (dec_lt j s) d) ∙ sym (or-false (ltb j s && f j)) ∙ ap (λ (b : Bool). (ltb j s && f j) || b) (sym (and-false (f s)))
        ∙ ap (λ (b : Bool). (ltb j s && f j) || (f s && b)) (sym (ne_eqb s j d))

-- what is found of the first n statements
pub record FoundBelow (P : List Statement) (n : ℕ) (rows : List ℕ) (room : ℕ) (codes : List (List ℕ)) : Type 0 where
  pub many : length rows ≡ fact_words
  pub many_codes : length codes ≡ room
  pub bits : (r j : ℕ) → r < fact_rows → placed rows r j ≡ (ltb j n && noted (at P j) r)
  pub coded : (s : ℕ) → s < n → s < room → get_or codes s [] ≡ code_words (statement_code (at P s))

pub found_none : (P : List Statement) (rows : List ℕ) (codes : List (List ℕ)) → Placeless rows → FoundBelow P 0 rows (length codes) codes
found_none P rows codes z = record {
  many = z.many;
  many_codes = refl;
  bits = λ r j l. placeless-row rows z r j l ∙ sym (ap (λ (b : Bool). b && noted (at P j) r) (le-ltb j 0 (omega arith)));
  coded = λ s h k. absurd (omega arith);
}

module _ (P : List Statement) (s : ℕ) (i : Statement) (is : at P s ≡ i) (f g : List ℕ) (room : ℕ) (codes : List (List ℕ))
    (below : FoundBelow P s f room codes) (m : Marked f g (noted i) s) where
  noted_more : (r j : ℕ) → r < fact_rows → placed g r j ≡ (ltb j (s + 1) && noted (at P j) r)
  noted_more r j l =
      m.bits r j l ∙ ap₂ (λ (a b : Bool). a || (b && eqb s j)) (below.bits r j l) (ap (λ (x : Statement). noted x r) (sym is))
      ∙ sym (below_step (λ t. noted (at P t) r) s j)

  pub found-coded : s < room → (words : List ℕ) → words ≡ code_words (statement_code i) → FoundBelow P (s + 1) g room (set codes s words)
  found-coded l words e = record {
    many = m.same ∙ below.many;
    many_codes = length-set codes s words ∙ below.many_codes;
    bits = noted_more;
    coded = below_more (λ t. t < room → get_or (set codes s words) t [] ≡ code_words (statement_code (at P t))) s
        (λ t h k. get_or-set_other codes s t words [] (omega arith) ∙ below.coded t h k)
        (λ k. get_or-set_same codes s words [] (omega (arith, below.many_codes)) ∙ e ∙ ap (λ (x : Statement). code_words (statement_code x)) (sym is));
  }

  pub found-uncoded : room ≤ s → FoundBelow P (s + 1) g room codes
  found-uncoded l = record { many = m.same ∙ below.many; many_codes = below.many_codes; bits = noted_more; coded = λ t h k. below.coded t (omega arith) k }

-- where there is room for all codes, these are the facts
pub found-facts : {P : List Statement} {rows : List ℕ} {room : ℕ} {codes : List (List ℕ)} → Found P rows room codes → room ≡ most → length P ≤ most → FactsOf P rows codes
found-facts {P = P} {rows = rows} f e few = record {
  many = f.many;
  many_codes = f.many_codes ∙ e;
  defined = λ x l. noted-set P rows f.bits (defined_row x) (omega arith) (λ i. Defines i x) (λ i. noted-defined i x);
  used = λ x l. noted-set P rows f.bits (used_row x) (omega arith) (λ i. Uses i x) (λ i. noted-used i x);
  coded = λ s h. f.coded s h (omega arith);
}

-- ---- one use more

module _ {U : ℕ → ℕ → Type 0} {P : List Statement} {n : ℕ} {f g : List ℕ} {codes : List (List ℕ)} (facts : FactsBy U P n f codes)
    (x s : ℕ) (low : s < n) (m : Marked f g (eqb (used_row x)) s) where
  module _ (y : ℕ) (l : y < variables) where
    also-defined : Labelled n (placed g (defined_row y)) (λ t. Defines (at P t) y)
    also-defined =
        label_same n (placed f (defined_row y)) (placed g (defined_row y)) (λ t. Defines (at P t) y)
        (λ j. m.bits (defined_row y) j (omega arith) ∙ ap (λ (b : Bool). placed f (defined_row y) j || (b && eqb s j)) (ne_eqb (used_row x) (defined_row y) (omega arith)) ∙ or-false _)
        (facts.defined y l)

    abbrev own : Bool
    own = eqb (used_row x) (used_row y)

    also-iff : (t : ℕ) → t < n → ((placed f (used_row y) t || (own && eqb s t)) ≡ true) ↔ Also U x s y t
    also-iff t b =
        let old = placed f (used_row y) t in
        let new = own && eqb s t in (
          λ e. ⊎_elim (λ h. inl (((facts.used y l).exact t b).0 h)) (λ h. inr ((used-iff x y).0 (and_left own (eqb s t) h), sym (eqb-true s t (and_right own (eqb s t) h)))) (or_case old new e),
          λ h. ⊎_elim (λ u. or_left old new (((facts.used y l).exact t b).1 u)) (λ u. or_right old new (and_both own (eqb s t) ((used-iff x y).1 u.0) (eq-eqb s t (sym u.1)))) h,
        )

    also-used : Labelled n (placed g (used_row y)) (Also U x s y)
    also-used = record {
      exact = λ t b. rw (m.bits (used_row y) t (omega arith)) (also-iff t b);
      beyond = λ t b. m.bits (used_row y) t (omega arith) ∙ ap₂ ◌||◌ ((facts.used y l).beyond t b) (ap (λ (z : Bool). own && z) (ne_eqb s t (omega arith)) ∙ and-false own);
    }

  pub facts-also : FactsBy (Also U x s) P n g codes
  facts-also = record { many = m.same ∙ facts.many; many_codes = facts.many_codes; defined = also-defined; used = also-used; coded = facts.coded }

-- the same uses said in other words
pub facts-same : {U W : ℕ → ℕ → Type 0} {P : List Statement} {n : ℕ} {rows : List ℕ} {codes : List (List ℕ)} → ((x s : ℕ) → x < variables → s < n → U x s ↔ W x s)
    → FactsBy U P n rows codes → FactsBy W P n rows codes
facts-same u f = record {
  many = f.many;
  many_codes = f.many_codes;
  defined = f.defined;
  used = λ x l. record { exact = λ s b. Iff.trans ((f.used x l).exact s b) (u x s l b); beyond = (f.used x l).beyond };
  coded = f.coded;
}

-- ---- of the code's program

module _ (p : Program) (h : Held p) where
  pub count-size : length (statements p) ≡ p.count
  count-size = length-held p.entries p.count (omega (arith, h.room, h.few))

  module _ (w : WellFormed (statements p)) (s : ℕ) (l : s < p.count) where
    inside : s < length (statements p)
    inside = rw count-size l

    pub place-valid : Valid (held p.entries s)
    place-valid = held-valid p.entries p.count s inside w
