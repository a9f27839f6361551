-- Of one text two answers are the same, and so are the starts that were read. Assumes nothing.
use Rattle.std.specs.Prelude.{Option, None, Some, Result, Ok, Err}
use mathlib.Core.Path.{◌≡◌, refl, ap, ap₂, sym, ◌∙◌}
use mathlib.Core.List.{List, [], ◌∷◌, ◌++◌, append_assoc, append-nil}
use mathlib.Core.Bool.{Bool, true, false}
use Prim.Native.Nat.{ℕ, suc, ◌+◌, ◌≤◌, ◌<◌}
use native.Mathlib.Omega.{arith}
use lib.Dec.{ltb, leb, eqb}
use lib.ListN.{length, get_or}
use lib.Seq.{ext_get_or}
use borrow.Author.Tests.{lt-ltb, le-ltb, eq-eqb, ne_eqb}
use Rattle.lines.specs.Lines.{NoLine}
use Rattle.lines.proofs.Texts.{no-line-empty}
use Rattle.base.specs.Pick.{pick}
use Rattle.tokens.specs.Parsing.{Parsed, found, misspelled, after, where?, either, digit_of, parse_word, parse_number, parse_constant, parse_variable}
use Rattle.start.specs.Start.{fewest, most, place, spell_line, RightLine, start_lines, AllRight, reached, numbers_of, Begins, StartTaken, NoRight, StartWrong, StartRead}
use Rattle.start.specs.Parsing.{parse_number_of, parse_plain, parse_named, parse_field}
use Rattle.start.specs.declared.Entry.{Entry}
use Rattle.start.specs.declared.Entry.TheVariants.{Plain}
use Rattle.start.specs.declared.Start.{Start}
use Rattle.start.specs.declared.Wrong.{Wrong}
use Rattle.start.specs.declared.Wrong.TheVariants.{Few, Many, Line, Unended}
use Rattle.start.proofs.Values.{field-sound, field-complete}
use Rattle.start.proofs.Lines.{place-right, reached-right}

line-unique : (k : ℕ) (v w : Entry) (r s : List ℕ) → RightLine k v → RightLine k w → spell_line k v ++ 10 ∷ r ≡ spell_line k w ++ 10 ∷ s → (v ≡ w) × (r ≡ s)
unfolding digit_of
line-unique k v w r s a b e =
    let f : found v (10 ∷ r) ≡ found w (10 ∷ s) = sym (field-complete k v (10 ∷ r) a refl) ∙ ap (parse_field k) e ∙ field-complete k w (10 ∷ s) b refl in
    (cc, cc)

-- no right line follows where number k is next
abbrev Stuck : ℕ → List ℕ → Type 0
Stuck k rest = NoLine (spell_line k) (RightLine k) rest

lines-unique : (k : ℕ) (ls ms : List Entry) (rest other : List ℕ) → AllRight k ls → AllRight k ms → Stuck (reached k ls) rest → Stuck (reached k ms) other
    → start_lines k ls ++ rest ≡ start_lines k ms ++ other → (ls ≡ ms) × (rest ≡ other)
unfolding start_lines
lines-unique k [] [] rest other a b s t e = (refl, e)
lines-unique k [] (w ∷ ms) rest other a b s t e =
    absurd (s w (start_lines (suc (place k w)) ms ++ other) b.0 (e ∙ append_assoc (spell_line k w) (10 ∷ start_lines (suc (place k w)) ms) other))
lines-unique k (v ∷ ls) [] rest other a b s t e =
    absurd (t v (start_lines (suc (place k v)) ls ++ rest) a.0 (sym e ∙ append_assoc (spell_line k v) (10 ∷ start_lines (suc (place k v)) ls) rest))
lines-unique k (v ∷ ls) (w ∷ ms) rest other a b s t e =
    let f : spell_line k v ++ 10 ∷ (start_lines (suc (place k v)) ls ++ rest) ≡ spell_line k w ++ 10 ∷ (start_lines (suc (place k w)) ms ++ other) =
    sym (append_assoc (spell_line k v) (10 ∷ start_lines (suc (place k v)) ls) rest) ∙ e
    ∙ append_assoc (spell_line k w) (10 ∷ start_lines (suc (place k w)) ms) other in
    let u = line-unique k v w (start_lines (suc (place k v)) ls ++ rest) (start_lines (suc (place k w)) ms ++ other) a.0 b.0 f in
    let n : place k w ≡ place k v = ap (place k) (sym u.0) in
    let q = lines-unique (suc (place k v)) ls ms rest other a.1 (rw n at b.1) s (rw n at t) (rw n at u.1) in
    (rw (u.0, q.0), q.1)

-- a line is all that is left
abbrev is_last : Parsed Entry → Bool
is_last (found e []) = true
is_last (found e (c ∷ l)) = false
is_last misspelled = false

-- what is wrong follows from the number of right lines and what is left
wrong_for : ℕ → ℕ → List ℕ → Option Wrong
wrong_for n k rest =
    pick (eqb (length rest) 0) (pick (ltb n fewest) (Some Few) None)
    (pick (eqb n most) (Some Many) (pick (is_last (parse_field k rest)) (Some (Unended (n + 1))) (Some (Line (n + 1)))))

record Settled (t : List ℕ) (a : Option Wrong) : Type 0 where
  ls : List Entry
  rest : List ℕ
  begins : Begins t ls rest
  stuck : Stuck (reached 0 ls) rest
  is : a ≡ wrong_for (length ls) (reached 0 ls) rest

-- after the last byte no line follows
ended : (k : ℕ) → Stuck k []
ended k = no-line-empty (spell_line k) (RightLine k)

-- nor after the last number
full : (k : ℕ) (rest : List ℕ) → most ≤ k → Stuck k rest
full k rest h e u r p = omega (arith, (place-right k e r).0, (place-right k e r).1)

-- nor where the last line lacks its byte 10
last-parsed : (k : ℕ) (e : Entry) → RightLine k e → parse_field k (spell_line k e) ≡ found e []
last-parsed k e r = ap (parse_field k) (sym (append-nil (spell_line k e))) ∙ field-complete k e [] r tt

last-stuck : (k : ℕ) (e : Entry) → RightLine k e → Stuck k (spell_line k e)
unfolding digit_of
last-stuck k e r f u q p =
    let x : found e [] ≡ found f (10 ∷ u) = sym (last-parsed k e r) ∙ ap (parse_field k) p ∙ field-complete k f (10 ∷ u) q refl in
    let y : [] ≡ 10 ∷ u = cc in
    omega (arith, ap length y)

-- a right line has bytes
no_field : (k : ℕ) → parse_field k [] ≡ misspelled
unfolding parse_field parse_plain parse_named parse_number_of parse_number parse_constant parse_variable parse_word
no_field k = go (ltb k most) (eqb k 1) (leb fewest k)
  where
    none : {A : Type 0} (b : Bool) → where? {B = A} b misspelled ≡ misspelled
    none true = refl
    none false = refl

    go : (a b c : Bool) → either (where? a (after (pick b (parse_number []) (parse_constant [])) λ v t. found (Plain v) t)) (where? c misspelled) ≡ misspelled
    go a true c = rw (none {A = Entry} a, none {A = Entry} c)
    go a false c = rw (none {A = Entry} a, none {A = Entry} c)

last_some : (k : ℕ) (e : Entry) → RightLine k e → length (spell_line k e) ≡ 0 → ⊥
last_some k e r z = go (spell_line k e) z (last-parsed k e r)
  where
    go : (l : List ℕ) → length l ≡ 0 → parse_field k l ≡ found e [] → ⊥
    go [] z p =
        let x : misspelled ≡ found e [] = sym (no_field k) ∙ p in
        let y : ◌≡◌ {A = ℕ} 0 1 = cc in
        omega arith
    go (c ∷ l) z p = omega (arith, z)

not_last : (k : ℕ) (rest : List ℕ) → NoRight k rest → is_last (parse_field k rest) ≡ false
not_last k rest w = go (parse_field k rest) refl
  where
    go : (p : Parsed Entry) → parse_field k rest ≡ p → is_last p ≡ false
    go (found e []) is = let s = field-sound k rest e [] is in absurd (w.no_last e s.1 (s.0 ∙ append-nil (spell_line k e)))
    go (found e (c ∷ l)) is = refl
    go misspelled is = refl

settled-taken : {t : List ℕ} {input budget : ℕ} {vs : List ℕ} → StartTaken t input budget vs → Settled t None
unfolding wrong_for
settled-taken h =
    record { ls = h.ls; rest = []; begins = h.begins; stuck = ended (reached 0 h.ls); is = rw (le-ltb (length h.ls) fewest h.counted) }

settled-wrong : {t : List ℕ} (r : Wrong) → StartWrong t r → Settled t (Some r)
unfolding wrong_for
settled-wrong Few h =
    record { ls = h.0; rest = []; begins = h.1; stuck = ended (reached 0 h.0); is = rw (lt-ltb (length h.0) fewest h.2) }
settled-wrong Many h =
    record {
      ls = h.0;
      rest = h.1;
      begins = h.2;
      stuck = full (reached 0 h.0) h.1 (omega (arith, h.3, (reached-right 0 h.0 h.2.right (omega arith)).0));
      is = rw (ne_eqb (length h.1) 0 (λ e. omega (arith, e, h.4)), eq-eqb (length h.0) most h.3);
    }
settled-wrong (Line n) h =
    record {
      ls = h.ls;
      rest = h.rest;
      begins = h.begins;
      stuck = h.wrong.no_line;
      is =
          rw (
            ne_eqb (length h.rest) 0 (λ e. omega (arith, e, h.some)),
            ne_eqb (length h.ls) most (λ e. omega (arith, e, h.counted, h.within)),
            not_last (reached 0 h.ls) h.rest h.wrong,
          )
          (ap (λ (m : ℕ). Some (Line m)) h.counted);
    }
settled-wrong (Unended n) h =
    let k = reached 0 h.ls in
    let p = place-right k h.last h.right in
    record {
      ls = h.ls;
      rest = spell_line k h.last;
      begins = h.begins;
      stuck = last-stuck k h.last h.right;
      is =
          rw (
            ne_eqb (length (spell_line k h.last)) 0 (last_some k h.last h.right),
            ne_eqb (length h.ls) most (λ e. omega (arith, e, (reached-right 0 h.ls h.begins.right (omega arith)).0, p.0, p.1)),
            last-parsed k h.last h.right,
          )
          (ap (λ (m : ℕ). Some (Unended m)) h.counted);
    }

settled-unique : {t : List ℕ} {a b : Option Wrong} (x : Settled t a) (y : Settled t b) → (x.ls ≡ y.ls) × (x.rest ≡ y.rest)
settled-unique x y =
    lines-unique 0 x.ls y.ls x.rest y.rest x.begins.right y.begins.right x.stuck y.stuck (sym x.begins.lines ∙ y.begins.lines)

settled-same : {t : List ℕ} {a b : Option Wrong} → Settled t a → Settled t b → a ≡ b
settled-same x y = let u = settled-unique x y in x.is ∙ rw (u.0, u.1) (sym y.is)

-- one thing only is wrong with a text
pub wrong-unique : (t : List ℕ) (r s : Wrong) → StartWrong t r → StartWrong t s → r ≡ s
wrong-unique t r s h l = let e : Some r ≡ Some s = settled-same (settled-wrong r h) (settled-wrong s l) in cc

-- and nothing where it is a start
pub taken_wrong : {t : List ℕ} {i m : ℕ} {vs : List ℕ} → StartTaken t i m vs → (r : Wrong) → StartWrong t r → ⊥
taken_wrong h r l =
    let e : None ≡ Some r = settled-same (settled-taken h) (settled-wrong r l) in
    let z : ◌≡◌ {A = ℕ} 0 1 = cc in
    omega arith

-- it is one start only
pub start-unique : {t : List ℕ} {i j m n : ℕ} {vs ws : List ℕ} → StartTaken t i m vs → StartTaken t j n ws → (i ≡ j) × (m ≡ n) × (vs ≡ ws)
unfolding settled-taken
start-unique {vs = vs} {ws = ws} h l =
    let e : h.ls ≡ l.ls = (settled-unique (settled-taken h) (settled-taken l)).0 in (
      h.first ∙ ap (λ (ls : List Entry). get_or (numbers_of ls) 0 0) e ∙ sym l.first,
      h.second ∙ ap (λ (ls : List Entry). get_or (numbers_of ls) 1 0) e ∙ sym l.second,
      ext_get_or 0 vs ws (h.size ∙ sym l.size)
          (λ x k. h.others x (omega (arith, h.size)) ∙ ap (λ (ls : List Entry). get_or (numbers_of ls) (2 + x) 0) e ∙ sym (l.others x (omega (arith, h.size)))),
    )

-- a text gets one answer only
pub answer-unique : (t : List ℕ) (a b : Result Start Wrong) → StartRead t a → StartRead t b → a ≡ b
answer-unique t (Ok a) (Ok b) h l =
    let e = start-unique h l in
    ap (λ (s : Start). Ok s)
    (ap (λ (n : ℕ). record { input = n; budget = a.budget; values = a.values }) e.0
    ∙ ap₂ (λ (n : ℕ) (vs : List ℕ). record { input = b.input; budget = n; values = vs }) e.1 e.2)
answer-unique t (Ok a) (Err r) h l = absurd (taken_wrong h r l)
answer-unique t (Err r) (Ok b) h l = absurd (taken_wrong l r h)
answer-unique t (Err r) (Err s) h l = ap (λ (w : Wrong). Err w) (wrong-unique t r s h l)
