-- Lines after lines: what the text of a start says while it is read. Assumes nothing.
use mathlib.Core.Path.{◌≡◌, refl, ap, sym, ◌∙◌}
use mathlib.Core.List.{List, [], ◌∷◌, ◌++◌, append_assoc, append-nil}
use Prim.Native.Nat.{ℕ, suc, ◌+◌, ◌-◌, ◌≤◌, ◌<◌}
use native.Mathlib.Omega.{arith}
use native.Mathlib.Numerals.{add-one}
use lib.ListN.{length, get_or, set, drop, length-append, length-drop, length-set, length-replicate, replicate, drop_of_length-le}
use borrow.Author.Count.{below_more}
use lib.Seq.{get_or-set_same, get_or-set_other}
use Rattle.language.specs.Spelling.{variables}
use Rattle.tokens.specs.Parsing.{found, misspelled, parse_word, digit_of}
use Rattle.tokens.proofs.Numbers.{NoDigit}
use Rattle.tokens.proofs.Parse.{skip-sound}
use Rattle.start.specs.Start.{fewest, most, place, value, spell_line, RightLine, start_lines, AllRight, reached, filled, numbers_of, Begins, StartTaken, NoRight, WrongLine, UnendedLine}
use Rattle.start.specs.Parsing.{parse_field}
use Rattle.start.specs.declared.Entry.{Entry}
use Rattle.start.specs.declared.Entry.TheVariants.{Plain, Named}
use Rattle.start.proofs.Values.{field-sound, field-complete}

-- one line more
lines-append : (k : ℕ) (ls : List Entry) (e : Entry) → start_lines k (ls ++ e ∷ []) ≡ start_lines k ls ++ (spell_line (reached k ls) e ++ 10 ∷ [])
unfolding start_lines
lines-append k [] e = refl
lines-append k (l ∷ ls) e =
    rw (lines-append (suc (place k l)) ls e)
    (sym (append_assoc (spell_line k l) (10 ∷ start_lines (suc (place k l)) ls) (spell_line (reached (suc (place k l)) ls) e ++ 10 ∷ [])))

right-append : (k : ℕ) (ls : List Entry) (e : Entry) → AllRight k ls → RightLine (reached k ls) e → AllRight k (ls ++ e ∷ [])
right-append k [] e a r = (r, tt)
right-append k (l ∷ ls) e a r = (a.0, right-append (suc (place k l)) ls e a.1 r)

reached-append : (k : ℕ) (ls : List Entry) (e : Entry) → reached k (ls ++ e ∷ []) ≡ suc (place (reached k ls) e)
reached-append k [] e = refl
reached-append k (l ∷ ls) e = reached-append (suc (place k l)) ls e

filled-append : (k : ℕ) (ls : List Entry) (e : Entry) (ns : List ℕ) → filled k (ls ++ e ∷ []) ns ≡ set (filled k ls ns) (place (reached k ls) e) (value e)
unfolding filled
filled-append k [] e ns = refl
filled-append k (l ∷ ls) e ns = filled-append (suc (place k l)) ls e (set ns (place k l) (value l))

-- the number of a right line is there, and comes after those before it
pub place-right : (k : ℕ) (e : Entry) → RightLine k e → (k ≤ place k e) × (place k e < most)
place-right k (Plain v) r = (omega arith, r.0)
place-right k (Named x v) r = (r.1, omega (arith, r.2))

pub reached-right : (k : ℕ) (ls : List Entry) → AllRight k ls → k ≤ most → (k + length ls ≤ reached k ls) × (reached k ls ≤ most)
reached-right k [] a h = (omega arith, h)
reached-right k (l ∷ ls) a h =
    let p = place-right k l a.0 in
    let r = reached-right (suc (place k l)) ls a.1 (omega (arith, p.1)) in
    (omega (arith, p.0, r.0), r.1)

-- n lines are read, up to the position, number k is next, and the numbers so far stand in ns
pub record SoFar (t ns : List ℕ) (at k n : ℕ) : Type 0 where
  pub ls : List Entry
  pub begins : Begins t ls (drop at t)
  pub counted : n ≡ length ls
  pub next : k ≡ reached 0 ls
  pub room : length ns ≡ most
  pub kept : ns ≡ numbers_of ls

pub none_read : (t : List ℕ) {ns : List ℕ} → ns ≡ replicate most 0 → SoFar t ns 0 0 0
unfolding start_lines filled
none_read t e =
    record {
      ls = [];
      begins = record { lines = refl; right = tt };
      counted = refl;
      next = refl;
      room = ap length e ∙ length-replicate {A = ℕ} most 0;
      kept = e;
    }

-- where a reader finds no right line
module _ (k : ℕ) (l : List ℕ) where
  pub no_field : parse_field k l ≡ misspelled → NoRight k l
  unfolding digit_of
  no_field e =
      record {
        no_line = λ f u r p. clash (sym e ∙ ap (parse_field k) p ∙ field-complete k f (10 ∷ u) r refl);
        no_last = λ f r p. clash (sym e ∙ ap (parse_field k) (p ∙ sym (append-nil (spell_line k f))) ∙ field-complete k f [] r tt);
      }
    where
      clash : {f : Entry} {u : List ℕ} → misspelled ≡ found f u → ⊥
      clash x = let z : ◌≡◌ {A = ℕ} 0 1 = cc in omega arith

  -- it is followed by something other than byte 10
  no_end : (e : Entry) (u : List ℕ) → parse_field k l ≡ found e u → parse_word (10 ∷ []) u ≡ misspelled → 0 < length u → NoRight k l
  unfolding parse_word digit_of
  no_end e u is other some =
      record {
        no_line = λ f w r p.
            let x : found e u ≡ found f (10 ∷ w) = sym is ∙ ap (parse_field k) p ∙ field-complete k f (10 ∷ w) r refl in
            let y : u ≡ 10 ∷ w = cc in
            let q : found tt w ≡ misspelled = sym (ap (parse_word (10 ∷ [])) y) ∙ other in
            let z : ◌≡◌ {A = ℕ} 0 1 = cc in
            omega arith;
        no_last = λ f r p.
            let x : found e u ≡ found f [] = sym is ∙ ap (parse_field k) (p ∙ sym (append-nil (spell_line k f))) ∙ field-complete k f [] r tt in
            let y : u ≡ [] = cc in
            omega (arith, ap length y);
      }

module _ {t ns : List ℕ} {at k n : ℕ} (i : SoFar t ns at k n) where
  pub bounds : (n ≤ k) × (k ≤ most)
  bounds = let r = reached-right 0 i.ls i.begins.right (omega arith) in (omega (arith, i.counted, i.next, r.0), omega (arith, i.next, r.1))

  pub too_many : n ≡ most → at < length t → (ls : List Entry) × (rest : List ℕ) × Begins t ls rest × (length ls ≡ most) × (0 < length rest)
  too_many e h = (i.ls, drop at t, i.begins, omega (arith, i.counted), rw (length-drop at t) (omega arith))

  pub wrong_line : (n ≡ most → ⊥) → at < length t → NoRight k (drop at t) → WrongLine t (n + 1)
  wrong_line m h w =
      record {
        ls = i.ls;
        rest = drop at t;
        begins = i.begins;
        counted = omega (arith, i.counted);
        within = omega (arith, bounds.0, bounds.1);
        some = rw (length-drop at t) (omega arith);
        wrong = rw i.next at w;
      }

  module _ {e : Entry} {u : List ℕ} (is : parse_field k (drop at t) ≡ found e u) where
    sound : (drop at t ≡ spell_line k e ++ u) × RightLine k e
    sound = field-sound k (drop at t) e u is

    -- all that is left, or something other than byte 10 comes after it
    pub unended : {end : ℕ} → u ≡ drop end t → length t ≤ end → UnendedLine t (n + 1)
    unended {end} from past =
        let none : u ≡ [] = from ∙ drop_of_length-le t past in
        let s : drop at t ≡ spell_line (reached 0 i.ls) e = rw (none, append-nil (spell_line k e), i.next) at sound.0 in
        record {
          ls = i.ls;
          last = e;
          begins = record { lines = i.begins.lines ∙ ap (λ (w : List ℕ). start_lines 0 i.ls ++ w) s; right = i.begins.right };
          counted = omega (arith, i.counted);
          right = rw i.next at sound.1;
        }

    pub other-end : {end : ℕ} → u ≡ drop end t → parse_word (10 ∷ []) u ≡ misspelled → end < length t → (n ≡ most → ⊥) → at < length t → WrongLine t (n + 1)
    other-end {end} from other within m h = wrong_line m h (no_end k (drop at t) e u is other (rw (from, length-drop end t) (omega arith)))

    pub inside : place k e < most
    inside = (place-right k e sound.1).1

    module _ {next : ℕ} (ends : u ≡ 10 ∷ drop next t) (within : next ≤ length t) where
      text : drop at t ≡ spell_line k e ++ 10 ∷ drop next t
      text = sound.0 ∙ ap (λ (w : List ℕ). spell_line k e ++ w) ends

      pub further : length t - next < length t - at
      further =
          let x : length t - at ≡ length (spell_line k e) + suc (length t - next) = simp (length-append, length-drop) at (ap length text) in
          omega (arith, within)

      pub one_more : SoFar t (set ns (place k e) (value e)) next (place k e + 1) (n + 1)
      one_more =
          record {
            ls = i.ls ++ e ∷ [];
            begins = record {
              lines =
                  i.begins.lines ∙ ap (λ (w : List ℕ). start_lines 0 i.ls ++ w) text
                  ∙ rw (lines-append 0 i.ls e, ← i.next) (simp append_assoc);
              right = right-append 0 i.ls e i.begins.right (rw i.next at sound.1);
            };
            counted = omega (arith, i.counted, length-append i.ls (e ∷ []));
            next = rw (add-one, reached-append 0 i.ls e, ← i.next);
            room = length-set ns (place k e) (value e) ∙ i.room;
            kept = rw (filled-append 0 i.ls e (replicate most 0), ← i.next, ← i.kept);
          }

  -- no text is left
  module _ (h : length t ≤ at) where
    all_read : Begins t i.ls []
    all_read = rw (drop_of_length-le t h) at i.begins

    pub too_few : n < fewest → (ls : List Entry) × Begins t ls [] × (length ls < fewest)
    too_few f = (i.ls, all_read, omega (arith, i.counted))

    pub taken : (vs : List ℕ) → fewest ≤ n → (length vs ≡ variables) × ((x : ℕ) → x < variables → get_or vs x 0 ≡ get_or ns (2 + x) 0) → StartTaken t (get_or ns 0 0) (get_or ns 1 0) vs
    taken vs f v =
        record {
          ls = i.ls;
          begins = all_read;
          counted = omega (arith, i.counted);
          first = ap (λ (l : List ℕ). get_or l 0 0) i.kept;
          second = ap (λ (l : List ℕ). get_or l 1 0) i.kept;
          size = v.0;
          others = λ x l. v.1 x l ∙ ap (λ (l : List ℕ). get_or l (2 + x) 0) i.kept;
        }
