-- A program's text is lines, each told by the reader of a line, and what is known once all are read. Assumes nothing.
use mathlib.Core.Path.{◌≡◌, refl, ap, sym, ◌∙◌}
use mathlib.Core.List.{List, [], ◌∷◌, ◌++◌, map}
use Prim.Native.Nat.{ℕ, ◌+◌, ◌≤◌, ◌<◌}
use native.Mathlib.Omega.{arith}
use native.Mathlib.Numerals.{add-one}
use lib.ListN.{length, take, drop, set, length-append}
use lib.Seq.{take_all, take-suc-set, take-append-le}
use Rattle.std.specs.Prelude.{Some, None}
use Rattle.lines.specs.Lines.{LineOf, NoLine}
use Rattle.lines.proofs.Texts.{Unambiguous}
use Rattle.tokens.specs.Parsing.{found, misspelled, parse_word}
use Rattle.statement_reader.specs.Parsing.{parse_statement, parse_line}
use Rattle.language.specs.Spelling.{spell, Valid}
use Rattle.language.specs.declared.Statement.{Statement}
use Rattle.statement_reader.proofs.Lines.{line-unique, line-right}
use Rattle.encoding.specs.declared.Entry.{Entry}
use Rattle.encoding.specs.Encoding.{statement_in}
use Rattle.program.specs.declared.Refusal.{Refusal}
use Rattle.program.specs.Program.{Spells, fewest, most, Counted, Placed, Aimed, Taken}
use Rattle.program.specs.Reading.{Refused, Kept}

-- the line of a statement at the front of a text is that of one valid statement only
pub statements-unambiguous : Unambiguous spell Valid
statements-unambiguous = record { same = line-unique }

-- what the readers of a statement and of its byte 10 told
module _ (t : List ℕ) (at : ℕ) where
  pub no-statement : misspelled ≡ parse_statement (drop at t) → NoLine spell Valid (drop at t)
  unfolding parse_line
  no-statement none = line-right t at None (omega arith) (rw (← none))

  module _ {e : Statement} (k : ℕ) (stands : found e (drop k t) ≡ parse_statement (drop at t)) where
    pub no_end : misspelled ≡ parse_word (10 ∷ []) (drop k t) → NoLine spell Valid (drop at t)
    unfolding parse_line
    no_end none = line-right t at None (omega arith) (rw (← stands, ← none))

    pub line_of : (j : ℕ) → found tt (drop j t) ≡ parse_word (10 ∷ []) (drop k t) → j ≤ length t → LineOf spell Valid t at e j
    unfolding parse_line
    line_of j ends h = line-right t at (Some (e, j)) h (rw (← stands, ← ends))

map-append : (es fs : List Entry) → map statement_in (es ++ fs) ≡ map statement_in es ++ map statement_in fs
map-append [] fs = refl
map-append (e ∷ es) fs = rw (map-append es fs)

-- the first statements are kept: there is room for one more
module _ (es : List Entry) (n : ℕ) (P : List Statement) (s : Statement) (l : length es ≡ most) (c : n ≡ length P) (k : map statement_in (take n es) ≡ take most P) where
  pub kept_more : n < most → (e : Entry) → statement_in e ≡ s → map statement_in (take (n + 1) (set es n e)) ≡ take most (P ++ s ∷ [])
  kept_more h e is =
      let b : length (P ++ s ∷ []) ≡ length P + 1 = length-append P (s ∷ []) in
      let p : n < length es = omega arith in
      rw (add-one, take-suc-set es n e p, map-append (take n es) (e ∷ []), k, is, take_all most P (omega arith), take_all most (P ++ s ∷ []) (omega arith))

  -- or there is none
  pub kept_same : most ≤ n → map statement_in (take (n + 1) es) ≡ take most (P ++ s ∷ [])
  kept_same h =
      let b : most ≤ length P = omega arith in
      ap (map statement_in) (take_all (n + 1) es (omega arith) ∙ sym (take_all n es (omega arith))) ∙ k ∙ sym (take-append-le most P (s ∷ []) b)

module _ {t : List ℕ} {n : ℕ} {es : List Entry} (k : Kept t n es) where
  pub count-refused : (fewest ≤ n → n ≤ most → ⊥) → Refused t Refusal.LineCount
  count-refused f = (k.P, k.spells, λ c. f (omega arith) (omega arith))

  -- no more than `most` lines are kept whole
  module _ (low : fewest ≤ n) (high : n ≤ most) where
    kept-statements : map statement_in (take n es) ≡ k.P
    kept-statements = k.kept ∙ take_all most k.P (omega arith)

    kept-spells : Spells t (map statement_in (take n es))
    kept-spells = rw kept-statements k.spells

    kept-counted : Counted (map statement_in (take n es))
    kept-counted = rw kept-statements (omega arith, omega arith)

    pub place-refused : (Placed (map statement_in (take n es)) → ⊥) → Refused t Refusal.Placement
    place-refused f = (map statement_in (take n es), kept-spells, kept-counted, f)

    pub target-refused : Placed (map statement_in (take n es)) → (Aimed (map statement_in (take n es)) → ⊥) → Refused t Refusal.Target
    target-refused p f = (map statement_in (take n es), kept-spells, kept-counted, p, f)

    pub lines-taken : Placed (map statement_in (take n es)) → Aimed (map statement_in (take n es)) → Taken t (map statement_in (take n es))
    lines-taken p a =
        record {
          lines = kept-spells.lines;
          program = record { valid = kept-spells.valid; counted = kept-counted; placed = p; aimed = a };
        }
