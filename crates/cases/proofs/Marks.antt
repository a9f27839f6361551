-- A reader of lists of marks that computes. Assumes nothing.
use mathlib.Core.Path.{◌≡◌, refl, ap, sym, ◌∙◌}
use mathlib.Core.List.{List, [], ◌∷◌, ◌++◌, append_assoc, append-nil}
use Prim.Native.Nat.{ℕ, zero, suc, ◌≤◌}
use native.Mathlib.Omega.{arith}
use lib.ListN.{length}
use Rattle.lines.specs.Lines as lines
use Rattle.tokens.specs.Parsing.{Parsed, found, after, after_or, parse_word, digit_of, parse_digits, parse_zero, parse_number, parse_negative, parse_constant, parse_variable}
use Rattle.statement_reader.specs.Parsing.{parse_operand, parse_operator, parse_expression}
use Rattle.tokens.proofs.Parse.{after-inv, after_or-inv}
use Rattle.marks.specs.declared.Mark.{Mark}
use Rattle.marks.specs.Marks.{spell_mark, text, AllValid}
use Rattle.marks.specs.Parsing.{parse_front, parse_tail, parse_kind, parse_mark_line}
use Rattle.marks.specs.Reading.{most, Taken}
use Rattle.marks.proofs.Spelling.{line-sound}

-- the marks whose lines begin the text, at most n of them
unfoldable pub parse_marks : ℕ → List ℕ → Parsed (List Mark)
unfolding parse_mark_line parse_kind parse_tail parse_front parse_expression parse_operator parse_operand parse_variable parse_constant parse_negative parse_number parse_zero parse_digits digit_of parse_word
parse_marks zero t = found [] t
parse_marks (suc n) t =
    after_or (parse_mark_line t)
    (λ m u.
    after (parse_marks n u) λ ms v.
    found (m ∷ ms) v)
    (found [] t)

-- they are valid, and their lines stand there
record Begin (n : ℕ) (t : List ℕ) (ms : List Mark) (u : List ℕ) : Type 0 where
  lines : t ≡ text ms ++ u
  valid : AllValid ms
  few : length ms ≤ n

marks-none : (n : ℕ) (t : List ℕ) → Begin n t [] t
unfolding lines.text
marks-none n t = record { lines = refl; valid = tt; few = omega arith }

marks-sound : (n : ℕ) (t : List ℕ) (ms : List Mark) (u : List ℕ) → parse_marks n t ≡ found ms u → Begin n t ms u
unfolding parse_marks lines.text
marks-sound zero t ms u e =
    let p : [] ≡ ms = cc in
    let q : t ≡ u = cc in
    rw (← p, ← q) (marks-none zero t)
marks-sound (suc n) t ms u e =
    after_or-inv (parse_mark_line t) _ (found [] t) e
    (λ m v e₁ f₁.
    after-inv (parse_marks n v) _ f₁ λ os w e₂ f₂.
    let p : m ∷ os ≡ ms = cc in
    let q : w ≡ u = cc in
    let i = line-sound t m v e₁ in
    let r = marks-sound n v os w e₂ in
    rw (← p, ← q) (record {
      lines = i.0 ∙ ap (λ (l : List ℕ). spell_mark m ++ 10 ∷ l) r.lines ∙ sym (append_assoc (spell_mark m) (10 ∷ text os) w);
      valid = (i.1, r.valid);
      few = omega (arith, r.few);
    }))
    (λ f.
    let p : [] ≡ ms = cc in
    let q : t ≡ u = cc in
    rw (← p, ← q) (marks-none (suc n) t))

-- a text that is read to its end is taken
pub marks-taken : (t : List ℕ) (ms : List Mark) → parse_marks most t ≡ found ms [] → Taken t ms
marks-taken t ms e =
    let r = marks-sound most t ms [] e in
    record { spells = record { lines = r.lines ∙ append-nil (text ms); valid = r.valid }; few = r.few }
