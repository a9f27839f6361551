-- What the reader of a line tells at the place where line j begins: the mark of the line, or that there is no such line. Assumes nothing.
use mathlib.Core.Path.{◌≡◌, sym, ◌∙◌, subst}
use mathlib.Core.Bool.{true, true≢false}
use mathlib.Core.List.{List}
use Prim.Native.Nat.{ℕ, ◌≤◌}
use native.Mathlib.Decide.{dec_lt}
use native.Mathlib.Omega.{arith}
use lib.ListN.{length, drop}
use Rattle.lines.proofs.Walk.{line-ends, lines_end}
use Rattle.marks.specs.Marks.{mark_at}
use Rattle.marks.specs.Reading.{MarkLineRead, Taken, Lined, begin_of, end_of}
use Rattle.marks.specs.declared.Mark.{Mark}
use Rattle.std.specs.Prelude.{Option, Some, None, Result, Ok, Err, MatchResult, is_ok}
use Rattle.marks.proofs.Spelling.{marks-unambiguous}
use Rattle.marks.proofs.Walk.{no_line, line_of}
use Rattle.why.specs.Lines.{MarkOfLine}

-- what holds of a result holds of its value too where its refusal is told as another
abbrev InOk : {A E F : Type 0} → (Result A E → Type 0) → Result A F → Type 0
InOk P (Ok x) = P (Ok x)
InOk P (Err e) = Unit

pub ok-holds : {A E : Type 0} (F : Type 0) (P : Result A E → Type 0) (Q : E → Type 0) {c : A} (r : Result A E) → P r → MatchResult r (λ x. ◌≡◌ {A = Result A F} (Ok c) (Ok x)) Q → true ≡ is_ok r → P (Ok c)
ok-holds F P Q (Ok x) h e t = subst (InOk P) (sym e) h
ok-holds F P Q (Err d) h q t = absurd (true≢false t)

module _ {u : List ℕ} {ms : List Mark} {j b : ℕ} (taken : Taken u ms) (lined : Lined u ms) (begins : b ≡ begin_of ms j) {r : Option (Mark × ℕ)} (read : MarkLineRead u b r) where
  pub line-missing : r ≡ None → length ms ≤ j
  line-missing is =
      elim (dec_lt j (length ms)) [
        | yes h ↦ let l = lined.line j h in absurd (no_line u b is read (mark_at ms j) (drop (end_of ms j) u) l.valid (rw begins l.stands))
        | no h ↦ omega arith
      ]

  pub line-mark : {m : Mark} {k : ℕ} → r ≡ Some (m, k) → MarkOfLine u j m
  line-mark {m} {k} is =
      let here = line_of u b is read in
      elim (dec_lt j (length ms)) [
        | yes h ↦ let l = lined.line j h in record { ms = ms; taken = taken; inside = h; is = (marks-unambiguous.same m (mark_at ms j) (drop k u) (drop (end_of ms j) u) here.valid l.valid (sym here.stands ∙ rw begins l.stands)).0 }
        | no h ↦ absurd (omega (arith, begins, lines_end taken.spells j (omega arith), line-ends here, here.within))
      ]
