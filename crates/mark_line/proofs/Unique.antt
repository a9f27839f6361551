-- A call of `mark_line` has one answer. Assumes nothing.
use mathlib.Core.Path.{◌≡◌, ap, ap₂, sym, ◌∙◌}
use mathlib.Core.List.{List}
use Prim.Native.Nat.{ℕ}
use Rattle.std.specs.Prelude.{Result, Ok, Err}
use Rattle.marks.specs.Reading.{begin_of, end_of}
use Rattle.marks.specs.declared.Mark.{Mark}
use Rattle.marks.specs.declared.Refusal.{Refusal}
use Rattle.marks.proofs.Lists.{taken-unique, taken_refused, refused-unique}
use Rattle.mark_line.specs.MarkLine.{MarkLineAnswers}

pub mark-line-unique : (u : List ℕ) (j : ℕ) (a b : Result (ℕ × ℕ) Refusal) → MarkLineAnswers u j a → MarkLineAnswers u j b → a ≡ b
mark-line-unique u j (Err r) (Err s) p q = ap Err (refused-unique u r s p q)
mark-line-unique u j (Err r) (Ok b) p q = absurd (taken_refused q.marks r p)
mark-line-unique u j (Ok a) (Err r) p q = absurd (taken_refused p.marks r q)
mark-line-unique u j (Ok a) (Ok b) p q =
    let same = taken-unique p.marks q.marks in
    ap₂ (λ (m n : ℕ). Ok (m, n))
    (p.begins ∙ ap (λ (ms : List Mark). begin_of ms j) same ∙ sym q.begins)
    (p.ends ∙ ap (λ (ms : List Mark). end_of ms j) same ∙ sym q.ends)
