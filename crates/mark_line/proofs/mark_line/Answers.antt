-- `mark_line` meets its contract: the answer of `span`. Assumes nothing.
use mathlib.Core.List.{List}
use Prim.Native.Nat.{ℕ}
use Rattle.std.specs.Prelude.{Result, Ok, Err}
use Rattle.marks.specs.Reading.{SpanRead}
use Rattle.marks.specs.declared.Refusal.{Refusal}
use Rattle.mark_line.specs.MarkLine.{MarkLineAnswers}
use Rattle.mark_line.proofs.mark_line.Goals as goal

told : (u : List ℕ) (j : ℕ) (a : Result (ℕ × ℕ) Refusal) → SpanRead u j a → MarkLineAnswers u j a
told u j (Ok r) f = record { ms = f.0; marks = f.1; lined = f.2; begins = f.3; ends = f.4 }
told u j (Err r) f = f

pub returns : goal.returns
returns c = told _ _ c.span.result c.span.ensures
