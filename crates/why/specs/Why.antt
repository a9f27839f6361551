-- What `why` answers, and what it leaves in the lent words, for every program text, list of marks, line and path.
use Rattle.std.specs.Prelude.{◌≡◌, ◌⊎◌, List, ℕ, ◌≤◌, ◌<◌, length, take, Result, Ok, Err}
use Rattle.language.specs.declared.Statement.{Statement}
use Rattle.program.specs.Program.{Taken}
use Rattle.marks.specs.Reading as marks
use Rattle.marks.specs.Marks.{mark_at}
use Rattle.marks.specs.declared.Mark.{Mark}
use Rattle.rewriting.specs.Verdicts.{number, Judged, Widened}
use Rattle.rewriting.specs.declared.Verdict.{Verdict}
use Rattle.rewriting.specs.declared.Verdict.TheVariants.{Accepted, Missing, Repeated, Unfit, MayFault, Unmet}
use Rattle.calls.specs.Refusals.{CallRefused, number_of}
use Rattle.calls.specs.declared.Refusal.{Refusal}
use Rattle.marks.specs.declared.Refusal as marks-refusal
use Rattle.explain.specs.Explain.{path_words}
use Rattle.refused_marks.specs.RefusedMarks.{PathOf}
use Rattle.why.specs.declared.Because.{Because}

-- "Refusals as in .. `judge`": 1 for a path under `path_words`, then 2 to 5, then 9 and 10, the number of the first that applies
abbrev pub WhyRefused : List ℕ → List ℕ → List ℕ → ℕ → Type 0
WhyRefused t u path n = CallRefused (length path < path_words) (path_words ≤ length path) t (marks.Refused u) marks.number n

-- the verdict of line j, counted from 0, as `judge` gives it; a line that doesn't exist names no statement
abbrev pub LineVerdict : List Statement → List Mark → ℕ → Verdict → Type 0
LineVerdict P ms j v = ((j < length ms) × Judged (Widened P ms) P (take j ms) (mark_at ms j) v) ⊎ ((length ms ≤ j) × (v ≡ Missing))

-- "Other verdicts have length 0"; all words are kept
abbrev pub Nothing : List ℕ → List ℕ → ℕ → ℕ → Type 0
Nothing old new k c = (k ≡ 0) × (c ≡ 0) × (new ≡ old)

-- "with verdict 14 the statements from n on": a path that shows why the condition is false, by the uses that it was judged with
abbrev pub BecauseOf : List Statement → List Mark → ℕ → Verdict → List ℕ → List ℕ → ℕ → ℕ → Type 0
BecauseOf P ms j Accepted old new k c = Nothing old new k c
BecauseOf P ms j Missing old new k c = Nothing old new k c
BecauseOf P ms j Repeated old new k c = Nothing old new k c
BecauseOf P ms j Unfit old new k c = Nothing old new k c
BecauseOf P ms j MayFault old new k c = Nothing old new k c
BecauseOf P ms j Unmet old new k c = PathOf (Widened P ms) P (mark_at ms j) old new k c

-- none applies: line j of the marks ms has the verdict v on the program P, whose byte is b
pub record WhyTold (t u : List ℕ) (j : ℕ) (old new : List ℕ) (b k c : ℕ) : Type 0 where
  pub P : List Statement
  pub ms : List Mark
  pub v : Verdict
  pub room : path_words ≤ length old
  pub program : Taken t P
  pub marks : marks.Taken u ms
  pub judged : LineVerdict P ms j v
  pub byte : b ≡ number v
  pub told : BecauseOf P ms j v old new k c

-- "A refused call answers only its number and keeps all lent memory."
abbrev pub WhyAnswers : List ℕ → List ℕ → ℕ → List ℕ → List ℕ → Result Because (Refusal marks-refusal.Refusal) → Type 0
WhyAnswers t u j old new (Err r) = WhyRefused t u old (number_of marks.number r) × (new ≡ old)
WhyAnswers t u j old new (Ok b) = WhyTold t u j old new b.verdict b.length b.culprit
