-- Demand 3, one claim about a program, its whole list of marks, refused marks among them, and its whole runs: for a program text and a
-- marks text that are taken, the rewritten program is the given one with exactly the accepted marks made, is itself taken, and runs as
-- the given one does, after every number of steps and under every budget; before each step both hold the same in every variable that the
-- given program may still use before defining it. Document 01, "What a contract says here"; document 02, "Traces side by side".
use Rattle.std.specs.Prelude.{◌≡◌, List, ◌↔◌, ℕ, ◌≤◌, ◌<◌, length, get_or, take, Result, Ok, Err}
use Rattle.language.specs.Spelling.{variables}
use Rattle.language.specs.declared.Statement.{Statement}
use Rattle.program.specs.Program.{Taken}
use Rattle.machine.specs.Machine.{after}
use Rattle.marks.specs.Reading as marks
use Rattle.marks.specs.declared.Mark.{Mark}
use Rattle.marks.specs.Marks.{mark_at}
use Rattle.rewriting.specs.Verdicts.{Judged, Widened, Rewritten}
use Rattle.rewriting.specs.declared.Verdict.TheVariants.{Accepted}
use Rattle.lockstep.specs.Lockstep.{Agree, Side, Together, Alike}
use Rattle.run.specs.Run.{most_steps, RunAnswers}
use Rattle.execution.specs.declared.Outcome.{Outcome}
use Rattle.run.specs.declared.Refusal.{Refusal}

-- neither call of `run` is refused, what the two runs answer is alike, and they keep the same
abbrev pub RunsAlike : Result Outcome Refusal → Result Outcome Refusal → Type 0
RunsAlike (Err r) b = ⊥
RunsAlike (Ok a) (Err r) = ⊥
RunsAlike (Ok a) (Ok b) = Alike a.answer b.answer × (a.kept ≡ b.kept)

-- t is the given program's text, u that of the marks, vs are the verdict bytes and w is the new text
pub record Demand3 (t u vs w : List ℕ) : Type 0 where
  pub P : List Statement
  pub ms : List Mark
  pub Q : List Statement
  -- "A program is taken where none of 2 to 5 applies to its text, a list of marks where neither 9 nor 10 does."
  pub given : Taken t P
  pub listed : marks.Taken u ms
  -- "A mark is accepted where its verdict byte is 0, and that byte is 0 exactly where none of 11 to 14" and 18 "applies"
  pub accepted : (j : ℕ) → j < length ms → (get_or vs j 0 ≡ 0) ↔ Judged (Widened P ms) P (take j ms) (mark_at ms j) Accepted
  -- "The rewritten program is the new text .., and is itself a program that is taken."
  pub rewritten : Rewritten P ms vs Q
  pub taken : Taken w Q
  -- "After k steps, for every k from 0 on and beyond any budget, a run either stands before one statement or has ended with its value"
  pub together : (start : List ℕ) → length start ≡ variables → (input k : ℕ) → Together (after P start input k) (after Q start input k)
  -- document 02: "from equal starts, every variable that the given program may still use before defining it shall hold the same value in both
  -- before each step, as long as the run lasts"
  pub traces : (start : List ℕ) → length start ≡ variables → (input k : ℕ) → Side (Agree P) (after P start input k) (after Q start input k)
  -- "Under every budget that isn't refused, the two runs answer the same value and the same steps, or 'spent' at the same statement";
  -- document 02: "given and rewritten programs must match in all nine". ps is the table of prices, the same for both and any
  pub alike : (ps start : List ℕ) → length start ≡ variables → (input budget : ℕ) → budget ≤ most_steps → (a b : Result Outcome Refusal)
      → RunAnswers ps t start input budget a → RunAnswers ps w start input budget b → RunsAlike a b
