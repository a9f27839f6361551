-- What is printed after the steps: the outcome of each run, and that statements, outcome and live variables agree. By demand 3 nothing else is
-- printed.
use Rattle.std.specs.Prelude.{◌≡◌, List, [], ◌∷◌, ◌++◌, ℕ, ◌+◌, ◌≤◌, length, Result}
use Rattle.statement_writer.specs.Writing.{Put}
use Rattle.language.specs.declared.Statement.{Statement}
use Rattle.program.specs.Program.{Taken}
use Rattle.pricing.specs.Prices.{ours}
use Rattle.machine.specs.Machine.{after}
use Rattle.machine.specs.declared.Answer.{Answer}
use Rattle.lockstep.specs.Lockstep.{Agree, Side, Alike}
use Rattle.run.specs.Run.{RunFinished, RunAnswers}
use Rattle.execution.specs.declared.Outcome.{Outcome}
use Rattle.run.specs.declared.Refusal.{Refusal}
use Rattle.demand.specs.Demand.{RunsAlike}
use Rattle.base.specs.Bytes.{bytes}
use Rattle.answer_line.specs.AnswerLine.{line_of_answer, answer_room}

abbrev pub agree_line : List ℕ
agree_line = bytes "statements, outcome and live variables agree" ++ 10 ∷ []

-- both keep ks
unfoldable pub closing_text : Answer → Answer → List ℕ → List ℕ
closing_text a b ks = bytes "given " ++ (line_of_answer a ks ++ (bytes "rewritten " ++ (line_of_answer b ks ++ agree_line)))

-- room for the two lines, and for their words
abbrev pub closing_room : ℕ
closing_room = 6 + (answer_room + (10 + (answer_room + 45)))

-- demand 3 for this start and our prices: the two texts' runs answer alike, and keep the same
abbrev pub RunAlike : List ℕ → List ℕ → List ℕ → ℕ → ℕ → Type 0
RunAlike t w vs input budget =
    (a b : Result Outcome Refusal) → RunAnswers ours t vs input budget a → RunAnswers ours w vs input budget b → RunsAlike a b

-- the same of the steps: before each both runs stand before one statement, and every variable that the given program may still use before
-- defining it holds the same value in both
abbrev pub TraceAlike : List ℕ → List ℕ → List ℕ → ℕ → Type 0
TraceAlike t w vs input =
    (P Q : List Statement) → Taken t P → Taken w Q → (k : ℕ) → Side (Agree P) (after P vs input k) (after Q vs input k)

-- the answers of both runs, which are alike and keep the same, are told at the front of the lent bytes o; all others are kept
pub record Closes (t w vs : List ℕ) (input budget : ℕ) (o q : List ℕ) (n : ℕ) : Type 0 where
  pub given : Answer
  pub rewritten : Answer
  pub us : List ℕ
  pub ws : List ℕ
  pub ks : List ℕ
  pub one : RunFinished ours t vs input budget given us ks
  pub two : RunFinished ours w vs input budget rewritten ws ks
  pub alike : Alike given rewritten
  pub traces : TraceAlike t w vs input
  pub fits : length (closing_text given rewritten ks) ≤ length o
  pub put : Put o 0 (closing_text given rewritten ks) q n
