-- What a run of a program's text answers, for every text, start, input, budget and table of prices.
use Rattle.std.specs.Prelude.{◌≡◌, ◌⊎◌, List, ℕ, ◌≤◌, ◌<◌, Result, Ok, Err}
use Rattle.language.specs.declared.Statement.{Statement}
use Rattle.program.specs.declared.Refusal as program-refusal
use Rattle.program.specs.Program.{Taken}
use Rattle.program.specs.Reading as program
use Rattle.pricing.specs.Prices.{in_force}
use Rattle.machine.specs.declared.Answer.{Answer}
use Rattle.machine.specs.Answer.{Answers}
use Rattle.execution.specs.declared.Outcome.{Outcome}
use Rattle.run.specs.declared.Refusal.{Refusal}
use Rattle.run.specs.declared.Refusal.TheVariants.{Budget, Program}

-- "a budget of 0 to 1,000,000 steps"
abbrev pub most_steps : ℕ
most_steps = 1000000

-- "15: budget over 1,000,000."
abbrev pub budget_number : ℕ
budget_number = 15

abbrev pub number : Refusal → ℕ
number Budget = budget_number
number (Program r) = program.number r

-- "Order: 1, 15, then 2 to 5": the number of the first that applies
abbrev pub RunRefused : List ℕ → ℕ → ℕ → Type 0
RunRefused t budget n =
    ((most_steps < budget) × (n ≡ budget_number))
    ⊎ ((budget ≤ most_steps) × (r : program-refusal.Refusal) × program.Refused t r × (n ≡ program.number r))

-- none applies: the text is taken as a program, whose run answers a, its ticks by the prices in force under the table ps, with the values ws and the kept
-- ones ks beside it
pub record RunFinished (ps t vs : List ℕ) (input budget : ℕ) (a : Answer) (ws ks : List ℕ) : Type 0 where
  pub P : List Statement
  pub allowed : budget ≤ most_steps
  pub taken : Taken t P
  pub answers : Answers (in_force ps) P vs input budget a ws ks

-- what the run answers, with the values and the kept ones beside it, or the refusal
abbrev pub RunAnswers : List ℕ → List ℕ → List ℕ → ℕ → ℕ → Result Outcome Refusal → Type 0
RunAnswers ps t vs input budget (Err r) = RunRefused t budget (number r)
RunAnswers ps t vs input budget (Ok o) = RunFinished ps t vs input budget o.answer o.values o.kept
