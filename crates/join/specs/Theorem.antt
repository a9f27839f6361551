-- The theorem of Wish 9, one claim about whole runs. Of the texts of a road program of N statements and of a creeper program the joined text is
-- that of a program that is taken. For every start and every input, and after every number of steps: wherever the road's run stands before a
-- statement, the joined run stands before the same one with the same values, and where the road faults, the whole does, at the same statement and
-- step. Where the road ends at step k, leaving the values w and writing v, the joined run after k + j steps is where the creeper program,
-- started with w and the input v, is after j + 1 steps, N-1 places further on, with the same values, end, kept values and fault. So the steps of
-- two programs that end are their sum less 1, and where the road never ends, or the creeper never ends after it, neither does the whole.
-- What `run` answers under a budget and any table of prices agrees with all this.
use Rattle.std.specs.Prelude.{List, ℕ}
use Rattle.language.specs.declared.Statement.{Statement}
use Rattle.program.specs.Program.{Taken}
use Rattle.joining.specs.Joining.{joined}
use Rattle.joining.specs.Runs.{JoinedRuns}
use Rattle.join.specs.Answers.{JoinedAnswers}

-- t is the road's text, u the creeper's and w the joined one
pub record JoinedTexts (t u w : List ℕ) : Type 0 where
  pub P : List Statement
  pub Q : List Statement
  pub road : Taken t P
  pub creeper : Taken u Q
  pub taken : Taken w (joined P Q)
  pub runs : (vs : List ℕ) (input : ℕ) → JoinedRuns P Q (joined P Q) vs input
  pub answers : (ps vs : List ℕ) (input : ℕ) → JoinedAnswers ps P t u w vs input
