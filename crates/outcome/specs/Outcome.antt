-- What is printed of a run: its outcome, or the refusal in words, for every program text and start text.
use Rattle.std.specs.Prelude.{◌≡◌, ◌⊎◌, List, [], ◌∷◌, ◌++◌, ℕ, zero, suc, ◌+◌, ◌*◌, ◌≤◌, ◌<◌, length, get_or, Ok, Err}
use Rattle.std.specs.Prelude as std
use Rattle.language.specs.Spelling.{variables}
use Rattle.statement_writer.specs.Writing.{Put}
use Rattle.language.specs.declared.Statement.{Statement}
use Rattle.program.specs.Program as program
use Rattle.blame.specs.Blame.{Blamed}
use Rattle.pricing.specs.Prices.{ours}
use Rattle.machine.specs.declared.Answer.{Answer}
use Rattle.machine.specs.declared.Answer.TheVariants.{Ended, Fault, Spent}
use Rattle.run.specs.Run.{most_steps, RunRefused, RunFinished}
use Rattle.desk.specs.Refusals.{refusal_text}
use Rattle.desk.specs.declared.Failure.{Failure}
use Rattle.desk.specs.declared.Failure.TheVariants.{Refused, NoRoom}
use Rattle.start.specs.Start.{StartTaken, StartWrong}
use Rattle.start.specs.declared.Wrong.{Wrong}
use Rattle.start_refusal.specs.StartRefusal.{start_text}
use Rattle.trace.specs.Trace.{value_text}
use Rattle.trace.specs.Stepping.{value_room}
use Rattle.answer_line.specs.AnswerLine.{line_of_answer, spent_room}

-- a line `i0 = 2` for each of the first n variables
unfoldable pub value_lines : ℕ → List ℕ → List ℕ
value_lines zero vs = []
value_lines (suc n) vs = value_lines n vs ++ (value_text n (get_or vs n 0) ++ 10 ∷ [])

-- the values are told with 'spent'
unfoldable pub answer_values : Answer → List ℕ → List ℕ
answer_values (Ended v k t) ws = []
answer_values (Fault n k t) ws = []
answer_values (Spent n t) ws = value_lines variables ws

-- how a run that isn't refused went, with the values ws and the kept ones ks beside the answer
unfoldable pub answer_text : Answer → List ℕ → List ℕ → List ℕ
answer_text a ws ks = line_of_answer a ks ++ answer_values a ws

-- the run of the program text t answers so, under our prices, and w tells it
pub record RunResult (t vs : List ℕ) (input budget : ℕ) (w : List ℕ) : Type 0 where
  pub answer : Answer
  pub left : List ℕ
  pub kept : List ℕ
  pub finished : RunFinished ours t vs input budget answer left kept
  pub tells : w ≡ answer_text answer left kept

-- the run is refused, and w is the refusal in words
pub record RunRefusal (t : List ℕ) (budget : ℕ) (w : List ℕ) : Type 0 where
  pub n : ℕ
  pub line : ℕ
  pub refused : RunRefused t budget n
  pub blamed : Blamed t n line
  pub tells : w ≡ refusal_text n line

-- the start text u is wrong, and w says what is
pub record StartRefusal (u w : List ℕ) : Type 0 where
  pub wrong : Wrong
  pub read : StartWrong u wrong
  pub tells : w ≡ start_text wrong

-- w tells how the run of the program text t from the start text u went
pub record Result (t u w : List ℕ) : Type 0 where
  pub input : ℕ
  pub budget : ℕ
  pub values : List ℕ
  pub start : StartTaken u input budget values
  pub run : RunResult t values input budget w

-- a start that is wrong is refused, whatever the program; else the run is
abbrev pub Refusal : List ℕ → List ℕ → List ℕ → Type 0
Refusal t u w = StartRefusal u w ⊎ ((input : ℕ) × (budget : ℕ) × (values : List ℕ) × StartTaken u input budget values × RunRefusal t budget w)

-- w is what is printed for the program text t and the start text u
abbrev pub Output : List ℕ → List ℕ → List ℕ → Type 0
Output t u w = Result t u w ⊎ Refusal t u w

-- the run that the texts t and u ask for isn't refused: the program P from these values and this input, under this budget
pub record Runs (t u : List ℕ) (P : List Statement) (vs : List ℕ) (input budget : ℕ) : Type 0 where
  pub start : StartTaken u input budget vs
  pub allowed : budget ≤ most_steps
  pub taken : program.Taken t P

-- room for the line of a value, and for every output
abbrev pub value_line_room : ℕ
value_line_room = value_room + 1

abbrev pub outcome_room : ℕ
outcome_room = spent_room + variables * value_line_room

-- a text of which the claim holds stands at the front of the lent bytes o, all others are kept, and n is its length
pub record Printed (Claim : List ℕ → Type 0) (o q : List ℕ) (n : ℕ) : Type 0 where
  pub w : List ℕ
  pub told : Claim w
  pub fits : length w ≤ length o
  pub put : Put o 0 w q n

-- too few bytes are kept as they are
abbrev pub Prints : List ℕ → List ℕ → List ℕ → List ℕ → std.Result ℕ Failure → Type 0
Prints t u o q (Ok n) = Printed (Result t u) o q n
Prints t u o q (Err (Refused n)) = Printed (Refusal t u) o q n
Prints t u o q (Err NoRoom) = (length o < outcome_room) × (q ≡ o)

-- the same of the part that tells the run, for which there is room
abbrev pub RunPrints : List ℕ → List ℕ → ℕ → ℕ → List ℕ → List ℕ → std.Result ℕ Failure → Type 0
RunPrints t vs input budget o q (Ok n) = Printed (RunResult t vs input budget) o q n
RunPrints t vs input budget o q (Err (Refused n)) = Printed (RunRefusal t budget) o q n
RunPrints t vs input budget o q (Err NoRoom) = ⊥
