-- All that is printed of a run, for every program text and start text, with a trace or without, and how far printing has come.
use Rattle.std.specs.Prelude.{◌≡◌, ◌⊎◌, List, [], ◌++◌, Bool, true, false, ℕ, ◌+◌, ◌-◌, ◌≤◌, ◌<◌, length, replicate}
use Rattle.language.specs.Spelling.{variables}
use Rattle.statement_writer.specs.Writing.{Put}
use Rattle.language.specs.declared.Statement.{Statement}
use Rattle.run.specs.Run.{most_steps}
use Rattle.trace.specs.Trace.{column_heads, step_lines}
use Rattle.trace.specs.Stepping.{Left}
use Rattle.trace.specs.declared.Stop.{Stop}
use Rattle.trace.specs.declared.Stop.TheVariants as stop
use Rattle.outcome.specs.Outcome.{Runs, Result, Refusal, outcome_room}
use Rattle.transcript.specs.declared.Stage.{Stage}
use Rattle.transcript.specs.declared.Stage.TheVariants.{Begin, Steps, Outcome, Ended, Refused}
use Rattle.transcript.specs.declared.Position.{Position}
use Rattle.transcript.specs.declared.Piece.{Piece}

-- the line over the columns and those of the run's steps within the budget, where a trace is asked for; once the run has ended there are no
-- further ones
abbrev pub trace_lines : Bool → List Statement → List ℕ → ℕ → ℕ → List ℕ
trace_lines true P vs input budget = column_heads ++ step_lines P vs input 0 budget
trace_lines false P vs input budget = []

-- b is those lines and then how the run of the program text t from the start text u went
pub record Whole (t u : List ℕ) (trace : Bool) (b : List ℕ) : Type 0 where
  pub w : List ℕ
  pub result : Result t u w
  pub text : b ≡ trace_lines trace result.run.finished.P result.values result.input result.budget ++ w

-- b is all that is printed: a refusal has no trace
abbrev pub Output : List ℕ → List ℕ → Bool → List ℕ → Type 0
Output t u trace b = Whole t u trace b ⊎ Refusal t u b

-- b is the line over the columns and those of the run's first k steps; it ended with the last of them, or stands before place s with the values ws
pub record Lines (t u : List ℕ) (e : Stop) (k s : ℕ) (ws b : List ℕ) : Type 0 where
  pub P : List Statement
  pub values : List ℕ
  pub input : ℕ
  pub budget : ℕ
  pub runs : Runs t u P values input budget
  pub within : k ≤ budget
  pub lines : b ≡ column_heads ++ step_lines P values input 0 k
  pub left : Left P values input k e s ws

-- printing stands at the position p after the text b was handed out
abbrev pub HandedAt : Stage → List ℕ → List ℕ → Bool → Position → List ℕ → Type 0
HandedAt Begin t u trace p b = b ≡ []
HandedAt Steps t u trace p b = (trace ≡ true) × Lines t u stop.Paused p.done p.at p.values b
HandedAt Outcome t u trace p b = (trace ≡ true) × Lines t u stop.Ended p.done p.at p.values b
HandedAt Ended t u trace p b = Whole t u trace b
HandedAt Refused t u trace p b = Refusal t u b

abbrev pub Handed : List ℕ → List ℕ → Bool → Position → List ℕ → Type 0
Handed t u trace p b = HandedAt p.stage t u trace p b

-- all was handed out
abbrev pub is_over : Stage → Bool
is_over Begin = false
is_over Steps = false
is_over Outcome = false
is_over Ended = true
is_over Refused = true

-- before anything is handed out
abbrev pub beginning : Position
beginning = record { stage = Begin; at = 0; done = 0; values = replicate variables 0 }

-- the same position at another stage
abbrev pub at_stage : Stage → Position → Position
at_stage s p = record { stage = s; at = p.at; done = p.done; values = p.values }

-- at most so many pieces are left, where each has room
abbrev pub pieces : Stage → ℕ → ℕ
pieces Begin k = 3 + most_steps
pieces Steps k = 2 + (most_steps - k)
pieces Outcome k = 1
pieces Ended k = 0
pieces Refused k = 0

abbrev pub left : Position → ℕ
left p = pieces p.stage p.done

-- room for every outcome, and for a line of a trace
abbrev pub transcript_room : ℕ
transcript_room = outcome_room

abbrev pub Stays : Position → Piece → Type 0
Stays p r = (r.bytes ≡ 0) × (r.next ≡ p)

-- at the end printing stays; before it fewer pieces are left after each
abbrev pub Moves : Bool → Position → Piece → Type 0
Moves true p r = Stays p r
Moves false p r = left r.next < left p

-- what stands beside the end is what stood beside the position before it
abbrev pub Rest : Stage → Position → Position → Type 0
Rest Begin p n = Unit
Rest Steps p n = Unit
Rest Outcome p n = Unit
Rest Ended p n = n ≡ at_stage Ended p
Rest Refused p n = n ≡ at_stage Refused p

-- the piece w stands at the front of the lent bytes o, and all others are kept; printing stands at the next position after what was handed
-- out before and the piece
pub record Hands (t u : List ℕ) (trace : Bool) (p : Position) (o q : List ℕ) (r : Piece) : Type 0 where
  pub w : List ℕ
  pub put : Put o 0 w q r.bytes
  pub fits : length w ≤ length o
  pub reached : (b : List ℕ) → Handed t u trace p b → Handed t u trace r.next (b ++ w)
  pub moves : transcript_room ≤ length o → Moves (is_over p.stage) p r
  pub stays : length o < transcript_room → Stays p r
  pub rest : Rest r.next.stage p r.next
