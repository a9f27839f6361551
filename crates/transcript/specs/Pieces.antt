-- What the parts of `next` answer: a proof device, with no claim of its own beside `Hands`.
use Rattle.std.specs.Prelude.{List, Option, Some, None, ◌≡◌, ℕ}
use Rattle.language.specs.declared.Statement.{Statement}
use Rattle.program.specs.Reading.{Held, statements}
use Rattle.trace.specs.declared.Stop.{Stop}
use Rattle.trace.specs.declared.Stop.TheVariants as stop
use Rattle.outcome.specs.Outcome.{Runs, Printed, Result, Refusal}
use Rattle.transcript.specs.Transcript.{at_stage}
use Rattle.transcript.specs.declared.Stage.{Stage}
use Rattle.transcript.specs.declared.Stage.TheVariants.{Begin, Steps, Outcome, Ended, Refused}
use Rattle.transcript.specs.declared.Position.{Position}
use Rattle.transcript.specs.declared.Piece.{Piece}
use Rattle.transcript.specs.declared.Run.{Run}

-- the run that the texts ask for, or that it is refused
abbrev pub RunRead : List ℕ → List ℕ → Option Run → Type 0
RunRead t u (Some r) = Runs t u (statements r.program) r.values r.input r.budget × Held r.program
RunRead t u None = (P : List Statement) (vs : List ℕ) (input budget : ℕ) → Runs t u P vs input budget → ⊥

-- the stage after lines of steps, by why these stop
abbrev pub stage_after : Stop → Stage
stage_after stop.Ended = Outcome
stage_after stop.Paused = Steps

-- a result or a refusal is told
abbrev pub ToldAt : Stage → List ℕ → List ℕ → List ℕ → List ℕ → ℕ → Type 0
ToldAt Begin t u o q n = ⊥
ToldAt Steps t u o q n = ⊥
ToldAt Outcome t u o q n = ⊥
ToldAt Ended t u o q n = Printed (Result t u) o q n
ToldAt Refused t u o q n = Printed (Refusal t u) o q n

pub record Tells (t u : List ℕ) (p : Position) (o q : List ℕ) (r : Piece) : Type 0 where
  pub stage : Stage
  pub next : r.next ≡ at_stage stage p
  pub told : ToldAt stage t u o q r.bytes
