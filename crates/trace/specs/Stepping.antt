-- What `steps` does: as many lines of a trace as the lent bytes have room for.
use Rattle.std.specs.Prelude.{◌≡◌, ◌⊎◌, List, Option, Some, None, ℕ, ◌+◌, ◌≤◌, ◌<◌, length}
use Rattle.language.specs.Room.{number_digits, variable_room, constant_room}
use Rattle.statement_writer.specs.Writing.{Put}
use Rattle.language.specs.declared.Statement.{Statement}
use Rattle.machine.specs.Machine.{Final, before, ended, after}
use Rattle.machine.specs.Answer.{state_of, Ends}
use Rattle.machine.specs.declared.Next.{Next}
use Rattle.machine.specs.declared.Next.TheVariants.{Goto}
use Rattle.desk.specs.Columns.{number_columns, statement_columns}
use Rattle.trace.specs.Trace.{step_lines}
use Rattle.trace.specs.declared.Stop.{Stop}
use Rattle.trace.specs.declared.Stop.TheVariants.{Paused, Ended}
use Rattle.trace.specs.declared.Progress.{Progress}

-- what stands before the assigned value has room in this many bytes: a step's number may have more digits than its columns
abbrev pub head_room : ℕ
head_room = number_digits + (2 + (number_columns + (2 + statement_columns)))

-- a value: the variable, ` = ` and the number; an assigned one: two spaces more, and the words for the same value
abbrev pub value_room : ℕ
value_room = variable_room + (3 + constant_room)

abbrev pub assigned_room : ℕ
assigned_room = 2 + (value_room + 12)

-- every line: up to the statement's text, the assigned value, and byte 10; and the line over the columns
abbrev pub line_room : ℕ
line_room = head_room + (assigned_room + 1)

abbrev pub heads_room : ℕ
heads_room = 58

-- a step leads to a place; or it ends the run, whatever the values are that it leaves
abbrev pub Leads : Next → Option ℕ → Type 0
Leads n (Some t) = n ≡ Goto t
Leads n None = (us : List ℕ) → (v : Final) × (state_of n us ≡ ended v)

-- the run ended with step k: before it the run stood before place s with the values vs
pub record Over (P : List Statement) (start : List ℕ) (input k s : ℕ) (vs : List ℕ) : Type 0 where
  pub final : Final
  pub ends : Ends P start input k final
  pub place : ends.last ≡ s
  pub values : ends.left ≡ vs

-- where the run stands after k steps: it ended with the last of them, or stands before place s with the values vs
abbrev pub Left : List Statement → List ℕ → ℕ → ℕ → Stop → ℕ → List ℕ → Type 0
Left P start input k Ended s vs = Over P start input k s vs
Left P start input k Paused s vs = (s < length P) × (after P start input k ≡ before s vs)

-- w is the lines of the n steps of the run that come after the first k; it then stands where r and the values us say
pub record Goes (P : List Statement) (start : List ℕ) (input k : ℕ) (w us : List ℕ) (r : Progress Stop) : Type 0 where
  pub n : ℕ
  pub counted : r.done ≡ k + n
  pub lines : w ≡ step_lines P start input k n
  pub left : Left P start input r.done r.stop r.at us

-- from place s with the values vs after k steps: the text w stands at the front of the bytes o, and all others are kept. It is the lines
-- of further steps of each run that came there; us are the values left
pub record Traced (P : List Statement) (input budget k s : ℕ) (vs o q us : List ℕ) (r : Progress Stop) : Type 0 where
  pub w : List ℕ
  pub put : Put o 0 w q r.bytes
  pub fits : length w ≤ length o
  pub goes : (start : List ℕ) → after P start input k ≡ before s vs → Goes P start input k w us r
  -- it stops at the budget, where the run has ended, or where a line may have no room; with room for one it goes on
  pub within : k ≤ budget → r.done ≤ budget
  pub stops : r.stop ≡ Paused → (budget ≤ r.done) ⊎ (length o < r.bytes + line_room)
  pub further : line_room ≤ length o → k < budget → k < r.done
