-- What `steps` does with two programs: as many lines as the lent bytes have room for, each after a test that the live variables agree. By
-- demand 3 both runs stand before the same statement after each step, and the test never fails.
use Rattle.std.specs.Prelude.{◌≡◌, ◌⊎◌, List, ℕ, suc, ◌+◌, ◌*◌, ◌≤◌, ◌<◌, length, take}
use Rattle.language.specs.Spelling.{variables}
use Rattle.statement_writer.specs.Writing.{Put}
use Rattle.language.specs.declared.Statement.{Statement}
use Rattle.machine.specs.Machine.{Final, before, ended, after}
use Rattle.lockstep.specs.Lockstep.{Agree, Side, Together}
use Rattle.desk.specs.Columns.{statement_columns}
use Rattle.trace.specs.Stepping.{head_room}
use Rattle.liveness.specs.Liveness.{LiveRows}
use Rattle.comparison.specs.Lines.{differs_columns, value_columns, both_lines}
use Rattle.trace.specs.declared.Progress.{Progress}
use Rattle.comparison.specs.declared.Stop.{Stop}
use Rattle.comparison.specs.declared.Stop.TheVariants.{Paused, Ended, Apart}

-- a variable and its two values have room in this many bytes, and every line in this many
abbrev pub pair_room : ℕ
pair_room = 2 + (differs_columns + (2 + (value_columns + (2 + value_columns))))

abbrev pub pairs_room : ℕ
pairs_room = variables * pair_room

abbrev pub line_room : ℕ
line_room = head_room + (2 + (statement_columns + (pairs_room + 1)))

-- demand 3's runs: from every start, after every number of steps, both stand before the same statement or have ended alike
abbrev pub InStep : List Statement → List Statement → Type 0
InStep P Q = (start : List ℕ) → length start ≡ variables → (input k : ℕ) → Together (after P start input k) (after Q start input k)

-- after k steps both runs stand before the statement at place s, with the values vs and ws
pub record BothStand (P Q : List Statement) (start : List ℕ) (input k s : ℕ) (vs ws : List ℕ) : Type 0 where
  pub inside : s < length P
  pub given : after P start input k ≡ before s vs
  pub rewritten : after Q start input k ≡ before s ws

-- both ended alike with step k, performing the statement at place s; vs and ws are the values before that step
pub record BothEnded (P Q : List Statement) (start : List ℕ) (input k s : ℕ) (vs ws : List ℕ) : Type 0 where
  pub steps : ℕ
  pub counted : k ≡ suc steps
  pub last : BothStand P Q start input steps s vs ws
  pub final : Final
  pub given : after P start input k ≡ ended final
  pub rewritten : after Q start input k ≡ ended final

-- both runs after k steps, by why they stop there
abbrev pub Left : List Statement → List Statement → List ℕ → ℕ → ℕ → Stop → ℕ → List ℕ → List ℕ → Type 0
Left P Q start input k Ended s vs ws = BothEnded P Q start input k s vs ws
Left P Q start input k Paused s vs ws = BothStand P Q start input k s vs ws
Left P Q start input k Apart s vs ws = BothStand P Q start input k s vs ws

-- from the states after k steps: the lines of further steps stand at the front of the bytes o, all others are kept; vs and ws are the
-- values left
pub record Compared (P Q : List Statement) (start : List ℕ) (input budget k : ℕ) (o q vs ws : List ℕ) (r : Progress Stop) : Type 0 where
  pub n : ℕ
  pub counted : r.done ≡ k + n
  pub put : Put o 0 (both_lines P Q start input k n) q r.bytes
  pub left : Left P Q start input r.done r.stop r.at vs ws
  -- before each of these steps every variable that P may still use before defining it holds the same value in both
  pub agreed : (i : ℕ) → i < n → Side (Agree P) (after P start input (k + i)) (after Q start input (k + i))
  -- it stops at the budget, where the runs have ended, where a line may have no room, or where such a variable differs; with room for a line,
  -- and where none differs, it goes on
  pub within : k ≤ budget → r.done ≤ budget
  pub differs : r.stop ≡ Apart → Side (Agree P) (after P start input r.done) (after Q start input r.done) → ⊥
  pub stops : r.stop ≡ Paused → (budget ≤ r.done) ⊎ (length o < r.bytes + line_room)
  pub further : line_room ≤ length o → (r.stop ≡ Apart → ⊥) → k < budget → k < r.done

-- from place s and the values us and zs: whatever they are, the bytes written stand at the front of o and all others are kept; if the rows
-- `live` are those of P, both runs stand there after k steps, and the programs run as demand 3 says, they are compared
pub record Stepped (P Q : List Statement) (live : List ℕ) (input budget k s : ℕ) (us zs o q vs ws : List ℕ) (r : Progress Stop) : Type 0 where
  pub kept : Put o 0 (take r.bytes q) q r.bytes
  pub compared : InStep P Q → LiveRows P live → (start : List ℕ) → length start ≡ variables → BothStand P Q start input k s us zs
      → Compared P Q start input budget k o q vs ws r
