-- A proof device: what is known of a program when its conditions are tabulated. No sentence of document 01 stands here.
use Rattle.std.specs.Prelude.{◌≡◌, List, ℕ, ◌≤◌, length}
use Rattle.language.specs.declared.Statement.{Statement}
use Rattle.program.specs.Program.{most}
use Rattle.flow.specs.FlowOf.{flow_entries, flow_at, FlowOf}
use Rattle.truth.specs.Truth.{uses_of}
use Rattle.atoms.specs.Facts.{FactsBy, used_in}

-- P has n statements, `rows` and `codes` are their facts where variables count as used as U says, and `flow` is their control-flow graph
pub record KnownBy (U : ℕ → ℕ → Type 0) (P : List Statement) (n : ℕ) (rows : List ℕ) (codes : List (List ℕ)) (flow : List ℕ) : Type 0 where
  pub size : length P ≡ n
  pub few : length P ≤ most
  pub found : FactsBy U P (length P) rows codes
  pub flow_size : length flow ≡ flow_entries
  pub flows : FlowOf P (flow_at flow)

-- by P's own uses
abbrev pub Known : List Statement → ℕ → List ℕ → List (List ℕ) → List ℕ → Type 0
Known P n rows codes flow = KnownBy (uses_of P) P n rows codes flow

-- by the uses that the rows have
abbrev pub KnownIn : List Statement → ℕ → List ℕ → List (List ℕ) → List ℕ → Type 0
KnownIn P n rows codes flow = KnownBy (used_in rows) P n rows codes flow

-- the same of some program
pub record SomeKnown (n : ℕ) (rows : List ℕ) (codes : List (List ℕ)) (flow : List ℕ) : Type 0 where
  pub P : List Statement
  pub known : KnownIn P n rows codes flow
