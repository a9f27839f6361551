-- Proof devices: what the functions behind `witness` are asked and establish. No sentence of the documents stands here.
use Rattle.std.specs.Prelude.{◌≡◌, Bool, List, ℕ, ◌≤◌, ◌<◌, length}
use Rattle.language.specs.declared.Statement.{Statement}
use Rattle.program.specs.Program.{most}
use Rattle.flow.specs.FlowOf.{flow_entries, flow_at, FlowOf}
use Rattle.condition.specs.Condition.{Condition}
use Rattle.truth.specs.Truth.{uses_of}
use Rattle.table.specs.Table.{part_at}
use Rattle.table.specs.Fill.{HeldOf, TableOf}
use Rattle.explain.specs.Explain.{bare, Shows, Silent}
use Rattle.explain.specs.declared.Witnessed.{Witnessed}
use Rattle.explain.specs.declared.Witnessed.TheVariants.{Path, None}

-- the words ws are those of some condition, with the text u
pub record SomeWords (m : ℕ) (ws : List ℕ) : Type 0 where
  pub u : List ℕ
  pub c : Condition
  pub held : HeldOf u c m ws

-- part r is part k without the negations before it
pub record Looked (m : ℕ) (ws : List ℕ) (k r : ℕ) : Type 0 where
  pub low : r ≤ k
  pub bared : (u : List ℕ) (c : Condition) → HeldOf u c m ws → part_at c r ≡ bare (part_at c k)

-- the table holds the parts of c over P, and `flow` the graph of P
pub record Tabled (P : List Statement) (u : List ℕ) (c : Condition) (m : ℕ) (ws : List ℕ) (n : ℕ) (flow table : List ℕ) : Type 0 where
  pub size : length P ≡ n
  pub few : length P ≤ most
  pub held : HeldOf u c m ws
  pub flow_size : length flow ≡ flow_entries
  pub flows : FlowOf P (flow_at flow)
  pub old : List ℕ
  pub filled : TableOf (uses_of P) P c old table

pub record SomeTabled (m : ℕ) (ws : List ℕ) (n : ℕ) (flow table : List ℕ) : Type 0 where
  pub P : List Statement
  pub u : List ℕ
  pub c : Condition
  pub tabled : Tabled P u c m ws n flow table

-- what is answered of part k at place s, where its truth is known
abbrev pub Explained : List Statement → Condition → ℕ → ℕ → Bool → List ℕ → List ℕ → Witnessed → Type 0
Explained P c k s truth old new (Path m turn) = Shows P (bare (part_at c k)) s old new m turn
Explained P c k s truth old new (None b) = (b ≡ truth) × Silent P (bare (part_at c k)) s × (new ≡ old)
