-- A proof device: what is known once the table of a condition that was read is filled over a program that was read. No sentence of document
-- 01 stands here.
use Rattle.std.specs.Prelude.{List, ℕ, ◌-◌, ◌*◌}
use Rattle.language.specs.declared.Statement.{Statement}
use Rattle.bits.specs.Row.{member}
use Rattle.flow.specs.FlowOf.{flow_at, FlowOf}
use Rattle.condition.specs.Condition.{Condition}
use Rattle.truth.specs.Truth.{uses_of}
use Rattle.table.specs.Table.{part_words, row}
use Rattle.table.specs.Fill.{HeldOf, TableOf}
use Rattle.table.specs.Summary.{Counts}

-- the table holds the parts of the condition with the text u and the words ws, and `flow` the graph of P; the counts are those of the last part
pub record WholeFilled (P : List Statement) (u ws : List ℕ) (parts : ℕ) (flow old new : List ℕ) (satisfied first : ℕ) : Type 0 where
  pub table : (c : Condition) → HeldOf u c parts ws → TableOf (uses_of P) P c old new
  pub flows : FlowOf P (flow_at flow)
  pub counts : Counts (member (row new (parts - 1))) (part_words * 64) satisfied first
