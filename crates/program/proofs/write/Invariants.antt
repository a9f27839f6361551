use Rattle.language.specs.declared.Statement.{Statement}
use Prim.Native.Nat.{ℕ, ◌≤◌}
use Rattle.program.specs.Program.{text, most}
use mathlib.Core.Path.{◌≡◌}
use mathlib.Core.List.{List, map}
use lib.ListN.{length, take}
use Rattle.statement_writer.specs.Writing.{Put}
use Rattle.encoding.specs.declared.Entry.{Entry}
use Rattle.encoding.specs.Encoding.{statement_in}
use Rattle.program.proofs.write.Given as goal

abbrev pub listed : List Entry → ℕ → List Statement
listed es n = map statement_in (take n es)

pub record Inv (o : List ℕ) (es : List Entry) (n : ℕ) (q : List ℕ) (at s : ℕ) : Type 0 where
  pub room : length es ≡ most
  pub few : n ≤ most
  pub fits : length (text (listed es n)) ≤ length o
  pub within : s ≤ n
  pub put : Put o 0 (text (take s (listed es n))) q at

abbrev pub invariant-loop-s : goal.invariant-loop-s
invariant-loop-s l = Inv l.initial.out l.p.entries l.p.count l.out l.at l.s
