use Rattle.language.specs.declared.Statement.{Statement}
use mathlib.Core.List.{map, List}
use Prim.Native.Nat.{ℕ, ◌≤◌}
use lib.ListN.{take, length}
use Rattle.encoding.specs.Encoding.{statement_in}
use Rattle.program.specs.Program.{InPlace, Placed, fewest, most, Targets}
use mathlib.Core.Path.{◌≡◌}
use Rattle.encoding.specs.declared.Entry.{Entry}
use Rattle.program.specs.Reading.{Kept}
use Rattle.program.proofs.Held.{SoFar}
use Rattle.program.proofs.read.Given as goal

pub record Inv (Q : ℕ → ℕ → Statement → Type 0) (t : List ℕ) (es : List Entry) (n s : ℕ) : Type 0 where
  pub lines : Kept t n es
  pub room : length es ≡ most
  pub low : fewest ≤ n
  pub high : n ≤ most
  pub so_far : SoFar Q es n s
  pub within : s ≤ n

abbrev pub Aims : ℕ → ℕ → Statement → Type 0
Aims N s = Targets N

abbrev pub invariant-loop-i : goal.invariant-loop-i
invariant-loop-i l = Inv InPlace l.s l.entries l.count l.i

abbrev pub invariant-loop-j : goal.invariant-loop-j
invariant-loop-j l = Inv Aims l.s l.entries l.count l.j × Placed (map statement_in (take l.count l.entries))
