use Prim.Native.Nat.{◌-◌, ℕ}
use lib.ListN.{length, take}
use mathlib.Core.Path.{◌≡◌}
use mathlib.Core.List.{List, map}
use Rattle.language.specs.Spelling.{spell, Valid}
use Rattle.encoding.specs.declared.Entry.{Entry}
use Rattle.encoding.specs.Encoding.{statement_in}
use Rattle.program.specs.Program.{most}
use Rattle.lines.proofs.Reading as reading
use Rattle.program.proofs.read_lines.Given as goal

pub record SoFar (t : List ℕ) (es : List Entry) (n at : ℕ) : Type 0 where
  pub lines : reading.SoFar spell Valid t n at
  pub kept : map statement_in (take n es) ≡ take most lines.read
  pub room : length es ≡ most

abbrev pub invariant-loop-at : goal.invariant-loop-at
invariant-loop-at l = SoFar l.s l.entries l.count l.at

abbrev pub decreases-loop-at : goal.decreases-loop-at
decreases-loop-at l = length l.s - l.at
