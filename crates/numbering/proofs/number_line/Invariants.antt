use Rattle.numbering.specs.Numbering.{Sharing, Line, SoFar}
use Rattle.condition.specs.Condition.{Condition}
use mathlib.Core.List.{List}
use Rattle.numbering.proofs.number_line.Given as goal

abbrev pub invariant-loop-k : goal.invariant-loop-k
invariant-loop-k l =
    (ps : List Condition) (d : Condition) → Line l.text l.base l.parts l.words ps d → Sharing l.text ps l.initial.entries l.initial.links l.initial.heads l.count → SoFar l.text ps d l.numbers l.entries l.links l.heads l.n l.k
