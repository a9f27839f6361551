use Prim.Native.Nat.{◌≤◌, ◌-◌, ◌*◌, ℕ}
use Rattle.program.specs.Program.{at}
use Rattle.program.specs.Reading.{statements}
use Rattle.machine.proofs.Runs.{Stands}
use Rattle.language.specs.declared.Statement.{Statement}
use mathlib.Core.Path.{◌≡◌}
use mathlib.Core.List.{List}
use Rattle.pricing.specs.Prices.{column}
use Rattle.machine.specs.Ticks as spec
use Rattle.execution.proofs.run.Given as goal

abbrev pub Paid : List Statement → List ℕ → ℕ → List ℕ → ℕ → ℕ → Type 0
Paid P start input prices steps t = (ps : List ℕ) → prices ≡ column ps P → t ≡ spec.ticks ps P start input steps

abbrev pub invariant-loop-steps : goal.invariant-loop-steps
invariant-loop-steps l =
    Stands (statements l.program) l.start l.input l.steps l.at l.values × (l.steps ≤ l.budget) × (l.ticks ≤ l.steps * 4294967295) × Paid (statements l.program) l.start l.input l.prices l.steps l.ticks

abbrev pub decreases-loop-steps : goal.decreases-loop-steps
decreases-loop-steps l = l.budget - l.steps
