use Rattle.std.proofs.Common.{◌≡◌}
use Rattle.program.specs.Reading.{statements}
use Rattle.pricing.proofs.Columns.{begun}
use Rattle.pricing.proofs.prices_of.Given as goal

abbrev pub invariant-loop-s : goal.invariant-loop-s
invariant-loop-s l = l.prices ≡ begun l.table (statements l.p) l.s
