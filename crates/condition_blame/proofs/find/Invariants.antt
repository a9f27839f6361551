use mathlib.Core.Path.{◌≡◌}
use lib.ListN.{drop}
use Rattle.condition_blame.specs.Search.{row_in}
use Rattle.condition_blame.proofs.find.Given as goal

abbrev pub invariant-loop-k : goal.invariant-loop-k
invariant-loop-k l = row_in l.table l.i l.c ≡ row_in (drop l.k l.table) l.i l.c
