-- What a run costs under a table of prices: document 02, Wish 7.
use Rattle.std.specs.Prelude.{List, ℕ, zero, suc, ◌+◌}
use Rattle.language.specs.declared.Statement.{Statement}
use Rattle.program.specs.Program.{at}
use Rattle.pricing.specs.Prices.{price}
use Rattle.machine.specs.Machine.{State, before, ended, after}

-- the price of the next step: that of the statement before which the run stands, and none once the run has ended
abbrev pub cost : List ℕ → List Statement → State → ℕ
cost ps P (before s vs) = price ps (at P s)
cost ps P (ended v) = 0

-- "the ticks of the statements that it performed, a statement once for each time, a faulting one included". After k steps:
unfoldable pub ticks : List ℕ → List Statement → List ℕ → ℕ → ℕ → ℕ
ticks ps P vs input zero = 0
ticks ps P vs input (suc k) = ticks ps P vs input k + cost ps P (after P vs input k)
