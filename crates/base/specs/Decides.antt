-- A test and the claim that it decides.
use Rattle.std.specs.Prelude.{Bool, true, false}

-- a test's answer is the truth of X
abbrev pub Decides : Bool → Type 0 → Type 0
Decides true X = X
Decides false X = X → ⊥
