-- Document 01's starred cases are true of the definitions: one list under one statement. A table's case is a test that computes. A run's case
-- computes for all starting values, since P sets each of its four variables before it uses it. The check program's output is computed from
-- the lines of `marks`. Assumes nothing.
use mathlib.Core.Path.{◌≡◌, refl}
use mathlib.Core.List.{List, [], ◌∷◌, ◌++◌}
use mathlib.Core.Bool.{true}
use Prim.Native.Nat.{ℕ, zero, suc}
use native.Mathlib.Omega.{arith}
use lib.ListN.{length, drop}
use Rattle.language.specs.Spelling.{variables}
use Rattle.language.specs.Kept.{kept_of}
use Rattle.tokens.specs.Parsing.{found}
use Rattle.pricing.specs.Prices.{ours}
use Rattle.machine.specs.Machine.{after}
use Rattle.machine.specs.Ticks.{ticks}
use Rattle.base.specs.Bytes.{bytes}
use Rattle.cases.specs.Cases.{lines, P-text, Case, table, ends, spent, check, cases, Is, Each}
use Rattle.cases.proofs.Taken.{P-program, P-taken}
use Rattle.cases.proofs.Words.{right, right-tabulates}
use Rattle.cases.proofs.Runs.{Ending, Standing, ending-answers, standing-answers}
use Rattle.cases.proofs.Report.{printed, printed-report}

-- X is true of all lists that begin with a value for each of `i0` to `i3`
abbrev FromFour : (List ℕ → Type 0) → Type 0
FromFour X = (a b c d : ℕ) (r : List ℕ) → X (a ∷ b ∷ c ∷ d ∷ r)

from-four : (X : List ℕ → Type 0) → FromFour X → (vs : List ℕ) → length vs ≡ variables → X vs
from-four X f [] e = absurd (omega arith)
from-four X f (a ∷ []) e = absurd (omega arith)
from-four X f (a ∷ b ∷ []) e = absurd (omega arith)
from-four X f (a ∷ b ∷ c ∷ []) e = absurd (omega arith)
from-four X f (a ∷ b ∷ c ∷ d ∷ r) e = f a b c d r

-- what is left to compute
abbrev Computes : Case → Type 0
Computes (table t xs) = right P-program P-taken.program (bytes t) xs ≡ true
Computes (ends input value zero t) = ⊥
Computes (ends input value (suc k) t) =
    FromFour λ vs. Ending (after P-program vs input k) (after P-program vs input (suc k)) value (kept_of vs) × (t ≡ ticks ours P-program vs input (suc k))
Computes (spent input budget n t us) =
    FromFour λ vs. Standing (after P-program vs input budget) n (us ++ drop (length us) vs) × (t ≡ ticks ours P-program vs input budget)
Computes (check ms out) = printed P-program P-taken.program (lines ms) ≡ found (lines out) []

case-is : (c : Case) → Computes c → Is c
case-is (table t xs) h = (P-program, P-taken, right-tabulates P-program P-taken.program (bytes t) xs h)
case-is (ends input value zero t) h = absurd h
case-is (ends input value (suc k) t) h =
    (P-program, P-taken, from-four _ (λ a b c d r. let e = h a b c d r in ending-answers P-program _ input k value t _ e.0 e.1))
case-is (spent input budget n t us) h =
    (P-program, P-taken, from-four _ (λ a b c d r. let e = h a b c d r in standing-answers P-program _ input budget n t _ e.0 e.1))
case-is (check ms out) h = printed-report P-text P-program P-taken (lines ms) (lines out) h

each-is : (l : List Case) → Each Computes l → Each Is l
each-is [] h = tt
each-is (c ∷ l) h = (case-is c h.0, each-is l h.1)

pub cases-hold : Each Is cases
unfolding lines P-program right after ticks printed
cases-hold =
    each-is cases
    (refl, (refl, (refl, (refl, (refl, (refl, (refl, (refl, (λ a b c d r. ((refl, refl), refl), (λ a b c d r. ((refl, refl), refl), (λ a b c d r. ((refl, refl), refl), (refl, tt))))))))))))
