-- A proof device: the table of items as the code holds it, and what the code keeps. It promises nothing by itself.
use Rattle.std.specs.Prelude.{List, [], ◌∷◌, ◌++◌, ◌&&◌, ℕ, ◌+◌, ◌*◌, ◌^◌, ◌≤◌, eqb, drop, Option, None, Some}
use Rattle.base.specs.Pick.{pick}
use Rattle.condition.specs.Texts.{most_bytes}
use Rattle.viable.specs.Grammar.{rows, Expansion, word, none, Reached, at, nowhere}
use Rattle.condition_blame.specs.declared.State.{State}

abbrev pub growth : ℕ
growth = 16

abbrev pub room : ℕ
room = growth * most_bytes + 1

-- each row after a byte 10
abbrev pub flat : List (List ℕ) → List ℕ
flat [] = []
flat (r ∷ rs) = 10 ∷ (r ++ flat rs)

unfoldable pub table : List ℕ
table = flat rows

-- up to the end of a row
unfoldable pub line : List ℕ → List ℕ
line [] = []
line (x ∷ l) = pick (eqb x 10) [] (x ∷ line l)

unfoldable pub row_in : List ℕ → ℕ → ℕ → Expansion
row_in [] i c = none
row_in (x ∷ []) i c = none
row_in (x ∷ y ∷ []) i c = none
row_in (x ∷ y ∷ z ∷ l) i c = pick (eqb x 10 && (eqb y i && eqb z c)) (word (line l)) (row_in (y ∷ z ∷ l) i c)

-- where the reading stands, the items being q from the top on
abbrev pub reached_in : List ℕ → Option State → Reached
reached_in q (Some s) = at s.bound s.value (drop s.top q)
reached_in q None = nowhere

-- at most `most` items are added to those from the top on, which stay before the end, and the numbers are small
abbrev pub Near : ℕ → ℕ → ℕ → Option State → Type 0
Near most top end (Some s) = (top ≤ s.top + most) × (s.top ≤ end) × (s.bound ≤ 2 ^ 32) × (s.value ≤ 2 ^ 32)
Near most top end None = Unit
