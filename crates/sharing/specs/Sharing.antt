-- The parts of several conditions, and the first occurrences among them by equal spelling: document 02, "All conditions of a review together".
use Rattle.std.specs.Prelude.{◌≡◌, Bool, true, false, cond, ◌&&◌, List, [], ◌∷◌, ◌++◌, ℕ, suc, eqb, ltb, length, get_or}
use Rattle.condition.specs.Condition.{Condition, atom, spell_condition, parts}
use Rattle.condition.specs.declared.Atom.TheVariants.{True}

-- "up to 32 conditions, one a line", "over 128 differing parts"
abbrev pub most_lines : ℕ
most_lines = 32

abbrev pub most_tables : ℕ
most_tables = 128

-- "parts spelled alike"
abbrev pub Alike : Condition → Condition → Type 0
Alike c d = spell_condition c ≡ spell_condition d

-- the same as a test, byte after byte
unfoldable pub same_text : List ℕ → List ℕ → Bool
same_text [] [] = true
same_text [] (b ∷ u) = false
same_text (a ∷ t) [] = false
same_text (a ∷ t) (b ∷ u) = eqb a b && same_text t u

abbrev pub spelled_alike : Condition → Condition → Bool
spelled_alike c d = same_text (spell_condition c) (spell_condition d)

-- what stands at a place of a list; past its end nothing is asked
abbrev pub part : List Condition → ℕ → Condition
part ps k = get_or ps k (atom True)

-- the number of c: the first place of the list whose condition is spelled as c is; the list's length where none is
unfoldable pub number_of : List Condition → Condition → ℕ
number_of [] c = 0
number_of (d ∷ ds) c = cond (spelled_alike d c) 0 (suc (number_of ds c))

-- one condition more, where none of the list is spelled as it is
abbrev pub with_one : List Condition → Condition → List Condition
with_one ds c = cond (ltb (number_of ds c) (length ds)) ds (ds ++ c ∷ [])

-- "parts spelled alike get one table, filled in order of first ending": the first occurrences, after the conditions ds; and by themselves
unfoldable pub firsts_after : List Condition → List Condition → List Condition
firsts_after ds [] = ds
firsts_after ds (c ∷ ps) = firsts_after (with_one ds c) ps

abbrev pub firsts : List Condition → List Condition
firsts ps = firsts_after [] ps

-- the parts of all lines, in the order in which their text ends
unfoldable pub parts_of : List Condition → List Condition
parts_of [] = []
parts_of (c ∷ cs) = parts c ++ parts_of cs
