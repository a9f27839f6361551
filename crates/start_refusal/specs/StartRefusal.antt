-- What is said of a start that is wrong.
use Rattle.std.specs.Prelude.{List, [], ◌∷◌, ◌++◌, ℕ, ◌+◌, eqb, Option, Some, None}
use Rattle.language.specs.Spelling.{digits}
use Rattle.language.specs.Room.{number_digits}
use Rattle.base.specs.Pick.{pick}
use Rattle.base.specs.Bytes.{bytes}
use Rattle.start.specs.declared.Wrong.{Wrong}
use Rattle.start.specs.declared.Wrong.TheVariants.{Few, Many, Line, Unended}

-- what line n of a start has to be: line 2 is the budget, which is at most `run`'s most-steps, as text; from line 3 on variables may be named
unfoldable pub or_named : ℕ → List ℕ
or_named n = pick (eqb n 1) [] (bytes ", alone or behind a later variable: i13 = 40")

unfoldable pub line_range : ℕ → List ℕ
line_range n = pick (eqb n 2) (bytes " isn't a whole number from 0 to 1000000") (bytes " isn't a whole number from -2147483648 to 2147483647" ++ or_named n)

-- what is wrong with a start, in words; their figures are `start`'s fewest and most, as text
unfoldable pub start_words : Wrong → List ℕ
start_words Few = bytes "under 2 lines"
start_words Many = bytes "over 66 lines"
start_words (Line n) = bytes "line " ++ (digits n ++ line_range n)
start_words (Unended n) = bytes "line " ++ (digits n ++ bytes " lacks its line end, byte 10")

unfoldable pub start_text : Wrong → List ℕ
start_text r = bytes "refused start" ++ 10 ∷ (bytes "the start: " ++ (start_words r ++ 10 ∷ []))

-- the same of any start: where nothing is wrong, no words stand in the line
abbrev pub refusal_text : Option Wrong → List ℕ
refusal_text (Some r) = start_text r
refusal_text None = bytes "refused start" ++ 10 ∷ (bytes "the start: " ++ 10 ∷ [])

-- room for the longest range, for words about line 4294967295, and for the text around them
abbrev pub named_room : ℕ
named_room = 44

abbrev pub range_room : ℕ
range_room = 52 + named_room

abbrev pub words_room : ℕ
words_room = 5 + (number_digits + range_room)

abbrev pub start_room : ℕ
start_room = 26 + words_room
