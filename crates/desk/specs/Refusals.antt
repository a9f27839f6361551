-- Refusals in words: document 01, "Numbers for a refused call or mark", and those of document 02. Whose mistake it is comes first.
-- The figures of sizes in the words are text.
use Rattle.std.specs.Prelude.{List, [], ◌∷◌, ◌++◌, ℕ, eqb}
use Prim.Native.String.{String}
use Rattle.base.specs.Bytes.{bytes}
use Rattle.base.specs.Pick.{pick}
use Rattle.language.specs.Spelling.{digits}

-- the number of a refusal and what is said of it; the number of a line, or of a byte, where it is about one, stands between two texts
pub data Row : Type 0 where
  whole : ℕ → String → Row
  on_line : ℕ → String → String → Row

abbrev pub refusals : List Row
refusals =
    whole 1 "the host program: table under 1,024 words, verdicts under 1,024 bytes or new text under 34,816 bytes"
    ∷ whole 15 "the host program: budget over 1,000,000"
    ∷ on_line 2 "the author of the shift program: line " " isn't spelled as a statement, or lacks its byte 10"
    ∷ whole 3 "the author of the shift program: under 2 or over 1,024 lines"
    ∷ on_line 4 "the author of the shift program: line " ": read or write missing from its place or standing elsewhere"
    ∷ on_line 5 "the author of the shift program: line " ": a target outside 2 to N"
    ∷ whole 6 "the author of the condition: longer than 1,024 bytes"
    ∷ on_line 7 "the author of the condition: misspelled from byte " " on"
    ∷ whole 8 "the author of the condition: over 64 parts"
    ∷ on_line 9 "the optimiser: line " " isn't spelled as a mark, or lacks its byte 10"
    ∷ whole 10 "the optimiser: over 1,024 lines"
    ∷ whole 16 "the author of the review: no line or over 32 lines"
    ∷ whole 17 "the author of the review: over 128 differing parts"
    ∷ whole 19 "the buyer: some price misspelled or outside 1 to 65,535, or the last without its byte 10"
    ∷ whole 20 "the buyer: other than 11 lines of prices"
    ∷ whole 21 "the author of the shift program: the joined program has over 1,024 statements"
    ∷ whole 22 "the author of the driver's list: a variable misspelled or named twice"
    ∷ whole 23 "who names stages: a name that isn't 1 to 8 lower-case letters"
    ∷ whole 24 "who names stages: a new name where all eight places hold others"
    ∷ whole 25 "who names stages: a name that no place holds"
    ∷ []

-- what the row of n says, or nothing
abbrev pub words_in : List Row → ℕ → ℕ → List ℕ
words_in [] n line = []
words_in (whole m text ∷ rows) n line = pick (eqb n m) (bytes text) (words_in rows n line)
words_in (on_line m before after ∷ rows) n line = pick (eqb n m) (bytes before ++ (digits line ++ bytes after)) (words_in rows n line)

-- the words of refusal n, which for 2, 4 and 5 is about this line of the program's text, for 9 about this line of the list of marks and for 7
-- about this byte of the condition's text
unfoldable pub refusal_words : ℕ → ℕ → List ℕ
refusal_words n line = words_in refusals n line

-- "`refused`, a space and the number", and the words on a line of their own
unfoldable pub refusal_text : ℕ → ℕ → List ℕ
refusal_text n line = bytes "refused " ++ (digits n ++ 10 ∷ (refusal_words n line ++ 10 ∷ []))

-- every refusal has room in this many bytes
abbrev pub refusal_room : ℕ
refusal_room = 128
