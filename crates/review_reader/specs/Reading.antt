-- The conditions of a review: the lines of their text, which refusal it gets, and what is read of it. Document 02, "All conditions of a review
-- together".
use Rattle.std.specs.Prelude.{◌≡◌, List, [], ◌∷◌, ◌++◌, ◌⊎◌, ℕ, ◌+◌, ◌≤◌, ◌<◌, length, get_or}
use Rattle.lines.specs.Lines as lines
use Rattle.condition.specs.Condition.{Condition}
use Rattle.condition.specs.Texts as condition
use Rattle.condition_reader.specs.Reading as condition-reading
use Rattle.condition_reader.specs.declared.Refusal as condition-refusal
use Rattle.condition_reader.specs.declared.Refusal.TheVariants.{Length, Misspelled, PartCount}
use Rattle.sharing.specs.Sharing.{most_lines, most_tables, firsts, parts_of}
use Rattle.review_reader.specs.declared.Refusal.{Refusal}
use Rattle.review_reader.specs.declared.Refusal.TheVariants.{LineCount, Line, TableCount}

-- "one a line": a line's bytes without the byte 10 that ends it
abbrev pub itself : List ℕ → List ℕ
itself l = l

abbrev pub Unbroken : List ℕ → Type 0
Unbroken l = (i : ℕ) → i < length l → get_or l i 0 ≡ 10 → ⊥

-- the text u is the lines ls, each ended by byte 10, and what follows the last byte 10
pub record Split (u : List ℕ) (ls : List (List ℕ)) (rest : List ℕ) : Type 0 where
  pub text : u ≡ lines.text itself ls ++ rest
  pub ended : lines.AllValid Unbroken ls
  pub unended : Unbroken rest

-- "an unfinished last one counted"
abbrev pub count_of_lines : List (List ℕ) → List ℕ → ℕ
count_of_lines ls [] = length ls
count_of_lines ls (b ∷ rest) = length ls + 1

-- "16 for no line or over 32 lines .. 17 for over 128 differing parts"; of a line the condition's number
abbrev pub number : Refusal → ℕ
number LineCount = 16
number (Line r) = condition-reading.number r
number TableCount = 17

-- each line is taken as a condition
abbrev pub AllTaken : List (List ℕ) → List Condition → Type 0
AllTaken [] [] = Unit
AllTaken [] (c ∷ cs) = ⊥
AllTaken (l ∷ ls) [] = ⊥
AllTaken (l ∷ ls) (c ∷ cs) = condition.Taken l c × AllTaken ls cs

-- "a last line without byte 10 is misspelled"; one that is too long gets that refusal first
abbrev pub RestRefused : List ℕ → condition-refusal.Refusal → Type 0
RestRefused rest Length = condition.most_bytes < length rest
RestRefused rest Misspelled = (0 < length rest) × (length rest ≤ condition.most_bytes)
RestRefused rest PartCount = ⊥

-- "Each line keeps 6 to 8, the first faulty line deciding": the lines before it are taken
pub data FirstFaulty (ls : List (List ℕ)) (rest : List ℕ) (r : condition-refusal.Refusal) : Type 0 where
  line : (bs : List (List ℕ)) (l : List ℕ) (es : List (List ℕ)) (cs : List Condition) → ls ≡ bs ++ l ∷ es → AllTaken bs cs → condition-reading.Refused l r → FirstFaulty ls rest r
  last : (cs : List Condition) → AllTaken ls cs → RestRefused rest r → FirstFaulty ls rest r

-- the lines may be read
abbrev pub Countable : List (List ℕ) → List ℕ → Type 0
Countable ls rest = (0 < count_of_lines ls rest) × (count_of_lines ls rest ≤ most_lines)

-- the text is the lines of the conditions cs
pub record Spelled (u : List ℕ) (cs : List Condition) : Type 0 where
  pub ls : List (List ℕ)
  pub split : Split u ls []
  pub countable : Countable ls []
  pub taken : AllTaken ls cs

-- the text gets this refusal: it applies, and none before it does
abbrev pub Refused : List ℕ → Refusal → Type 0
Refused u LineCount = (ls : List (List ℕ)) × (rest : List ℕ) × Split u ls rest × ((count_of_lines ls rest ≡ 0) ⊎ (most_lines < count_of_lines ls rest))
Refused u (Line r) = (ls : List (List ℕ)) × (rest : List ℕ) × Split u ls rest × Countable ls rest × FirstFaulty ls rest r
Refused u TableCount = (cs : List Condition) × Spelled u cs × (most_tables < length (firsts (parts_of cs)))

-- the text is taken as the conditions cs
pub record Taken (u : List ℕ) (cs : List Condition) : Type 0 where
  pub spelled : Spelled u cs
  pub few : length (firsts (parts_of cs)) ≤ most_tables
