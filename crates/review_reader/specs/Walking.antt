-- Proof devices: what the contracts of the functions that read the lines of a review say. No sentence of a document stands here.
use Rattle.std.specs.Prelude.{◌≡◌, List, ℕ, ◌≤◌, ◌<◌, length, get_or, Result, Ok, Err}
use Rattle.condition.specs.Condition.{Condition, parts}
use Rattle.sharing.specs.Sharing.{most_lines, part, number_of, firsts, parts_of}
use Rattle.numbering.specs.Numbering.{Shares}
use Rattle.condition_reader.specs.declared.Refusal as condition-refusal
use Rattle.review_reader.specs.Reading.{Split, count_of_lines, RestRefused, Refused, Taken}
use Rattle.review_reader.specs.declared.Reading.{Reading}
use Rattle.review_reader.specs.declared.Refusal.{Refusal}

-- the line at `at` goes up to r, where its byte 10 stands or the text ends
pub record EndsAt (s : List ℕ) (at r : ℕ) : Type 0 where
  pub from : at ≤ r
  pub within : r ≤ length s
  pub unbroken : (i : ℕ) → at ≤ i → i < r → get_or s i 0 ≡ 10 → ⊥
  pub ended : r < length s → get_or s r 0 ≡ 10

-- the text has n lines
pub record Counted (u : List ℕ) (n : ℕ) : Type 0 where
  pub ls : List (List ℕ)
  pub rest : List ℕ
  pub split : Split u ls rest
  pub counted : n ≡ count_of_lines ls rest

-- r is the refusal of an unfinished last line of n bytes
abbrev pub RestTold : ℕ → condition-refusal.Refusal → Type 0
RestTold n r = (rest : List ℕ) → length rest ≡ n → 0 < n → RestRefused rest r

-- for each of the conditions cs the number of its table and of its parts, and zeros past them
pub record LinesOf (cs : List Condition) (numbers counts : List ℕ) : Type 0 where
  pub room : length numbers ≡ most_lines
  pub room_counts : length counts ≡ most_lines
  pub sizes : (i : ℕ) → i < length cs → get_or counts i 0 ≡ length (parts (part cs i))
  pub past : (i : ℕ) → length cs ≤ i → get_or numbers i 0 ≡ 0
  pub past_counts : (i : ℕ) → length cs ≤ i → get_or counts i 0 ≡ 0

abbrev pub TablesOf : List Condition → List ℕ → Type 0
TablesOf cs numbers = (i : ℕ) → i < length cs → get_or numbers i 0 ≡ number_of (firsts (parts_of cs)) (part cs i)

-- the text is taken as the conditions cs, and what is kept of them
pub record Held (u : List ℕ) (cs : List Condition) (tables lines : ℕ) (entries numbers counts : List ℕ) : Type 0 where
  pub taken : Taken u cs
  pub counted : lines ≡ length cs
  pub shares : Shares u (parts_of cs) entries tables
  pub lines_of : LinesOf cs numbers counts
  pub tables_of : TablesOf cs numbers

abbrev pub ReviewRead : List ℕ → Result Reading Refusal → List ℕ → List ℕ → List ℕ → Type 0
ReviewRead u (Ok r) entries numbers counts = (cs : List Condition) × Held u cs r.tables r.lines entries numbers counts
ReviewRead u (Err r) entries numbers counts = Refused u r
