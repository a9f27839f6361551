-- Stages with a name: what stands in the bytes that a host lends for them. Document 02, Wish 11.
use Rattle.std.specs.Prelude.{◌≡◌, List, ◌∷◌, ◌++◌, ℕ, ◌+◌, ◌-◌, ◌*◌, ◌/◌, ◌%◌, ◌≤◌, ◌<◌, length, get_or, take, drop}
use Rattle.language.specs.declared.Statement.{Statement}
use Rattle.program.specs.Program.{Taken}
use Rattle.stage_names.specs.Names.{name_bytes, ValidName, filled}

-- "Up to 8 stages .. in 70,000 bytes that the caller lends", 280,000 by Wish 13
abbrev pub places : ℕ
places = 8

abbrev pub stage_bytes : ℕ
stage_bytes = 280000

-- "Each of the eight places is an eighth of these bytes"
abbrev pub place_room : ℕ
place_room = stage_bytes / places

-- places count from 0; what is lent beyond the eight belongs to none
abbrev pub place : List ℕ → ℕ → List ℕ
place mem k = take place_room (drop (place_room * k) mem)

-- "the name, filled up with zero bytes to 8, the text's length in 2 bytes, low byte first, then the text"
abbrev pub length_bytes : ℕ
length_bytes = 2

abbrev pub head_bytes : ℕ
head_bytes = name_bytes + length_bytes

abbrev pub most_text : ℕ
most_text = place_room - head_bytes

-- so a stage is written
abbrev pub written : List ℕ → List ℕ → List ℕ
written n t = filled n ++ (length t % 256 ∷ length t / 256 ∷ t)

-- and so the length and the text are found in the bytes of a place
abbrev pub length_in : List ℕ → ℕ
length_in b = get_or b name_bytes 0 + 256 * get_or b (name_bytes + 1) 0

abbrev pub text_in : List ℕ → List ℕ
text_in b = take (length_in b) (drop head_bytes b)

-- the bytes of a place have a right name n, and a text t within the place that is taken
pub record Stands (b n t : List ℕ) : Type 0 where
  pub P : List Statement
  pub valid : ValidName n
  pub named : take name_bytes b ≡ filled n
  pub short : length_in b ≤ most_text
  pub text : t ≡ text_in b
  pub taken : Taken t P

-- place k isn't empty: it holds a stage that stands right there and under whose name none stands right before it. specs/Sentence.antt has the
-- words of document 02, which say the same
pub record Holds (mem : List ℕ) (k : ℕ) (n t : List ℕ) : Type 0 where
  pub inside : k < places
  pub stands : Stands (place mem k) n t
  pub first : (j : ℕ) → j < k → (u : List ℕ) → Stands (place mem j) n u → ⊥

abbrev pub Empty : List ℕ → ℕ → Type 0
Empty mem k = (n t : List ℕ) → Holds mem k n t → ⊥
