-- Proof devices: what is asked of a place on the way to its holding a stage.
use Rattle.std.specs.Prelude.{◌≡◌, List, ℕ, ◌≤◌, ◌<◌, take}
use Rattle.language.specs.declared.Statement.{Statement}
use Rattle.program.specs.Program.{Taken}
use Rattle.stage_names.specs.Names.{name_bytes}
use Rattle.stages.specs.Stages.{most_text, place, length_in, text_in, Stands}

-- the text lies within the place and is taken
abbrev pub TextTaken : List ℕ → Type 0
TextTaken b = (length_in b ≤ most_text) × (P : List Statement) × Taken (text_in b) P

-- a place before k has the bytes of k's name
abbrev pub Repeated : List ℕ → ℕ → Type 0
Repeated mem k = (j : ℕ) × (j < k) × (take name_bytes (place mem j) ≡ take name_bytes (place mem k))

-- no place before k has a stage under the name that stands right
abbrev pub StandsNowhere : List ℕ → List ℕ → ℕ → Type 0
StandsNowhere mem n k = (j : ℕ) → j < k → (t : List ℕ) → Stands (place mem j) n t → ⊥
