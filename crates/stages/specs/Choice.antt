-- Which place a name has, and which one a stage that is kept under it takes.
use Rattle.std.specs.Prelude.{◌⊎◌, List, ℕ, ◌<◌, Option, Some, None}
use Rattle.stages.specs.Stages.{places, Holds, Empty}

-- place k holds the name
abbrev pub HasName : List ℕ → List ℕ → ℕ → Type 0
HasName mem n k = (t : List ℕ) × Holds mem k n t

-- "a name that no place holds"
abbrev pub Unknown : List ℕ → List ℕ → Type 0
Unknown mem n = (k : ℕ) → HasName mem n k → ⊥

-- place k holds some stage
abbrev pub Occupied : List ℕ → ℕ → Type 0
Occupied mem k = (n : List ℕ) × HasName mem n k

pub record FirstEmpty (mem : List ℕ) (k : ℕ) : Type 0 where
  pub inside : k < places
  pub empty : Empty mem k
  pub before : (j : ℕ) → j < k → Occupied mem j

-- "A new name takes the first empty place. Keeping under a known name replaces that stage"
abbrev pub Chosen : List ℕ → List ℕ → ℕ → Type 0
Chosen mem n k = HasName mem n k ⊎ (Unknown mem n × FirstEmpty mem k)

-- "keeping a new name where all eight places hold others"
abbrev pub Full : List ℕ → List ℕ → Type 0
Full mem n = Unknown mem n × ((k : ℕ) → k < places → Occupied mem k)

-- what is told of a name, of the first empty place, and of both
abbrev pub Finds : List ℕ → List ℕ → Option ℕ → Type 0
Finds mem n (Some k) = HasName mem n k
Finds mem n None = Unknown mem n

abbrev pub FindsEmpty : List ℕ → Option ℕ → Type 0
FindsEmpty mem (Some k) = FirstEmpty mem k
FindsEmpty mem None = (k : ℕ) → k < places → Occupied mem k

abbrev pub Chooses : List ℕ → List ℕ → Option ℕ → Type 0
Chooses mem n (Some k) = Chosen mem n k
Chooses mem n None = Full mem n
