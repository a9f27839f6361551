-- Proof devices: what the functions that find the distances establish on the way. No sentence of the documents stands here.
-- A search by breadth, by a queue: a place has its number from when it is queued on. `back t s` says that t has the predecessor s.
use Rattle.std.specs.Prelude.{◌≡◌, List, Bool, true, false, ◌⊎◌, ℕ, suc, ◌*◌, ◌≤◌, ◌<◌, length, get_or}
use Rattle.bits.specs.Row.{count_below}
use Rattle.ctl.specs.Paths.{Graph}
use Rattle.graph.specs.Lists.{step, Linked}
use Rattle.graph.specs.Graphs.{Opposite}
use Rattle.forcing.specs.Numbers.{number_of, numbered}
use Rattle.lassos.specs.Distances.{Distances}

-- the first `hi` places of the queue have numbers, those before `lo` were taken from it; the numbers of those that wait are `level` or one
-- more; the predecessors through p of those that were taken have numbers, but for `more`
pub record Search (n : ℕ) (back : ℕ → ℕ → Bool) (p q won : ℕ → Bool) (number : ℕ → ℕ) (queue : List ℕ) (lo hi level : ℕ) (more : ℕ → Bool) : Type 0 where
  pub start : (s : ℕ) → s < n → q s ≡ true → (won s ≡ true) × (number s ≡ 0)
  pub found : (s : ℕ) → s < n → won s ≡ true → q s ≡ false
      → ((t : ℕ) × (t < n) × (p s ≡ true) × (back t s ≡ true) × (won t ≡ true) × (number s ≡ suc (number t)))
  pub queued : (i : ℕ) → i < hi → (get_or queue i 0 < n) × (won (get_or queue i 0) ≡ true) × (number (get_or queue i 0) ≤ i)
  pub each : (s : ℕ) → s < n → won s ≡ true → (i : ℕ) × (i < hi) × (get_or queue i 0 ≡ s)
  pub range : lo ≤ hi
  pub fit : hi ≤ count_below won n
  pub order : (i j : ℕ) → i ≤ j → j < hi → number (get_or queue i 0) ≤ number (get_or queue j 0)
  pub ahead : (i : ℕ) → lo ≤ i → i < hi → level ≤ number (get_or queue i 0)
  pub most : (i : ℕ) → i < hi → number (get_or queue i 0) ≤ suc level
  pub due : (s i : ℕ) → s < n → i < lo → p s ≡ true → back (get_or queue i 0) s ≡ true
      → ((won s ≡ true) × (number s ≤ suc (number (get_or queue i 0)))) ⊎ ((more s ≡ true) × (level ≤ number (get_or queue i 0)))

-- the search over lists
abbrev pub SearchIn : ℕ → (ℕ → ℕ → Bool) → (ℕ → Bool) → (ℕ → Bool) → List ℕ → List ℕ → ℕ → ℕ → ℕ → (ℕ → Bool) → Type 0
SearchIn n back p q numbers queue lo hi level more = Search n back p q (numbered numbers) (number_of numbers) queue lo hi level more

-- between two places of the queue
pub record Searched (entry chain from : List ℕ) (p q : ℕ → Bool) (numbers queue : List ℕ) (lo hi : ℕ) : Type 0 where
  pub level : ℕ
  pub search : SearchIn (length entry) (step entry chain from) p q numbers queue lo hi level (λ _. false)

-- at the predecessors of t, which was taken from the queue last
pub record Visiting (entry chain from : List ℕ) (p q : ℕ → Bool) (numbers queue : List ℕ) (t lo hi level : ℕ) (more : ℕ → Bool) : Type 0 where
  pub inside : t < length entry
  pub has : numbered numbers t ≡ true
  pub is : number_of numbers t ≡ level
  pub low : level < lo
  pub search : SearchIn (length entry) (step entry chain from) p q numbers queue lo hi level more

-- lists of steps turned around, and rows, numbers and a queue with room for their places, which 16 bits tell apart
pub record Space (entry chain from through numbers queue : List ℕ) : Type 0 where
  pub linked : Linked entry chain from
  pub through_room : length entry ≤ length through * 64
  pub numbers_size : length numbers ≡ length entry
  pub queue_room : length entry ≤ length queue
  pub small : length entry ≤ 65536

-- the numbers are the distances from q through p, by all steps that `back` turns around
pub record Found (n : ℕ) (back : ℕ → ℕ → Bool) (p q : ℕ → Bool) (numbers : List ℕ) : Type 0 where
  pub distances : (step : ℕ → ℕ → Bool) → Graph n step → Opposite n step back → Distances n step p q (numbered numbers) (number_of numbers)
