-- Proof devices: what the functions that find the numbers establish on the way. No sentence of the documents stands here.
-- A search backward, by a queue: a place has its number from when it is queued on, and is in the set from when it is taken from the
-- queue on.
use Rattle.std.specs.Prelude.{◌≡◌, List, Bool, true, false, ◌⊎◌, ℕ, suc, ◌+◌, ◌*◌, ◌≤◌, ◌<◌, eqb, length, get_or}
use Rattle.bits.specs.Row.{count_below}
use Rattle.ctl.specs.Paths.{A, So}
use Rattle.ctl.specs.Tables.{Onto}
use Rattle.graph.specs.Lists.{step}
use Rattle.worklist.specs.Worklist.{Rest, Gathered}
use Rattle.forcing.specs.Numbers.{none, number_of, numbered}

-- why s has its number, where that is not 0: a step into the set leads to one less, and at the other player's places all steps lead into
-- the set, to less
pub record Found (step : ℕ → ℕ → Bool) (mine set : ℕ → Bool) (number : ℕ → ℕ) (s : ℕ) : Type 0 where
  pub next : 0 < number s → ((t : ℕ) × (step s t ≡ true) × (set t ≡ true) × (number s ≡ suc (number t)))
  pub each : 0 < number s → mine s ≡ false → (t : ℕ) → step s t ≡ true → (set t ≡ true) × (number t < number s)

-- the places of the queue from `lo` to `hi` wait; the numbers of the set are at most `level`, the others `level` or one more; the places
-- that are to have a number have one, but for `more`
pub record Search (n : ℕ) (step : ℕ → ℕ → Bool) (mine won set : ℕ → Bool) (number : ℕ → ℕ) (queue : List ℕ) (lo hi level : ℕ) (more : ℕ → Bool) : Type 0 where
  pub found : (s : ℕ) → s < n → won s ≡ true → Found step mine set number s
  pub taken : (s : ℕ) → set s ≡ true → (won s ≡ true) × (number s ≤ level)
  pub most : (s : ℕ) → s < n → won s ≡ true → number s ≤ suc level
  pub queued : (i : ℕ) → i < hi → (get_or queue i 0 < n) × (won (get_or queue i 0) ≡ true) × (number (get_or queue i 0) ≤ i)
  pub range : lo ≤ hi
  pub fit : hi ≤ count_below won n
  pub ahead : (i : ℕ) → lo ≤ i → i < hi → level ≤ number (get_or queue i 0)
  pub order : (i j : ℕ) → lo ≤ i → i ≤ j → j < hi → number (get_or queue i 0) ≤ number (get_or queue j 0)
  pub waits : (s : ℕ) → s < n → won s ≡ true → (set s ≡ true) ⊎ ((i : ℕ) × (lo ≤ i) × (i < hi) × (get_or queue i 0 ≡ s))
  pub mine_due : (s t : ℕ) → s < n → mine s ≡ true → step s t ≡ true → set t ≡ true
      → ((won s ≡ true) × (number s ≤ suc (number t))) ⊎ ((more s ≡ true) × (level ≤ number t))
  pub theirs_due : (s : ℕ) → s < n → mine s ≡ false → Onto A step (So set) s → (won s ≡ true) ⊎ (more s ≡ true)

-- s is to have a number, if some step of it leads into the set
pub record Due (step : ℕ → ℕ → Bool) (mine won set : ℕ → Bool) (s : ℕ) : Type 0 where
  pub out : won s ≡ false
  pub onto : mine s ≡ false → Onto A step (So set) s

-- the places of q have the number 0 and are queued, the other places have none
pub record Started (q : ℕ → Bool) (n : ℕ) (numbers queue : List ℕ) (h : ℕ) : Type 0 where
  pub gathered : Gathered q n queue h
  pub inside : (s : ℕ) → s < n → q s ≡ true → number_of numbers s ≡ 0
  pub outside : (s : ℕ) → s < n → q s ≡ false → number_of numbers s ≡ none

-- the rows, the numbers and the queue have room for n places, which 16 bits tell apart
pub record Space (n : ℕ) (mine set numbers queue : List ℕ) : Type 0 where
  pub mine_room : n ≤ length mine * 64
  pub set_room : n ≤ length set * 64
  pub numbers_size : length numbers ≡ n
  pub queue_room : n ≤ length queue
  pub small : n ≤ 65536

-- the search over lists
abbrev pub SearchIn : List ℕ → List ℕ → List ℕ → (ℕ → Bool) → (ℕ → Bool) → List ℕ → List ℕ → ℕ → ℕ → ℕ → (ℕ → Bool) → Type 0
SearchIn head link to mine set numbers queue lo hi level more =
    Search (length head) (step head link to) mine (numbered numbers) set (number_of numbers) queue lo hi level more

-- what `visit` starts from: the place at `at` was taken from the queue, and its predecessors are due
pub record Visit (head link to : List ℕ) (mine set : ℕ → Bool) (rest numbers queue : List ℕ) (at hi : ℕ) (more : ℕ → Bool) : Type 0 where
  pub below : at < hi
  pub reached : set (get_or queue at 0) ≡ true
  pub seen : Rest head link to rest set
  pub search : SearchIn head link to mine set numbers queue (at + 1) hi (number_of numbers (get_or queue at 0)) more

-- the predecessors were visited; the numbers were `old` before: a place keeps its number, and none comes to have the number 0
pub record Visited (head link to : List ℕ) (mine set : ℕ → Bool) (rest old numbers queue : List ℕ) (lo hi level : ℕ) (more : ℕ → Bool) : Type 0 where
  pub seen : Rest head link to rest set
  pub search : SearchIn head link to mine set numbers queue lo hi level more
  pub kept : (s : ℕ) → numbered old s ≡ true → number_of numbers s ≡ number_of old s
  pub zeros : (s : ℕ) → eqb (number_of numbers s) 0 ≡ eqb (number_of old s) 0
