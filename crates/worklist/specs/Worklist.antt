-- Proof devices: what the functions behind `close` establish on the way. No sentence of document 01 stands here.
-- A worklist: the set grows from its members back along the steps, by the lists of the opposite direction.
use Rattle.std.specs.Prelude.{◌≡◌, List, Bool, true, false, ◌⊎◌, ℕ, ◌+◌, ◌-◌, ◌*◌, ◌≤◌, ◌<◌, length, get_or}
use Rattle.bits.specs.Row.{count_below}
use Rattle.ctl.specs.Paths.{Quant, A, So}
use Rattle.ctl.specs.Tables.{Onto, Joins, Grew}
use Rattle.graph.specs.Lists.{step, listed}

-- r is the first position from k on whose target is not in the set, or 0
pub record Skipped (link to : List ℕ) (set : ℕ → Bool) (k r : ℕ) : Type 0 where
  pub low : r ≤ k
  pub unseen : (t : ℕ) → listed link to k t ≡ true → set t ≡ false → listed link to r t ≡ true
  pub within : (t : ℕ) → listed link to r t ≡ true → listed link to k t ≡ true
  pub stop : 0 < r → set (get_or to (r - 1) 0) ≡ false

-- `rest` holds a position for each place: the edges before it lead into the set
pub record Rest (head link to rest : List ℕ) (set : ℕ → Bool) : Type 0 where
  pub long : length rest ≡ length head
  pub low : (s : ℕ) → get_or rest s 0 ≤ get_or head s 0
  pub unseen : (s t : ℕ) → step head link to s t ≡ true → set t ≡ false → listed link to (get_or rest s 0) t ≡ true
  pub within : (s t : ℕ) → listed link to (get_or rest s 0) t ≡ true → step head link to s t ≡ true

-- s joins the set, if some step of it leads there
pub record Ready (all : Bool) (step : ℕ → ℕ → Bool) (p set : ℕ → Bool) (s : ℕ) : Type 0 where
  pub out : set s ≡ false
  pub pass : p s ≡ true
  pub onto : all ≡ true → Onto A step (So set) s

-- the first h places of `stack` are in the set, and each place that is to join steps to one of them, or is one of `more`
pub record Work (k : Quant) (n : ℕ) (step : ℕ → ℕ → Bool) (p set : ℕ → Bool) (stack : List ℕ) (h : ℕ) (more : ℕ → Bool) : Type 0 where
  pub stacked : (i : ℕ) → i < h → (get_or stack i 0 < n) × (set (get_or stack i 0) ≡ true)
  pub fit : h ≤ count_below set n
  pub due : (s : ℕ) → s < n → Joins k step p set s → ((i : ℕ) × (i < h) × (step s (get_or stack i 0) ≡ true)) ⊎ (more s ≡ true)

-- the predecessors of a place were visited, with g places stacked before and h after
pub record Visited (k : Quant) (head link to : List ℕ) (p z y : ℕ → Bool) (rest stack : List ℕ) (g h : ℕ) (more : ℕ → Bool) : Type 0 where
  pub seen : Rest head link to rest y
  pub work : Work k (length head) (step head link to) p y stack h more
  pub grew : Grew k (length head) (step head link to) p z y
  pub paid : h + count_below z (length head) ≤ g + count_below y (length head)

-- the first h places of `stack` are the members of the set below n
pub record Gathered (set : ℕ → Bool) (n : ℕ) (stack : List ℕ) (h : ℕ) : Type 0 where
  pub stacked : (i : ℕ) → i < h → (get_or stack i 0 < n) × (set (get_or stack i 0) ≡ true)
  pub fit : h ≤ count_below set n
  pub each : (s : ℕ) → s < n → set s ≡ true → (i : ℕ) × (i < h) × (get_or stack i 0 ≡ s)

-- the lesser of two numbers
abbrev pub lesser : ℕ → ℕ → ℕ
lesser a b = a - (a - b)

-- the rows and the stack have room for n places, which 16 bits tell apart
pub record Space (n : ℕ) (p set stack : List ℕ) : Type 0 where
  pub p_room : n ≤ length p * 64
  pub set_room : n ≤ length set * 64
  pub stack_room : n ≤ length stack
  pub small : n ≤ 65536

-- what `visit` starts from: t, whose predecessors are due, is in the set
pub record Visit (k : Quant) (head link to : List ℕ) (t : ℕ) (p set : ℕ → Bool) (rest stack : List ℕ) (h : ℕ) (more : ℕ → Bool) : Type 0 where
  pub low : t < length head
  pub reached : set t ≡ true
  pub seen : Rest head link to rest set
  pub work : Work k (length head) (step head link to) p set stack h more
