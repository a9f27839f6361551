-- A proof device: the steps of a graph in one direction and in the other, as lists, and where these stand in a lent slice.
use Rattle.std.specs.Prelude.{◌≡◌, List, Bool, ◌||◌, ◌&&◌, ℕ, ◌+◌, ◌*◌, ◌≤◌, ◌<◌, length, take, drop, eqb}
use Rattle.ctl.specs.Paths.{Graph}
use Rattle.graph.specs.Lists.{step, Lists, Linked}

-- the most places of a graph, the code's PLACES: "N is their count", 2 to 1,024 (document 02, Wish 13)
abbrev pub places : ℕ
places = 1024

-- their edges, the code's EDGES: "both arms of an `if`", and backward one more, since "a statement with no predecessor steps back to
-- itself"
abbrev pub edges : ℕ
edges = 3 * places

-- `back` turns the steps of the places below n around, but for steps of a place to itself: "the self-step of `write` is not counted
-- backward", and "a statement with no predecessor steps back to itself"
pub record Opposite (n : ℕ) (step back : ℕ → ℕ → Bool) : Type 0 where
  pub turned : (s t : ℕ) → s < n → t < n → (s ≡ t → ⊥) → back t s ≡ step s t

-- lists of n places each; those of the one direction are a graph, and those of the other its opposite
pub record Turned (n : ℕ) (head link to entry chain from : List ℕ) : Type 0 where
  pub few : n ≤ places
  pub head_size : length head ≡ n
  pub entry_size : length entry ≡ n
  pub forth : Linked head link to
  pub back : Linked entry chain from
  pub graph : Graph n (step head link to)
  pub opposite : Opposite n (step head link to) (step entry chain from)

-- the lists of one direction
pub record Edges : Type 0 where
  pub head : List ℕ
  pub link : List ℕ
  pub to : List ℕ

-- one direction's numbers: the heads, the links, then the targets; the code's ENTRIES
abbrev pub entries : ℕ
entries = places + (edges + edges)

-- the lists that stand in the numbers ws
abbrev pub edges_at : List ℕ → Edges
edges_at ws = record { head = take places ws; link = take edges (drop places ws); to = take edges (drop (places + edges) ws) }

-- the heads of the first n places
abbrev pub head_of : ℕ → Edges → List ℕ
head_of n e = take n e.head

-- the steps of the first n places
abbrev pub step_of : ℕ → Edges → ℕ → ℕ → Bool
step_of n e = step (head_of n e) e.link e.to

-- the two directions of a graph of n places
abbrev pub Directions : ℕ → Edges → Edges → Type 0
Directions n steps opposite = Turned n (head_of n steps) steps.link steps.to (head_of n opposite) opposite.link opposite.to

-- the same in lent numbers
pub record DirectionsAt (n : ℕ) (steps opposite : List ℕ) : Type 0 where
  pub steps_size : length steps ≡ entries
  pub opposite_size : length opposite ≡ entries
  pub directions : Directions n (edges_at steps) (edges_at opposite)

-- `count` edges of the first n places
abbrev pub ListsAt : ℕ → List ℕ → ℕ → Type 0
ListsAt n ws count = Lists (head_of n (edges_at ws)) (edges_at ws).link (edges_at ws).to count

-- there is room for one more edge, from s to t
pub record Room (ws : List ℕ) (count s t : ℕ) : Type 0 where
  pub size : length ws ≡ entries
  pub more : count < edges
  pub source : s < places
  pub target : t < places

-- `new` has the edges of `old`, and one more from s to t
pub record Added (n : ℕ) (old new : List ℕ) (count s t r : ℕ) : Type 0 where
  pub more : r ≡ count + 1
  pub lists : ListsAt n new r
  pub steps : (a b : ℕ) → step_of n (edges_at new) a b ≡ (step_of n (edges_at old) a b || (eqb s a && eqb t b))
