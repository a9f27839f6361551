-- A proof device: a graph as lists of edges. `head` has an entry for each place, `link` and `to` one for each edge. A position is 0 at
-- the end of a list, and e + 1 at edge e. `head` holds the position of a place's first edge, `link` that of the next edge of the same place, `to`
-- the place that the edge leads to.
use Rattle.std.specs.Prelude.{◌≡◌, List, Bool, false, ◌||◌, ℕ, zero, suc, ◌≤◌, ◌<◌, length, get_or, eqb}

-- t is the target of one of the first `fuel` edges from the position k on
unfoldable pub leads : ℕ → List ℕ → List ℕ → ℕ → ℕ → Bool
leads zero link to k t = false
leads (suc fuel) link to zero t = false
leads (suc fuel) link to (suc e) t = eqb (get_or to e 0) t || leads fuel link to (get_or link e 0) t

-- the same of all edges from k on: each link leads to a smaller position, so there are at most k
unfoldable pub listed : List ℕ → List ℕ → ℕ → ℕ → Bool
unfolding leads
listed link to k t = leads k link to k t

-- some edge of s has the target t
abbrev pub step : List ℕ → List ℕ → List ℕ → ℕ → ℕ → Bool
step head link to s t = listed link to (get_or head s 0) t

-- the first `count` entries are edges to places below n, and each link leads to a smaller position
pub record Chained (link to : List ℕ) (n count : ℕ) : Type 0 where
  pub links : (e : ℕ) → e < count → get_or link e 0 ≤ e
  pub targets : (e : ℕ) → e < count → get_or to e 0 < n
  pub link_room : count ≤ length link
  pub to_room : count ≤ length to

-- lists of `count` edges, one list for each entry of `head`
pub record Lists (head link to : List ℕ) (count : ℕ) : Type 0 where
  pub heads : (s : ℕ) → get_or head s 0 ≤ count
  pub edges : Chained link to (length head) count

-- lists of some number of edges
pub record Linked (head link to : List ℕ) : Type 0 where
  pub count : ℕ
  pub lists : Lists head link to count

-- the list from the position k on, of edges to places below n
pub record From (link to : List ℕ) (n k : ℕ) : Type 0 where
  pub count : ℕ
  pub low : k ≤ count
  pub edges : Chained link to n count

-- no place has an edge
pub record Blank (head : List ℕ) : Type 0 where
  pub blank : (s : ℕ) → get_or head s 0 ≡ 0
