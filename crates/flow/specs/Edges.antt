-- Proof devices: what the functions that list the edges of a program establish. No sentence of document 01 stands here;
-- proofs/Graphs.antt holds these to the model.
use Rattle.std.specs.Prelude.{◌≡◌, List, Bool, true, false, not, ◌&&◌, ◌||◌, ℕ, ◌-◌, ◌≤◌, ◌<◌, length, get_or, eqb, ltb}
use Rattle.language.specs.declared.Statement.{Statement}
use Rattle.graph.specs.Lists.{Linked}
use Rattle.graph.specs.Graphs.{places, Edges, entries, edges_at, head_of, step_of, ListsAt}
use Rattle.flow.specs.FlowOf.{flow_at}
use Rattle.flow.specs.Flow.{leads, is_write, steps_forward, some}

-- a and b are where the statement x at place s steps forward to, the same place twice where there is one
abbrev pub Follow : Statement → ℕ → ℕ → ℕ → Type 0
Follow x s a b = (t : ℕ) → (eqb a t || eqb b t) ≡ (leads x s t || (is_write x && eqb s t))

-- place s steps to first[s] and second[s]
abbrev pub goes : List ℕ → List ℕ → ℕ → ℕ → Bool
goes first second s t = eqb (get_or first s 0) t || eqb (get_or second s 0) t

-- `first` and `second` hold the successors of each statement of P
pub record Successors (P : List Statement) (first second : List ℕ) : Type 0 where
  pub first_room : length P ≤ length first
  pub second_room : length P ≤ length second
  pub exact : (s t : ℕ) → s < length P → goes first second s t ≡ steps_forward P s t

-- the first k places have successors below n
pub record Inside (first second : List ℕ) (k n : ℕ) : Type 0 where
  pub low : k ≤ n
  pub first_room : k ≤ length first
  pub second_room : k ≤ length second
  pub firsts : (s : ℕ) → s < k → get_or first s 0 < n
  pub seconds : (s : ℕ) → s < k → get_or second s 0 < n

-- the numbers have room for the edges of n places
pub record Space (n : ℕ) (ws : List ℕ) : Type 0 where
  pub few : n ≤ places
  pub size : length ws ≡ entries

-- at most `most` edges of n places, with the steps f
pub record Holds (n : ℕ) (ws : List ℕ) (count most : ℕ) (f : ℕ → ℕ → Bool) : Type 0 where
  pub lists : ListsAt n ws count
  pub few : count ≤ most
  pub steps : (s t : ℕ) → step_of n (edges_at ws) s t ≡ f s t

-- the steps f, or those turned around
abbrev pub turn : Bool → (ℕ → ℕ → Bool) → ℕ → ℕ → Bool
turn true f s t = f t s
turn false f s t = f s t

-- the edge from s to t
abbrev pub edge : ℕ → ℕ → ℕ → ℕ → Bool
edge s t a b = eqb s a && eqb t b

-- the steps f and one edge, turned around where `turned` says so
abbrev pub with_edge : (ℕ → ℕ → Bool) → Bool → ℕ → ℕ → ℕ → ℕ → Bool
with_edge f turned s t a b = f a b || turn turned (edge s t) a b

-- the steps of the first k places
abbrev pub steps_below : List ℕ → List ℕ → ℕ → ℕ → ℕ → Bool
steps_below first second k s t = ltb s k && goes first second s t

-- the steps f, and a step to itself from each of the first k places from which f leads to none of n places
abbrev pub with_self : ℕ → (ℕ → ℕ → Bool) → ℕ → ℕ → ℕ → Bool
with_self n f k s t = f s t || (ltb s k && (eqb s t && not (some n (f s))))

-- the steps backward of n places: those forward of the places before the last, turned around, and from a place without any to itself
abbrev pub steps_back : List ℕ → List ℕ → ℕ → ℕ → ℕ → Bool
steps_back first second n = with_self n (turn true (steps_below first second (n - 1))) n

-- the edges of n places, with the steps f
pub record Drawn (n : ℕ) (e : Edges) (f : ℕ → ℕ → Bool) : Type 0 where
  pub size : length (head_of n e) ≡ n
  pub linked : Linked (head_of n e) e.link e.to
  pub steps : (s t : ℕ) → step_of n e s t ≡ f s t

-- both directions of n places
pub record BothDrawn (n : ℕ) (first second ws : List ℕ) : Type 0 where
  pub ahead : Drawn n (flow_at ws).forward (steps_below first second n)
  pub behind : Drawn n (flow_at ws).backward (steps_back first second n)
