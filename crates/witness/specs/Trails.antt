-- Proof devices: what the functions behind `witness` are asked and establish. No sentence of the documents stands here.
use Rattle.std.specs.Prelude.{◌≡◌, List, [], ◌∷◌, Bool, true, false, ◌↔◌, ℕ, ◌*◌, ◌≤◌, ◌<◌, ltb, length}
use Rattle.bits.specs.Row.{member}
use Rattle.ctl.specs.Paths.{E, Paths, Until, So}
use Rattle.labelling.specs.Labels.{Said}
use Rattle.labelling.specs.declared.Operator.{Operator}
use Rattle.labelling.specs.declared.Operator.TheVariants as op
use Rattle.lassos.specs.Dual.{dual_first, dual_second, Same}
use Rattle.walks.specs.Told.{Told}
use Rattle.walks.specs.declared.Trail.{Trail}
use Rattle.witness.specs.Witness.{Witness}

-- s is not to be avoided, and from a place that isn't, x U y is true of some path, or x holds and a step leads to such a place again
pub record Ready (n : ℕ) (step : ℕ → ℕ → Bool) (x y avoid : ℕ → Bool) (s : ℕ) : Type 0 where
  pub low : s < n
  pub start : avoid s ≡ false
  pub on : (t : ℕ) → t < n → avoid t ≡ false → (Paths E step t (Until (So x) (So y)) → ⊥)
      → (x t ≡ true) × ((u : ℕ) × (step t u ≡ true) × (avoid u ≡ false))

-- a way of x U y where there is one, else a lasso of places of x
pub record Trailed (n : ℕ) (step : ℕ → ℕ → Bool) (x y : ℕ → Bool) (s : ℕ) (old new : List ℕ) (r : Trail) : Type 0 where
  pub witness : Witness E op.Weak n step (So x) (So y) s old new r.length r.turn
  pub endless : (r.turn ≡ 0 → ⊥) → Paths E step s (Until (So x) (So y)) → ⊥

-- a way of one step to a place that is not to be avoided
pub record Stepped (step : ℕ → ℕ → Bool) (avoid : ℕ → Bool) (s : ℕ) (old new : List ℕ) (r : Trail) : Type 0 where
  pub u : ℕ
  pub goes : step s u ≡ true
  pub free : avoid u ≡ false
  pub told : Told 0 (s ∷ u ∷ []) old new
  pub counted : r.length ≡ 2
  pub straight : r.turn ≡ 0

-- exactly the places at which the operator is true of some path are not to be avoided, and s is one of them
pub record Possible (o : Operator) (n : ℕ) (step : ℕ → ℕ → Bool) (x y avoid : ℕ → Bool) (s : ℕ) : Type 0 where
  pub low : s < n
  pub start : avoid s ≡ false
  pub exact : (t : ℕ) → t < n → (avoid t ≡ false) ↔ Paths E step t (Said o (So x) (So y))

-- rows of equal length with room for n places, `places` those places
pub record Room (n : ℕ) (places avoid spare : List ℕ) : Type 0 where
  pub room : n ≤ length places * 64
  pub of_avoid : length avoid ≡ length places
  pub of_spare : length spare ≡ length places
  pub whole : (s : ℕ) → member places s ≡ ltb s n

-- the words of a path have room for n places, and for two
pub record Words (n : ℕ) (path : List ℕ) : Type 0 where
  pub each : n ≤ length path
  pub two : 2 ≤ length path

-- two rows to use, as long as the row of all places
pub record Apart (places first second : List ℕ) : Type 0 where
  pub of_first : length first ≡ length places
  pub of_second : length second ≡ length places

-- x and y are the operands of the dual, at all numbers of places that `places` may have
abbrev pub Turned : Operator → List ℕ → List ℕ → List ℕ → List ℕ → List ℕ → Type 0
Turned o places p q x y =
    (n : ℕ) → ((s : ℕ) → member places s ≡ ltb s n)
    → Same n (So (member x)) (dual_first o (So (member p)) (So (member q))) × Same n (So (member y)) (dual_second o (So (member p)) (So (member q)))

-- rows as long as the operator's, with room for n places
pub record Lent (n : ℕ) (p q row places first second spare : List ℕ) : Type 0 where
  pub room : n ≤ length row * 64
  pub of_p : length p ≡ length row
  pub of_q : length q ≡ length row
  pub of_places : length places ≡ length row
  pub of_first : length first ≡ length row
  pub of_second : length second ≡ length row
  pub of_spare : length spare ≡ length row
