-- What `label` promises: the places at which a path operator holds, by the path definitions of `ctl`.
use Rattle.std.specs.Prelude.{◌≡◌, List, Bool, true, false, ◌↔◌, ℕ, ◌*◌, ◌≤◌, ◌<◌, ltb, length}
use Rattle.bits.specs.Row.{words, member}
use Rattle.ctl.specs.Paths.{Next, Finally, Globally, Until, Weak}
use Rattle.labelling.specs.declared.Operator.{Operator}
use Rattle.labelling.specs.declared.Operator.TheVariants as op

-- what an operator says of one path, "X", "F", "G", "U" and "W" of document 01's "Conditions"; q counts for the last two alone
abbrev pub Said : Operator → (ℕ → Type 0) → (ℕ → Type 0) → (ℕ → ℕ) → Type 0
Said op.Next P Q = Next P
Said op.Finally P Q = Finally P
Said op.Globally P Q = Globally P
Said op.Until P Q = Until P Q
Said op.Weak P Q = Weak P Q

-- the set y has exactly the places below n of which X is true; "bits beyond N are 0"
pub record Labelled (n : ℕ) (y : ℕ → Bool) (X : ℕ → Type 0) : Type 0 where
  pub exact : (s : ℕ) → s < n → (y s ≡ true) ↔ X s
  pub beyond : (s : ℕ) → n ≤ s → y s ≡ false

-- the rows of the operands and of the answer are equally long and have room for n places
pub record Rows (n : ℕ) (p q out : List ℕ) : Type 0 where
  pub room : n ≤ length out * 64
  pub short : length out ≤ words
  pub of_p : length p ≡ length out
  pub of_q : length q ≡ length out

-- a proof device: a row of all places below n, and one to use, as long as the answer's
pub record Spare (n : ℕ) (places through out : List ℕ) : Type 0 where
  pub of_places : length places ≡ length out
  pub of_through : length through ≡ length out
  pub whole : (s : ℕ) → member places s ≡ ltb s n
