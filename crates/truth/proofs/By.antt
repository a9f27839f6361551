-- A condition asks only about its own uses: where those say the same, whatever counts as used elsewhere, so does the condition. Assumes
-- nothing.
use mathlib.Core.Path.{◌≡◌}
use mathlib.Core.Bool.{true}
use mathlib.Core.List.{List}
use mathlib.Core.Logic.{◌↔◌, inl, inr, ⊎_elim}
use Prim.Native.Nat.{ℕ, zero, suc, ◌<◌}
use lib.ListN.{length}
use Rattle.language.specs.Spelling.{ValidVariable}
use Rattle.language.specs.declared.Statement.{Statement}
use Rattle.ctl.specs.Paths.{Path, Direction}
use Rattle.ctl.proofs.Paths.{paths-iff, until-map, weak-map}
use Rattle.flow.specs.Flow.{steps}
use Rattle.condition.specs.Condition.{PathUnary, next, finally, globally, PathBinary, until, weak, Unary, negation, conjunction, disjunction, Condition, atom, unary, binary, ValidAtom, ValidCondition}
use Rattle.condition.specs.Condition as condition
use Rattle.condition.specs.declared.Atom.{Atom}
use Rattle.condition.specs.declared.Atom.TheVariants.{True, False, Entry, Exit, Node, Stmt, Def, Use, Trans}
use Rattle.truth.specs.Truth.{HoldsBy, SaidOne, SaidTwo, SatUnary, SatBinary, SatBy}

-- each `use(X)` is of a variable of which R is true
abbrev pub EachUseOf : (ℕ → Type 0) → Atom → Type 0
EachUseOf R True = Unit
EachUseOf R False = Unit
EachUseOf R Entry = Unit
EachUseOf R Exit = Unit
EachUseOf R (Node n) = Unit
EachUseOf R (Stmt i) = Unit
EachUseOf R (Def x) = Unit
EachUseOf R (Use x) = R x
EachUseOf R (Trans e) = Unit

abbrev pub EachUse : (ℕ → Type 0) → Condition → Type 0
EachUse R (atom a) = EachUseOf R a
EachUse R (unary o p) = EachUse R p
EachUse R (binary o p q) = EachUse R p × EachUse R q

-- the condition has no `use`
abbrev pub NoUse : Condition → Type 0
NoUse c = EachUse (λ x. ⊥) c

-- what G says of an atom, and so of a `use`, tells R of its variable
each_of : {R : ℕ → Type 0} (G : Atom → Type 0) → ((x : ℕ) → G (Use x) → R x) → (a : Atom) → G a → EachUseOf R a
each_of G f True h = tt
each_of G f False h = tt
each_of G f Entry h = tt
each_of G f Exit h = tt
each_of G f (Node n) h = tt
each_of G f (Stmt i) h = tt
each_of G f (Def x) h = tt
each_of G f (Use x) h = f x h
each_of G f (Trans e) h = tt

pub each_map : {R S : ℕ → Type 0} → ((x : ℕ) → R x → S x) → (c : Condition) → EachUse R c → EachUse S c
each_map {R = R} f (atom a) h = each_of (EachUseOf R) f a h
each_map f (unary o p) h = each_map f p h
each_map f (binary o p q) h = (each_map f p h.0, each_map f q h.1)

-- of every condition, and of a valid one
each_all : {R : ℕ → Type 0} → ((x : ℕ) → R x) → (c : Condition) → EachUse R c
each_all f (atom a) = each_of (λ b. Unit) (λ x h. f x) a tt
each_all f (unary o p) = each_all f p
each_all f (binary o p q) = (each_all f p, each_all f q)

pub valid-each : (c : Condition) → ValidCondition c → EachUse ValidVariable c
valid-each (atom a) v = each_of ValidAtom (λ x h. h) a v
valid-each (unary o p) v = valid-each p v
valid-each (binary o p q) v = (valid-each p v.0, valid-each q v.1)

-- ---- one path, whose places may be spoken of in other words

said-one : (o : PathUnary) (X Y : ℕ → Type 0) (π : ℕ → ℕ) → ((i : ℕ) → X (π i) ↔ Y (π i)) → SaidOne o X π ↔ SaidOne o Y π
said-one next X Y π f = f 1
said-one finally X Y π f = (λ u. (u.0, (f u.0).0 u.1), λ u. (u.0, (f u.0).1 u.1))
said-one globally X Y π f = (λ u i. (f i).0 (u i), λ u i. (f i).1 (u i))

said-two : (o : PathBinary) (X Y X' Y' : ℕ → Type 0) (π : ℕ → ℕ) → ((i : ℕ) → X (π i) ↔ X' (π i)) → ((i : ℕ) → Y (π i) ↔ Y' (π i)) → SaidTwo o X Y π ↔ SaidTwo o X' Y' π
said-two until X Y X' Y' π f g = (until-map X Y X' Y' π (λ i. (f i).0) (λ i. (g i).0), until-map X' Y' X Y π (λ i. (f i).1) (λ i. (g i).1))
said-two weak X Y X' Y' π f g = (weak-map X Y X' Y' π (λ i. (f i).0) (λ i. (g i).0), weak-map X' Y' X Y π (λ i. (f i).1) (λ i. (g i).1))

-- ---- the places of which I is true, which no step leaves

module _ (P : List Statement) (I : ℕ → Type 0) (inside : (d : Direction) (s t : ℕ) → I s → steps P d s t ≡ true → I t) where
  within : (d : Direction) (s : ℕ) → I s → (π : ℕ → ℕ) → Path (steps P d) s π → (i : ℕ) → I (π i)
  within d s l π w zero = rw w.0 l
  within d s l π w (suc i) = inside d (π i) (π (suc i)) (within d s l π w i) (w.1 i)

  -- an operator, of what says the same at these places
  pub unary-same : (o : Unary) (X Y : ℕ → Type 0) → ((t : ℕ) → I t → X t ↔ Y t) → (s : ℕ) → I s → SatUnary P o X s ↔ SatUnary P o Y s
  unary-same negation X Y f s l = (λ n h. n ((f s l).1 h), λ n h. n ((f s l).0 h))
  unary-same (Unary.path k d o) X Y f s l = paths-iff (steps P d) k _ _ s (λ π w. said-one o X Y π (λ i. f (π i) (within d s l π w i)))

  pub binary-same : (o : condition.Binary) (X Y X' Y' : ℕ → Type 0) → ((t : ℕ) → I t → X t ↔ X' t) → ((t : ℕ) → I t → Y t ↔ Y' t) → (s : ℕ) → I s → SatBinary P o X Y s ↔ SatBinary P o X' Y' s
  binary-same conjunction X Y X' Y' f g s l = (λ h. ((f s l).0 h.0, (g s l).0 h.1), λ h. ((f s l).1 h.0, (g s l).1 h.1))
  binary-same disjunction X Y X' Y' f g s l = (⊎_elim (λ h. inl ((f s l).0 h)) (λ h. inr ((g s l).0 h)), ⊎_elim (λ h. inl ((f s l).1 h)) (λ h. inr ((g s l).1 h)))
  binary-same (condition.Binary.path k d o) X Y X' Y' f g s l =
      paths-iff (steps P d) k _ _ s (λ π w. said-two o X Y X' Y' π (λ i. f (π i) (within d s l π w i)) (λ i. g (π i) (within d s l π w i)))

  module _ (U W : ℕ → ℕ → Type 0) where
    atom-same : (a : Atom) → EachUseOf (λ x. (s : ℕ) → I s → U x s ↔ W x s) a → (s : ℕ) → I s → HoldsBy U P a s ↔ HoldsBy W P a s
    atom-same True u s l = (λ h. h, λ h. h)
    atom-same False u s l = (λ h. h, λ h. h)
    atom-same Entry u s l = (λ h. h, λ h. h)
    atom-same Exit u s l = (λ h. h, λ h. h)
    atom-same (Node n) u s l = (λ h. h, λ h. h)
    atom-same (Stmt i) u s l = (λ h. h, λ h. h)
    atom-same (Def x) u s l = (λ h. h, λ h. h)
    atom-same (Use x) u s l = u s l
    atom-same (Trans e) u s l = (λ h. h, λ h. h)

    -- a condition, where each of its uses says the same at these places
    pub sat-same : (c : Condition) → EachUse (λ x. (s : ℕ) → I s → U x s ↔ W x s) c → (s : ℕ) → I s → SatBy U P c s ↔ SatBy W P c s
    unfolding SatBy
    sat-same (atom a) u = atom-same a u
    sat-same (unary o p) u = unary-same o (SatBy U P p) (SatBy W P p) (sat-same p u)
    sat-same (binary o p q) u = binary-same o (SatBy U P p) (SatBy U P q) (SatBy W P p) (SatBy W P q) (sat-same p u.0) (sat-same q u.1)

-- ---- at every place

module _ (U W : ℕ → ℕ → Type 0) (P : List Statement) (c : Condition) where
  -- relations that say the same
  pub uses-same : ((x s : ℕ) → U x s ↔ W x s) → (s : ℕ) → SatBy U P c s ↔ SatBy W P c s
  uses-same f s = sat-same P (λ t. Unit) (λ d r t l e. tt) U W c (each_all (λ x r l. f x r) c) s tt

  -- any relations, where the condition has no `use`
  pub use-free : NoUse c → (s : ℕ) → SatBy U P c s ↔ SatBy W P c s
  use-free n s = sat-same P (λ t. Unit) (λ d r t l e. tt) U W c (each_map (λ x none. absurd none) c n) s tt
