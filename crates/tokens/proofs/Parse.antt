-- What a composed reader found, each part found.
use mathlib.Core.Path.{◌≡◌, refl}
use mathlib.Core.List.{List, [], ◌∷◌, ◌++◌}
use mathlib.Core.Bool.{Bool, true, false}
use Prim.Native.Nat.{ℕ}
use native.Mathlib.Omega.{arith}
use lib.Dec.{eqb}
use borrow.Author.Tests.{eqb-true}
use Rattle.tokens.specs.Parsing.{Parsed, found, misspelled, after, after_or, where?, either, parse_word}
use Rattle.base.specs.Pick.{pick}

-- in each, the last argument goes on with what was found
module _ {A B C : Type 0} where
  pub after-inv : (o : Parsed A) (f : A → List ℕ → Parsed B) {b : B} {u : List ℕ} → after o f ≡ found b u
      → ((a : A) (t : List ℕ) → o ≡ found a t → f a t ≡ found b u → C) → C
  after-inv (found a t) f e k = k a t refl e
  after-inv misspelled f e k = let z : ◌≡◌ {A = ℕ} 0 1 = cc in absurd (omega arith)

  pub after_or-inv : (o : Parsed A) (f : A → List ℕ → Parsed B) (p : Parsed B) {b : B} {u : List ℕ} → after_or o f p ≡ found b u
      → ((a : A) (t : List ℕ) → o ≡ found a t → f a t ≡ found b u → C) → (p ≡ found b u → C) → C
  after_or-inv (found a t) f p e k m = k a t refl e
  after_or-inv misspelled f p e k m = m e

module _ {A C : Type 0} where
  pub where-inv : (t : Bool) (p : Parsed A) {a : A} {u : List ℕ} → where? t p ≡ found a u → (t ≡ true → p ≡ found a u → C) → C
  where-inv true p e k = k refl e
  where-inv false p e k = let z : ◌≡◌ {A = ℕ} 0 1 = cc in absurd (omega arith)

  pub either-inv : (p q : Parsed A) {a : A} {u : List ℕ} → either p q ≡ found a u → (p ≡ found a u → C) → (q ≡ found a u → C) → C
  either-inv (found a t) q e k m = k e
  either-inv misspelled q e k m = m e

  pub pick_inv : (t : Bool) (p q : Parsed A) {a : A} {u : List ℕ} → pick t p q ≡ found a u → (p ≡ found a u → C) → (q ≡ found a u → C) → C
  pick_inv true p q e k m = k e
  pick_inv false p q e k m = m e

-- what is skipped stood there
pub skip-sound : (w l : List ℕ) {x : Unit} {t : List ℕ} → parse_word w l ≡ found x t → l ≡ w ++ t
unfolding parse_word
skip-sound [] l e = cc
skip-sound (c ∷ w) [] e = let z : ◌≡◌ {A = ℕ} 0 1 = cc in absurd (omega arith)
skip-sound (c ∷ w) (d ∷ l) e =
    where-inv (eqb d c) (parse_word w l) e λ p f. rw (eqb-true d c p, ← skip-sound w l f)
