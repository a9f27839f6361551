-- The prices in force are fair, ours are those of our own table, and a table of valid prices counts as it is. Assumes nothing.
use mathlib.Core.Path.{◌≡◌, refl, ap}
use mathlib.Core.Bool.{Bool, true, false, ◌&&◌}
use mathlib.Core.List.{List, [], ◌∷◌}
use Prim.Native.Nat.{ℕ, zero, suc, ◌+◌, ◌≤◌, ◌<◌}
use native.Mathlib.Numerals.{add-one}
use native.Mathlib.Omega.{arith}
use lib.Dec.{leb}
use lib.ListN.{length, take, get_or, set}
use borrow.Author.Tests.{leb-true, le-leb, lt-leb}
use Rattle.base.proofs.Bools.{and_right}
use Rattle.lines.specs.Lines.{AllValid}
use Rattle.pricing.specs.Prices.{kinds, ours, most_price, AtMost, Fair, ValidPrice, counted, counted_each, in_force}
use Rattle.pricing.proofs.Fair.{ours-fair}

pub counted-valid : (n o : ℕ) → ValidPrice n → n ≡ counted n o
counted-valid n o v = rw (le-leb 1 n v.0, le-leb n most_price v.1) refl

pub counted-low : (n o : ℕ) → n < 1 → o ≡ counted n o
counted-low n o h = rw (lt-leb 1 n h) refl

pub counted-high : (n o : ℕ) → most_price < n → o ≡ counted n o
counted-high n o h = rw (le-leb 1 n (omega arith), lt-leb n most_price h) refl

counted-most : (n o : ℕ) → o ≤ most_price → counted n o ≤ most_price
counted-most n o h = go (leb 1 n && leb n most_price) refl
  where
    go : (b : Bool) → (leb 1 n && leb n most_price) ≡ b → counted n o ≤ most_price
    go true e = rw e (leb-true n most_price (and_right (leb 1 n) (leb n most_price) e))
    go false e = rw e h

each-most : (ns os : List ℕ) → AtMost most_price os → AtMost most_price (counted_each ns os)
unfolding counted_each
each-most [] os f k = f k
each-most (n ∷ ns) [] f k = f k
each-most (n ∷ ns) (o ∷ os) f zero = counted-most n o (f zero)
each-most (n ∷ ns) (o ∷ os) f (suc k) = each-most ns os (λ j. f (suc j)) k

-- no price in force is above the largest
pub in-force-fair : (ps : List ℕ) → Fair (in_force ps)
unfolding in_force
in-force-fair ps = each-most ps ours ours-fair

-- under our table all is by our prices
pub our-prices : in_force ours ≡ ours
unfolding in_force counted_each
our-prices = refl

each-valid : (ns os : List ℕ) → AllValid ValidPrice ns → length ns ≡ length os → counted_each ns os ≡ ns
unfolding counted_each
each-valid [] [] v l = refl
each-valid [] (o ∷ os) v l = absurd (omega arith)
each-valid (n ∷ ns) [] v l = absurd (omega arith)
each-valid (n ∷ ns) (o ∷ os) v l = rw (← counted-valid n o v.0, each-valid ns os v.1 (omega arith)) refl

-- a table of eleven valid prices is in force as it is
pub valid-prices : (ps : List ℕ) → AllValid ValidPrice ps → length ps ≡ kinds → in_force ps ≡ ps
unfolding in_force
valid-prices ps v l = each-valid ps ours v l

-- with the first k prices counted, one price more
each_more : (ns os : List ℕ) (k : ℕ) → k < length ns → set (counted_each (take k ns) os) k (counted (get_or ns k 0) (get_or (counted_each (take k ns) os) k 0)) ≡ counted_each (take (suc k) ns) os
unfolding counted_each
each_more [] os k h = absurd (omega arith)
each_more (n ∷ ns) [] zero h = refl
each_more (n ∷ ns) [] (suc k) h = refl
each_more (n ∷ ns) (o ∷ os) zero h = refl
each_more (n ∷ ns) (o ∷ os) (suc k) h = ap (λ (l : List ℕ). counted n o ∷ l) (each_more ns os k (omega arith))

pub begun-force : in_force [] ≡ ours
unfolding in_force counted_each
begun-force = refl

pub more-force : (ps : List ℕ) (k : ℕ) → k < length ps → set (in_force (take k ps)) k (counted (get_or ps k 0) (get_or (in_force (take k ps)) k 0)) ≡ in_force (take (k + 1) ps)
unfolding in_force
more-force ps k h = rw add-one (each_more ps ours k h)

each-length : (ns os : List ℕ) → length (counted_each ns os) ≡ length os
unfolding counted_each
each-length [] os = refl
each-length (n ∷ ns) [] = refl
each-length (n ∷ ns) (o ∷ os) = ap suc (each-length ns os)

pub force-length : (ps : List ℕ) → length (in_force ps) ≡ kinds
unfolding in_force
force-length ps = each-length ps ours
