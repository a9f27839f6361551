-- Columns of prices, filled and summed entry by entry. Assumes nothing.
use mathlib.Core.Path.{◌≡◌, refl, sym, ap, ◌∙◌}
use mathlib.Core.List.{List, [], ◌∷◌, ◌++◌, map}
use Prim.Native.Nat.{ℕ, zero, suc, ◌+◌, ◌≤◌, ◌<◌}
use native.Mathlib.Numerals.{add-one}
use native.Mathlib.Omega.{arith}
use lib.ListN.{length, take, drop, get_or, set, replicate, length-replicate, length-map, get_or-map}
use lib.Seq.{sets, sets-eq, length-sets, take-suc, take-append_seam, take_all, get_or-take}
use Rattle.statement_writer.proofs.Puts.{sets_more}
use Rattle.language.specs.declared.Statement.{Statement}
use Rattle.language.specs.declared.Statement.TheVariants.{Skip}
use Rattle.program.specs.Program.{most, at}
use Rattle.program.proofs.Held.{get_d-within}
use Rattle.pricing.specs.Prices.{ours, price, prices, sum, total, column, most_price, Fair}

sum-append : (ns : List ℕ) (n : ℕ) → sum (ns ++ n ∷ []) ≡ sum ns + n
sum-append [] n = omega arith
sum-append (m ∷ ns) n = omega (arith, sum-append ns n)

-- one entry more of a sum
pub sum_more : (ns : List ℕ) (i : ℕ) → i < length ns → sum (take (i + 1) ns) ≡ sum (take i ns) + get_or ns i 0
sum_more ns i h = rw (add-one, take-suc ns i 0 h) (sum-append (take i ns) (get_or ns i 0))

pub column-length : (ps : List ℕ) (P : List Statement) → length (column ps P) ≡ most
unfolding column
column-length ps P = length-sets (replicate most 0) 0 (prices ps P) ∙ length-replicate {A = ℕ} most 0

pub prices-length : (ps : List ℕ) (P : List Statement) → length (prices ps P) ≡ length P
prices-length ps P = length-map P (price ps)

-- the price of the statement at a place
pub price-at : (ps : List ℕ) (P : List Statement) (s : ℕ) → s < length P → get_or (prices ps P) s 0 ≡ price ps (at P s)
price-at ps P s h =
    get_d-within (prices ps P) s 0 (price ps Skip) (rw (prices-length ps P) h) ∙ get_or-map (price ps) P s Skip

module _ (ps : List ℕ) (P : List Statement) (few : length P ≤ most) where
  -- a column begins with the prices
  pub column-front : take (length P) (column ps P) ≡ prices ps P
  unfolding column
  column-front =
      let l = prices-length ps P in
      let z : 0 + length (prices ps P) ≤ length (replicate {A = ℕ} most 0) = omega (arith, length-replicate {A = ℕ} most 0, l) in
      rw (sets-eq (prices ps P) (replicate most 0) 0 z, ← l) (take-append_seam (prices ps P) (drop (0 + length (prices ps P)) (replicate most 0)))

  pub column-at : (s : ℕ) → s < length P → get_or (column ps P) s 0 ≡ price ps (at P s)
  column-at s h = sym (get_or-take (length P) (column ps P) s 0 h) ∙ ap (λ (l : List ℕ). get_or l s 0) column-front ∙ price-at ps P s h

  -- the total is the sum of the column
  pub column-total : sum (take (length P) (column ps P)) ≡ total ps P
  column-total = ap sum column-front

-- a column with the first s prices
unfoldable pub begun : List ℕ → List Statement → ℕ → List ℕ
begun ps P s = sets (replicate most 0) 0 (take s (prices ps P))

pub begun-none : (ps : List ℕ) (P : List Statement) → begun ps P 0 ≡ replicate most 0
unfolding begun
begun-none ps P = refl

pub begun-length : (ps : List ℕ) (P : List Statement) (s : ℕ) → length (begun ps P s) ≡ most
unfolding begun
begun-length ps P s = length-sets (replicate most 0) 0 (take s (prices ps P)) ∙ length-replicate {A = ℕ} most 0

pub begun_more : (ps : List ℕ) (P : List Statement) (s : ℕ) → s < length P → set (begun ps P s) s (price ps (at P s)) ≡ begun ps P (s + 1)
unfolding begun
begun_more ps P s h =
    let z : 0 + s ≡ s = omega arith in
    let f = sets_more (prices ps P) (replicate most 0) 0 s (rw (prices-length ps P) h) in
    rw (z, price-at ps P s h) at f

pub begun_all : (ps : List ℕ) (P : List Statement) (s : ℕ) → length P ≤ s → begun ps P s ≡ column ps P
unfolding begun column
begun_all ps P s h = rw (take_all s (prices ps P) (rw (prices-length ps P) h))
