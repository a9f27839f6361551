-- Tables and columns whose prices are at most a number. Assumes nothing.
use mathlib.Core.List.{List, [], ◌∷◌}
use Prim.Native.Nat.{ℕ, zero, suc, ◌≤◌}
use native.Mathlib.Omega.{arith}
use lib.ListN.{set, replicate}
use lib.Seq.{sets}
use Rattle.language.specs.declared.Statement.{Statement}
use Rattle.program.specs.Program.{most}
use Rattle.pricing.specs.Prices.{ours, prices, sum, kind_of, column, AtMost, Fair}

module _ (m : ℕ) where
  -- an entry is at most the sum
  sum-most : (ns : List ℕ) → sum ns ≤ m → AtMost m ns
  sum-most [] h k = omega arith
  sum-most (n ∷ ns) h zero = omega arith
  sum-most (n ∷ ns) h (suc k) = sum-most ns (omega arith) k

  set-most : (ns : List ℕ) (i n : ℕ) → n ≤ m → AtMost m ns → AtMost m (set ns i n)
  set-most [] i n h f k = f k
  set-most (x ∷ ns) zero n h f zero = h
  set-most (x ∷ ns) zero n h f (suc k) = f (suc k)
  set-most (x ∷ ns) (suc i) n h f zero = f zero
  set-most (x ∷ ns) (suc i) n h f (suc k) = set-most ns i n h (λ j. f (suc j)) k

  sets-most : (ns ms : List ℕ) (i : ℕ) → AtMost m ns → AtMost m ms → AtMost m (sets ms i ns)
  sets-most [] ms i f g = g
  sets-most (n ∷ ns) ms i f g = sets-most ns (set ms i n) (suc i) (λ j. f (suc j)) (set-most ms i n (f zero) g)

  zeros-most : (n : ℕ) → AtMost m (replicate n 0)
  zeros-most zero k = omega arith
  zeros-most (suc n) zero = omega arith
  zeros-most (suc n) (suc k) = zeros-most n k

  prices-most : (ps : List ℕ) (P : List Statement) → AtMost m ps → AtMost m (prices ps P)
  prices-most ps [] f k = omega arith
  prices-most ps (i ∷ P) f zero = f (kind_of i)
  prices-most ps (i ∷ P) f (suc k) = prices-most ps P f k

  -- a column has no price above those of the table
  pub column-most : (ps : List ℕ) (P : List Statement) → AtMost m ps → AtMost m (column ps P)
  unfolding column
  column-most ps P f = sets-most (prices ps P) (replicate most 0) 0 (prices-most ps P f) (zeros-most most)

-- no price of ours is above the largest
pub ours-fair : Fair ours
ours-fair = sum-most _ ours (omega arith)
