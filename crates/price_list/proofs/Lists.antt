-- Differences that have room in 32 bits; and the totals are the sums of the columns. Assumes nothing.
use mathlib.Core.Path.{◌≡◌, refl, sym, ap, ◌∙◌}
use mathlib.Core.Bool.{Bool, true, false}
use mathlib.Core.List.{List, [], ◌∷◌}
use Prim.Native.Nat.{ℕ, zero, suc, ◌*◌, ◌^◌, ◌≤◌, ◌<◌}
use native.Mathlib.Omega.{arith}
use lib.Dec.{ltb}
use lib.IntN.{ℤ, pos}
use lib.ListN.{length, take}
use lib.Signed.{mag}
use mir.Syntax.{w32}
use mir.Val.{to_z}
use borrow.Author.Tests.{lt-ltb}
use Rattle.language.specs.declared.Statement.{Statement}
use Rattle.program.specs.Program.{most}
use Rattle.program.specs.Reading.{statements, Held}
use Rattle.program.specs.declared.Program.{Program}
use Rattle.program.proofs.Held.{length-held}
use Rattle.pricing.specs.Prices.{AtMost, column, sum, total}
use Rattle.pricing.proofs.Columns.{column-total}
use Rattle.price_list.specs.PriceList.{less, Lists}
use Rattle.price_list.specs.declared.PriceList.{PriceList}

-- a word of the lower half stands for itself
pub low_word : (a : ℕ) → a < 2 ^ 31 → to_z w32 a ≡ pos a
low_word a h = simp (lt-ltb a (2 ^ 31) h)

-- a difference of small numbers is small
pub less-small : (m a b : ℕ) → a < m → b < m → mag (less a b) < m
less-small m a zero h k = omega arith
less-small m a (suc b) h k = go (ltb a (suc b)) refl
  where
    go : (t : Bool) → ltb a (suc b) ≡ t → mag (less a (suc b)) < m
    go true e = rw e (omega arith)
    go false e = rw e (omega arith)

-- a sum of n entries, none above m
pub sum-most : (m n : ℕ) (ns : List ℕ) → AtMost m ns → sum (take n ns) ≤ n * m
sum-most m zero ns f = omega arith
sum-most m (suc n) [] f = omega arith
sum-most m (suc n) (x ∷ ns) f = omega (arith, f 0, sum-most m n ns (λ k. f (suc k)))

-- document 02: "The first two equal the sums of the lines printed above."
pub totals-are-sums :
    {ps : List ℕ} {P Q : List Statement} {l : PriceList} → Lists ps P Q l → length P ≤ most → length Q ≡ length P
    → (l.given ≡ sum (take l.count l.before)) × (l.rewritten ≡ sum (take l.count l.after))
totals-are-sums {ps} {P} {Q} {l} s few same = (
  s.given ∙ sym (rw (s.counted, s.before) (column-total ps P few)),
  s.rewritten ∙ sym (rw (s.counted, s.after, ← same) (column-total ps Q (omega (arith, same, few)))),
)

-- as many statements as the value of a program counts
held-count : (p : Program) → Held p → length (statements p) ≡ p.count
held-count p h = length-held p.entries p.count (omega (arith, h.room, h.few))

-- what is found of two programs is their list
module _ {ps : List ℕ} {P Q : List Statement} (p q : Program) (one : statements p ≡ P) (two : statements q ≡ Q) (hold : Held p) (same : length Q ≡ length P) where
  pub listed :
      {bs cs : List ℕ} {g r : ℕ} {s : ℤ} → bs ≡ column ps (statements p) → cs ≡ column ps (statements q)
      → g ≡ sum (take p.count bs) → r ≡ sum (take p.count cs) → s ≡ less g r
      → Lists ps P Q (record { count = p.count; given = g; rewritten = r; saved = s; before = bs; after = cs })
  listed {bs} {cs} {g} {r} b a x y d =
      let n : p.count ≡ length P = sym (held-count p hold) ∙ ap length one in
      let few : length P ≤ most = omega (arith, n, hold.few) in
      let u : bs ≡ column ps P = b ∙ ap (column ps) one in
      let v : cs ≡ column ps Q = a ∙ ap (column ps) two in
      let given : g ≡ total ps P = x ∙ rw (n, u) (column-total ps P few) in
      let rewritten : r ≡ total ps Q = y ∙ rw (n, v, ← same) (column-total ps Q (omega (arith, same, few))) in
      record { counted = n; before = u; after = v; given = given; rewritten = rewritten; saved = d ∙ rw (given, rewritten) }
