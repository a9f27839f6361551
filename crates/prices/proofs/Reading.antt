-- The lines of a table, read one after another, and the prices stored so far. Assumes nothing.
use mathlib.Core.Path.{◌≡◌, refl, ap, sym, ◌∙◌}
use mathlib.Core.List.{List, [], ◌∷◌, ◌++◌, append-nil}
use Prim.Native.Nat.{ℕ, ◌+◌, ◌-◌, ◌≤◌, ◌<◌}
use native.Mathlib.Omega.{arith}
use lib.ListN.{length, set, drop, drop_of_length-le}
use lib.Seq.{sets, sets-eq, length-sets}
use Rattle.statement_writer.proofs.Puts.{sets-append}
use Rattle.lines.specs.Lines.{LineOf}
use Rattle.lines.proofs.Reading as lines
use Rattle.lines.proofs.Walk.{line-further}
use Rattle.std.specs.Prelude.{Option, Some, None}
use Rattle.prices.specs.declared.Refusal.TheVariants.{WrongLine, LineCount}
use Rattle.pricing.specs.Prices.{kinds, ValidPrice}
use Rattle.prices.specs.Prices.{spell_price, Refused, Taken, PriceLineRead}
use Rattle.prices.proofs.Spelling.{prices-unambiguous}

-- k lines are read, up to the position, and the table held has their prices at its front, as far as it has room
pub record SoFar (t os : List ℕ) (held : List ℕ) (at k : ℕ) : Type 0 where
  pub lines : lines.SoFar spell_price ValidPrice t k at
  pub kept : held ≡ sets os 0 (lines).read

pub none_read : (t os : List ℕ) → SoFar t os os 0 0
unfolding lines.none_yet
none_read t os = record { lines = lines.none_yet spell_price ValidPrice t; kept = refl }

module _ {t os held : List ℕ} {at k : ℕ} (i : SoFar t os held at k) where
  pub held-length : length held ≡ length os
  held-length = ap length i.kept ∙ length-sets os 0 i.lines.read

  module _ {r : Option (ℕ × ℕ)} where
    pub wrong : at < length t → r ≡ None → PriceLineRead t at r → Refused t WrongLine
    wrong h is l = lines.no_lines i.lines prices-unambiguous (rw is at l) h

    module _ {n next : ℕ} (is : r ≡ Some (n, next)) (l : PriceLineRead t at r) where
      here : LineOf spell_price ValidPrice t at n next
      here = rw is at l

      pub further : length t - next < length t - at
      further = line-further here

      pub one_more : {new : List ℕ} → new ≡ set held k n → SoFar t os new next (k + 1)
      unfolding lines.one_more
      one_more e = record { lines = lines.one_more i.lines here; kept = e ∙ more }
        where
          more : set held k n ≡ sets os 0 (i.lines.read ++ n ∷ [])
          more =
              let z : 0 + length i.lines.read ≡ k = omega (arith, i.lines.counted) in
              rw (i.kept, ← z) (sets-append i.lines.read (n ∷ []) os 0)

  -- no text is left
  module _ (h : length t ≤ at) where
    pub miscounted : (k ≡ kinds → ⊥) → Refused t LineCount
    miscounted m = (i.lines.read, lines.whole i.lines h, λ e. m (i.lines.counted ∙ e))

    pub taken : k ≡ kinds → length os ≡ kinds → Taken t held
    taken e room =
        let n : length i.lines.read ≡ kinds = sym i.lines.counted ∙ e in
        let all : sets os 0 i.lines.read ≡ i.lines.read ++ drop (0 + length i.lines.read) os = sets-eq i.lines.read os 0 (omega arith) in
        let none : drop (0 + length i.lines.read) os ≡ [] = drop_of_length-le os {i = 0 + length i.lines.read} (omega arith) in
        let same : held ≡ i.lines.read = i.kept ∙ all ∙ rw none (append-nil i.lines.read) in
        rw same (record { spells = lines.whole i.lines h; counted = n })
