-- What is left of filling one part. Assumes nothing.
use mathlib.Core.Path.{◌≡◌}
use mathlib.Core.List.{List}
use Prim.Native.Nat.{ℕ, ◌+◌, ◌*◌, ◌≤◌}
use lib.ListN.{length}
use Rattle.tokens.specs.Parsing.{Parsed, found}
use Rattle.bits.specs.Row.{member}
use Rattle.bits.proofs.Tables.{replaced, replaced-row, replaced-kept}
use Rattle.labelling.specs.Labels.{Labelled}
use Rattle.table.specs.Table.{Written}

-- a text is read in one way
pub found-same : {A : Type 0} {p : Parsed A} {a b : A} {t u : List ℕ} → p ≡ found a t → p ≡ found b u → a ≡ b
found-same e f = cc

-- the row that was lent became ys
pub part-written : (w : ℕ) (t : List ℕ) (k : ℕ) (fits : w * k + w ≤ length t) (ys : List ℕ) (n : ℕ) (X : ℕ → Type 0) → length ys ≡ w → Labelled n (member ys) X
    → Written w t (replaced w t k fits ys) k n X
part-written w t k fits ys n X l lab = record { kept = replaced-kept w t k fits ys l; labelled = rw (replaced-row w t k fits ys l) lab }
