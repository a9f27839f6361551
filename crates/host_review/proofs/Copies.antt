-- Entries copied one by one. Assumes nothing.
use mathlib.Core.Path.{◌≡◌, sym, ap, ◌∙◌}
use mathlib.Core.List.{List, [], ◌∷◌}
use Prim.Native.Nat.{ℕ, ◌+◌, ◌<◌}
use native.Mathlib.Numerals.{add-one}
use native.Mathlib.Omega.{arith}
use lib.ListN.{length, take, get_or, set}
use lib.Seq.{sets, length-take-le, take-suc}
use Rattle.statement_writer.proofs.Puts.{sets-append}
use Rattle.host_review.specs.Places.{begun}

pub begun_more : (xs ys : List ℕ) (i : ℕ) → i < length xs → set (begun i xs ys) i (get_or xs i 0) ≡ begun (i + 1) xs ys
begun_more xs ys i l =
    let n : 0 + length (take i xs) ≡ i = omega (arith, length-take-le i xs (omega arith)) in
    ap (λ (k : ℕ). set (begun i xs ys) k (get_or xs i 0)) (sym n) ∙ sets-append (take i xs) (get_or xs i 0 ∷ []) ys 0
    ∙ ap (sets ys 0) (sym (take-suc xs i 0 l) ∙ ap (λ (k : ℕ). take k xs) (sym (add-one i)))
