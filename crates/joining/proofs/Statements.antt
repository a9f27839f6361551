-- The statements of the joined program, place by place. Assumes nothing.
use mathlib.Core.Path.{◌≡◌, refl, sym, ◌∙◌, ap}
use mathlib.Core.List.{List, [], ◌∷◌, map}
use Prim.Native.Nat.{ℕ, zero, suc, ◌+◌, ◌-◌, ◌<◌}
use native.Mathlib.Omega.{arith}
use native.Mathlib.Decide.{dec_lt}
use lib.ListN.{length, take, drop, get_or, length-append, length-drop, length-map, get_or-append}
use lib.Seq.{get_or-take, get_or-drop, get_or-append-add, get_or-append_seam, length-take-le}
use Rattle.language.specs.declared.Statement.{Statement}
use Rattle.language.specs.declared.Statement.TheVariants.{Skip}
use Rattle.program.specs.Program.{at, Counted}
use Rattle.joining.specs.Joining.{moved, seam, joined}

get_d_moved : (d : ℕ) (Q : List Statement) (j : ℕ) → get_or (map (moved d) Q) j Skip ≡ moved d (get_or Q j Skip)
get_d_moved d [] zero = refl
get_d_moved d [] (suc j) = refl
get_d_moved d (q ∷ Q) zero = refl
get_d_moved d (q ∷ Q) (suc j) = get_d_moved d Q j

module _ (P Q : List Statement) (w : Counted P) (x : Counted Q) where
  abbrev d : ℕ
  d = length P - 1

  front : length (take d P) ≡ d
  front = length-take-le d P (omega arith)

  pub joined_length : length (joined P Q) ≡ d + length Q
  joined_length =
      let back : List Statement = map (moved d) (drop 1 Q) in
      let a : length (joined P Q) ≡ length (take d P) + length (seam P Q ∷ back) = length-append (take d P) (seam P Q ∷ back) in
      omega (arith, a, front, length-map (drop 1 Q) (moved d), length-drop 1 Q, x.0)

  pub at-road : (s : ℕ) → s < d → at (joined P Q) s ≡ at P s
  at-road s l = get_or-append (take d P) _ Skip s (omega (arith, front)) ∙ get_or-take d P s Skip l

  pub at-seam : at (joined P Q) d ≡ seam P Q
  at-seam = ap (λ (k : ℕ). get_or (joined P Q) k Skip) (sym front) ∙ get_or-append_seam (take d P) (seam P Q) (map (moved d) (drop 1 Q)) Skip

  pub at-creeper : (s : ℕ) → at (joined P Q) (d + suc s) ≡ moved d (at Q (suc s))
  at-creeper s =
      let back : List Statement = map (moved d) (drop 1 Q) in
      let a : get_or (joined P Q) (d + suc s) Skip ≡ get_or (joined P Q) (length (take d P) + suc s) Skip = ap (λ (k : ℕ). get_or (joined P Q) (k + suc s) Skip) (sym front) in
      let b : get_or (joined P Q) (length (take d P) + suc s) Skip ≡ get_or (seam P Q ∷ back) (suc s) Skip = get_or-append-add (take d P) (seam P Q ∷ back) (suc s) Skip in
      let c : get_or (seam P Q ∷ back) (suc s) Skip ≡ get_or back s Skip = refl in
      let o : 1 + s ≡ suc s = omega arith in
      a ∙ b ∙ c ∙ get_d_moved d (drop 1 Q) s ∙ ap (moved d) (get_or-drop 1 Q s Skip ∙ ap (λ (k : ℕ). get_or Q k Skip) o)

  -- what is true of the road's statements but its last, of the seam, and of the moved ones of the creeper but its first, is true of all
  module _ (X : ℕ → Statement → Type 0) (road : (s : ℕ) → s < d → X s (at P s)) (between : X d (seam P Q))
      (creeper : (j : ℕ) → suc j < length Q → X (d + suc j) (moved d (at Q (suc j)))) where
    past : (j s : ℕ) → s ≡ d + j → j < length Q → X s (at (joined P Q) s)
    past zero s is l = let here : s ≡ d = omega arith in rw (here, at-seam) between
    past (suc j) s is l = rw (is, at-creeper j) (creeper j l)

    pub each : (s : ℕ) → s < d + length Q → X s (at (joined P Q) s)
    each s l = go (dec_lt s d)
      where
        go : Dec (s < d) → X s (at (joined P Q) s)
        go (yes h) = rw (at-road s h) (road s h)
        go (no h) = past (s - d) s (omega arith) (omega arith)
