-- One byte more of each walk over a text. Assumes nothing.
use mathlib.Core.Path.{◌≡◌, refl, ap, sym, ◌∙◌}
use mathlib.Core.Bool.{Bool, true, false, not, ◌&&◌, ◌||◌}
use mathlib.Core.List.{List, [], ◌∷◌}
use Prim.Native.Nat.{ℕ, zero, suc, ◌+◌, ◌-◌, ◌*◌, ◌≤◌, ◌<◌, min}
use native.Mathlib.Omega.{arith}
use lib.Dec.{eqb, leb, ltb}
use lib.ListN.{length, get_or, drop, take, drop_of_length-le}
use borrow.Author.Tests.{lt-ltb, le-ltb, ltb-true, ltb-false, ne_eqb, leb-true}
use Rattle.base.specs.Bytes.{byte}
use Rattle.base.specs.Pick.{pick}
use Rattle.base.proofs.Bools.{and_left, and_right}
use Rattle.tokens.proofs.Steps.{at_byte}
use Rattle.slips.specs.Slips.{most_number, is_digit, shows, some, marked, value_behind, outside, named, first_outside, from_line, up_to_end, count_behind}
use Rattle.slips.specs.declared.Slip.{Slip}
use Rattle.slips.specs.declared.Slip.TheVariants.{Nothing}
use Rattle.slips.specs.declared.Sign.{Sign}
use Rattle.slips.specs.declared.Range.{Range}

pub digit_low : (c : ℕ) → is_digit c ≡ true → 48 ≤ c
digit_low c e = leb-true 48 c (and_left (leb 48 c) (leb c 57) e)

pub marked-short : (l : List ℕ) → length l < 3 → marked l ≡ false
unfolding marked
marked-short [] h = refl
marked-short (a ∷ []) h = refl
marked-short (a ∷ b ∷ []) h = refl
marked-short (a ∷ b ∷ c ∷ l) h = absurd (omega arith)

pub marked-long : (l : List ℕ) → 3 ≤ length l → marked l ≡ (eqb (get_or l 0 0) 239 && (eqb (get_or l 1 0) 187 && eqb (get_or l 2 0) 191))
unfolding marked
marked-long [] h = absurd (omega arith)
marked-long (a ∷ []) h = absurd (omega arith)
marked-long (a ∷ b ∷ []) h = absurd (omega arith)
marked-long (a ∷ b ∷ c ∷ l) h = refl

module _ (t : List ℕ) (k : ℕ) where
  some_end : (s : Sign) (p : ℕ) (l : List ℕ) → l ≡ [] → some s p l ≡ shows s p 10
  unfolding some
  some_end s p l e = rw e

  pub some-last : (s : Sign) (p : ℕ) → length t ≤ k → some s p (drop k t) ≡ shows s p 10
  some-last s p h = some_end s p (drop k t) (drop_of_length-le t h)

  pub some-here : (s : Sign) (p : ℕ) → k < length t → shows s p (get_or t k 0) ≡ true → some s p (drop k t) ≡ true
  unfolding some
  some-here s p h e = rw (at_byte t k h, e)

  pub some_next : (s : Sign) (p : ℕ) → k < length t → shows s p (get_or t k 0) ≡ false → some s p (drop k t) ≡ some s (get_or t k 0) (drop (k + 1) t)
  unfolding some
  some_next s p h e = rw (at_byte t k h, e)

  pub value-last : (v : ℕ) → length t ≤ k → value_behind v (drop k t) ≡ v
  unfolding value_behind
  value-last v h = rw (drop_of_length-le t h)

  pub value-other : (v : ℕ) → k < length t → is_digit (get_or t k 0) ≡ false → value_behind v (drop k t) ≡ v
  unfolding value_behind
  value-other v h e = rw (at_byte t k h, e)

  pub value-next : (v : ℕ) → k < length t → is_digit (get_or t k 0) ≡ true
      → value_behind v (drop k t) ≡ value_behind (min (v * 10 + (get_or t k 0 - byte "0")) most_number) (drop (k + 1) t)
  unfolding value_behind
  value-next v h e = rw (at_byte t k h, e)

  pub line-last : (n : ℕ) → length t ≤ k → drop k t ≡ from_line n (drop k t)
  unfolding from_line
  line-last n h = rw (drop_of_length-le t h)

  pub line-here : (n : ℕ) → k < length t → n ≤ 1 → drop k t ≡ from_line n (drop k t)
  unfolding from_line
  line-here n h few = rw (at_byte t k h, le-ltb 1 n few)

  pub line-passed : (n : ℕ) → k < length t → 1 < n → get_or t k 0 ≡ 10 → from_line n (drop k t) ≡ from_line (n - 1) (drop (k + 1) t)
  unfolding from_line
  line-passed n h more e = rw (at_byte t k h, lt-ltb 1 n more, e)

  pub line-within : (n : ℕ) → k < length t → 1 < n → (get_or t k 0 ≡ 10 → ⊥) → from_line n (drop k t) ≡ from_line n (drop (k + 1) t)
  unfolding from_line
  line-within n h more e = rw (at_byte t k h, lt-ltb 1 n more, ne_eqb _ 10 e)

  pub end-last : length t ≤ k → length (up_to_end (drop k t)) ≡ 0
  unfolding up_to_end
  end-last h = rw (drop_of_length-le t h)

  pub end-here : k < length t → get_or t k 0 ≡ 10 → length (up_to_end (drop k t)) ≡ 0
  unfolding up_to_end
  end-here h e = rw (at_byte t k h, e)

  pub end-next : k < length t → (get_or t k 0 ≡ 10 → ⊥) → length (up_to_end (drop k t)) ≡ length (up_to_end (drop (k + 1) t)) + 1
  unfolding up_to_end
  end-next h e = rw (at_byte t k h, ne_eqb _ 10 e) (omega arith)

  pub count-last : (n : ℕ) → length t ≤ k → count_behind n (drop k t) ≡ n
  unfolding count_behind
  count-last n h = rw (drop_of_length-le t h)

  pub count_next : (n : ℕ) → k < length t → count_behind n (drop k t) ≡ count_behind (pick (eqb (get_or t k 0) 10) (min (n + 1) most_number) n) (drop (k + 1) t)
  unfolding count_behind
  count_next n h = rw (at_byte t k h)

-- a line is counted, or there are more than are told
pub below : (c n : ℕ) → (eqb c 10 && ltb n most_number) ≡ true → n < most_number
below c n e = ltb-true n most_number (and_right (eqb c 10) (ltb n most_number) e)

pub counted : (c n : ℕ) → (eqb c 10 && ltb n most_number) ≡ true → pick (eqb c 10) (min (n + 1) most_number) n ≡ n + 1
counted c n e = rw (and_left (eqb c 10) (ltb n most_number) e) (omega (arith, below c n e))

pub uncounted : (c n : ℕ) → n ≤ most_number → (eqb c 10 && ltb n most_number) ≡ false → pick (eqb c 10) (min (n + 1) most_number) n ≡ n
uncounted c n h e = go (eqb c 10) e
  where
    go : (b : Bool) → (b && ltb n most_number) ≡ false → pick b (min (n + 1) most_number) n ≡ n
    go true f = let g : most_number ≤ n = ltb-false n most_number f in omega arith
    go false f = refl

-- the line up to its end is what stands there
pub up-to-end : (l : List ℕ) → take (length (up_to_end l)) l ≡ up_to_end l
unfolding up_to_end
up-to-end [] = refl
up-to-end (c ∷ l) = go (eqb c 10) (up-to-end l)
  where
    go : (b : Bool) → take (length (up_to_end l)) l ≡ up_to_end l → take (length (pick b [] (c ∷ up_to_end l))) (c ∷ l) ≡ pick b [] (c ∷ up_to_end l)
    go true e = refl
    go false e = ap (λ (r : List ℕ). c ∷ r) e

pub end-within : (l : List ℕ) → length (up_to_end l) ≤ length l
unfolding up_to_end
end-within [] = omega arith
end-within (c ∷ l) = go (eqb c 10) (end-within l)
  where
    go : (b : Bool) → length (up_to_end l) ≤ length l → length (pick b [] (c ∷ up_to_end l)) ≤ suc (length l)
    go true h = omega arith
    go false h = omega arith

-- the numbers that begin within n bytes
pub outside-first : (r : Range) (p n : ℕ) (t : List ℕ) → first_outside r p n t ≡ first_outside r p (n - 0) t
outside-first r p n t = let e : n - 0 ≡ n = omega arith in rw e

module _ (r : Range) (t : List ℕ) (n k : ℕ) where
  pub outside-last : (p : ℕ) → n ≤ k → first_outside r p (n - k) (drop k t) ≡ Nothing
  unfolding first_outside
  outside-last p h = let e : n - k ≡ 0 = omega arith in rw e

  module _ (p : ℕ) (inside : k < n) (long : n ≤ length t) where
    more : n - k ≡ suc (n - (k + 1))
    more = omega arith

    abbrev pub begins : Bool
    begins = is_digit (get_or t k 0) && not (is_digit p)

    abbrev pub worth : ℕ
    worth = value_behind 0 (drop k t)

    step : first_outside r p (n - k) (drop k t) ≡ pick (begins && outside r p worth) (named r p worth) (first_outside r (get_or t k 0) (n - (k + 1)) (drop (k + 1) t))
    unfolding first_outside
    step = rw (more, at_byte t k (omega arith))

    pub outside-here : begins ≡ true → outside r p worth ≡ true → first_outside r p (n - k) (drop k t) ≡ named r p worth
    outside-here b o = step ∙ rw (b, o)

    pub outside-right : begins ≡ true → outside r p worth ≡ false → first_outside r p (n - k) (drop k t) ≡ first_outside r (get_or t k 0) (n - (k + 1)) (drop (k + 1) t)
    outside-right b o = step ∙ rw (b, o)

    pub outside-other : begins ≡ false → first_outside r p (n - k) (drop k t) ≡ first_outside r (get_or t k 0) (n - (k + 1)) (drop (k + 1) t)
    outside-other b = step ∙ rw b
