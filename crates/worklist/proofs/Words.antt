-- Gathering the members of one word: the lowest bit that is left, again and again. Assumes nothing.
use mathlib.Core.Path.{◌≡◌, refl, sym, ap, ◌∙◌}
use mathlib.Core.List.{List}
use mathlib.Core.Bool.{Bool, true, false}
use Prim.Native.Nat.{ℕ, zero, suc, ◌+◌, ◌-◌, ◌*◌, ◌^◌, ◌≤◌, ◌<◌}
use native.Mathlib.Decide.{dec_lt, ℕ_discrete}
use native.Mathlib.Nat.{add-zero}
use native.Mathlib.Omega.{arith}
use lib.Bits.{bit_and, and_le_l}
use lib.Count.{count_trailing_zeros, trailing_of_zero, trailing_le}
use lib.ListN.{length, get_or, set}
use Rattle.bits.specs.Row.{bit, member}
use Rattle.bits.proofs.Counts.{count-le}
use Rattle.bits.proofs.Rows.{word-member}
use Rattle.base.proofs.Bools.{clash}
use Rattle.bits.proofs.Words.{lowest_set, lower-clear, lowest-off, higher-kept}
use Rattle.worklist.specs.Worklist.{Gathered, lesser}
use Rattle.worklist.proofs.Stack.{gather-skip, gather-join}

-- the members below m are those below m + d, if none is between
gather-on : (z : ℕ → Bool) (stack : List ℕ) (h m d : ℕ) → Gathered z m stack h → ((j : ℕ) → m ≤ j → j < m + d → z j ≡ false) → Gathered z (m + d) stack h
gather-on z stack h m zero a none = rw add-zero a
gather-on z stack h m (suc d) a none =
    let e : m + suc d ≡ m + d + 1 = omega arith in
    rw e (gather-skip z stack (m + d) h (gather-on z stack h m d a (λ j l i. none j l (omega arith))) (none (m + d) (omega arith) (omega arith)))

-- the lowest bit of a word, and the word without it
abbrev pub lowest : ℕ → ℕ
lowest = count_trailing_zeros 64

abbrev pub others : ℕ → ℕ
others x = bit_and x (x - 1)

-- `left` has the bits of w from its lowest on
pub record Left (w left : ℕ) : Type 0 where
  pub fits : left < 2 ^ 64
  pub same : (b : ℕ) → lowest left ≤ b → bit left b ≡ bit w b

pub left-first : (w : ℕ) → w < 2 ^ 64 → Left w w
left-first w f = record { fits = f; same = λ b l. refl }

-- the lowest bit is taken from `left`
module _ (w left : ℕ) (a : Left w left) (more : left ≡ 0 → ⊥) where
  next_fits : others left < 2 ^ 64
  next_fits = omega (arith, and_le_l left (left - 1), a.fits)

  pub left-higher : lowest left < lowest (others left)
  left-higher = go (ℕ_discrete (others left) 0) (dec_lt (lowest left) (lowest (others left)))
    where
      low : lowest left < 64
      low = (lowest_set 64 left a.fits more).0

      go : Dec (others left ≡ 0) → Dec (lowest left < lowest (others left)) → lowest left < lowest (others left)
      go (yes e) d = rw (e, trailing_of_zero 64) low
      go (no e) (yes l) = l
      go (no e) (no l) = clash (lowest_set 64 (others left) next_fits e).1 (lowest-off 64 left (lowest (others left)) a.fits more (omega arith))

  pub left-next : Left w (others left)
  left-next = record {
    fits = next_fits;
    same = λ b l. higher-kept 64 left b a.fits more (omega (arith, left-higher)) ∙ a.same b (omega (arith, left-higher));
  }

module _ (row : List ℕ) (n k : ℕ) where
  -- the members below n of the words before k, and of word k's bits below b
  abbrev pub Upto : ℕ → List ℕ → ℕ → Type 0
  Upto b = Gathered (member row) (lesser n (k * 64 + b))

  upto-on : (stack : List ℕ) (h a b : ℕ) → a ≤ b → b ≤ 64 → ((c : ℕ) → a ≤ c → c < b → bit (get_or row k 0) c ≡ false) → Upto a stack h → Upto b stack h
  upto-on stack h a b l room none g =
      let e : lesser n (k * 64 + a) + (lesser n (k * 64 + b) - lesser n (k * 64 + a)) ≡ lesser n (k * 64 + b) = omega arith in
      rw e at
      (gather-on (member row) stack h (lesser n (k * 64 + a)) (lesser n (k * 64 + b) - lesser n (k * 64 + a)) g
      (λ j i d.
      let f : k * 64 + (j - k * 64) ≡ j = omega arith in
      ap (member row) (sym f) ∙ word-member row k (j - k * 64) (omega arith) ∙ none (j - k * 64) (omega arith) (omega arith)))

  pub upto-first : (stack : List ℕ) (h : ℕ) → Gathered (member row) (lesser n (k * 64)) stack h → Upto (lowest (get_or row k 0)) stack h
  upto-first stack h g =
      let e : k * 64 ≡ k * 64 + 0 = omega arith in
      let g₀ : Upto 0 stack h = rw e at g in
      upto-on stack h 0 (lowest (get_or row k 0)) (omega arith) (trailing_le 64 (get_or row k 0)) (λ c _ l. lower-clear 64 (get_or row k 0) c l) g₀

  -- where no bit is left, or none below n, the word is done
  pub upto-none : (stack : List ℕ) (h : ℕ) → Upto (lowest 0) stack h → Gathered (member row) (lesser n ((k + 1) * 64)) stack h
  upto-none stack h g = let e : k * 64 + lowest 0 ≡ (k + 1) * 64 = rw trailing_of_zero (omega arith) in rw e at g

  pub upto-past : (stack : List ℕ) (h b : ℕ) → n ≤ k * 64 + b → b ≤ 64 → Upto b stack h → Gathered (member row) (lesser n ((k + 1) * 64)) stack h
  upto-past stack h b l room g = let e : lesser n (k * 64 + b) ≡ lesser n ((k + 1) * 64) = omega arith in rw e at g

  -- below n, what is stacked are the members below bit b
  upto-here : (stack : List ℕ) (h b : ℕ) → k * 64 + b < n → Upto b stack h → Gathered (member row) (k * 64 + b) stack h
  upto-here stack h b low g = let e : lesser n (k * 64 + b) ≡ k * 64 + b = omega arith in rw e at g

  pub upto-room : (stack : List ℕ) (h b : ℕ) → k * 64 + b < n → Upto b stack h → h < n
  upto-room stack h b low g = omega (arith, (upto-here stack h b low g).fit, count-le (member row) (k * 64 + b))

  pub upto_next : (stack : List ℕ) (h left : ℕ) → Left (get_or row k 0) left → (left ≡ 0 → ⊥) → k * 64 + lowest left < n → n ≤ length stack → Upto (lowest left) stack h
      → Upto (lowest (others left)) (set stack h (k * 64 + lowest left)) (h + 1)
  upto_next stack h left a more low room g =
      let t : ℕ = lowest left in
      let found = lowest_set 64 left a.fits more in
      let e : k * 64 + t + 1 ≡ lesser n (k * 64 + (t + 1)) = omega arith in
      let inside : member row (k * 64 + t) ≡ true = word-member row k t found.0 ∙ sym (a.same t (omega arith)) ∙ found.1 in
      let g₁ = gather-join (member row) stack (k * 64 + t) h (upto-here stack h t low g) inside (omega (arith, upto-room stack h t low g)) in
      upto-on (set stack h (k * 64 + t)) (h + 1) (t + 1) (lowest (others left)) (omega (arith, left-higher (get_or row k 0) left a more)) (trailing_le 64 (others left))
      (λ c l i. sym (a.same c (omega arith)) ∙ sym (higher-kept 64 left c a.fits more (omega arith)) ∙ lower-clear 64 (others left) c i)
      (rw e at g₁)
