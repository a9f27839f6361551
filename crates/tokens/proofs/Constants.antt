-- Reading undoes spelling, and the other way round: constants. Assumes nothing.
use mathlib.Core.Path.{◌≡◌, refl, ap, ◌∙◌}
use mathlib.Core.List.{List, [], ◌∷◌, ◌++◌}
use Prim.Native.Nat.{ℕ, ◌-◌, ◌^◌, ◌≤◌, ◌<◌}
use native.Mathlib.Decide.{dec_lt}
use native.Mathlib.Omega.{arith}
use lib.Dec.{ltb}
use borrow.Author.Tests.{lt-ltb, ltb-true}
use Rattle.language.specs.Spelling.{largest, digits, digits_by, spell_constant, ValidConstant}
use Rattle.language.proofs.Constants.{constant-low, constant-high}
use Rattle.tokens.specs.Parsing.{found, after, where?, parse_word, digit_of, parse_digits, parse_number, least_word, parse_negative, parse_constant}
use Rattle.tokens.proofs.Numbers.{NoDigit, number-sound, number-complete}
use Rattle.tokens.proofs.Parse.{after-inv, after_or-inv, where-inv, either-inv, skip-sound}

least-digits : digits (2 ^ 31) ≡ least_word
unfolding digits digits_by
least-digits = refl

-- what is read is what is spelled
abbrev Sound : List ℕ → ℕ → List ℕ → Type 0
Sound l v rest = (l ≡ spell_constant v ++ rest) × (ValidConstant v)

negative-sound : (l : List ℕ) (v : ℕ) (rest : List ℕ) → parse_negative l ≡ found v rest → Sound (45 ∷ l) v rest
unfolding parse_negative
negative-sound l v rest e =
    after_or-inv (parse_number l) (λ n t. where? (ltb 0 n) (found (2 ^ 32 - n) t)) (after (parse_word least_word l) λ _ t. found (2 ^ 31) t) e
    (λ n t p q. where-inv (ltb 0 n) (found (2 ^ 32 - n) t) q λ b w. number n t (number-sound l n t p) (ltb-true 0 n b) w)
    (λ q. after-inv (parse_word least_word l) (λ _ t. found (2 ^ 31) t) q λ _ t p w. least t (skip-sound least_word l p) w)
  where
    number : (n : ℕ) (t : List ℕ) → (l ≡ digits n ++ t) × (n ≤ largest) → 0 < n → found (2 ^ 32 - n) t ≡ found v rest → Sound (45 ∷ l) v rest
    number n t h b w =
        let a : 2 ^ 32 - n ≡ v = cc in
        let k : t ≡ rest = cc in
        let d : 2 ^ 32 - v ≡ n = omega (arith, h.1) in
        (rw (constant-high v (omega (arith, h.1)) (omega (arith, h.1)), d, ← k) (ap (λ (x : List ℕ). 45 ∷ x) h.0), omega (arith, h.1))

    least : (t : List ℕ) → l ≡ least_word ++ t → found (2 ^ 31) t ≡ found v rest → Sound (45 ∷ l) v rest
    least t h w =
        let a : 2 ^ 31 ≡ v = cc in
        let k : t ≡ rest = cc in
        let s : spell_constant (2 ^ 31) ≡ 45 ∷ least_word = constant-high (2 ^ 31) (omega arith) (omega arith) ∙ ap (λ (x : List ℕ). 45 ∷ x) least-digits in
        (rw (← a, s, ← k, h), omega arith)

pub constant-sound : (l : List ℕ) (v : ℕ) (rest : List ℕ) → parse_constant l ≡ found v rest → Sound l v rest
unfolding parse_constant
constant-sound l v rest e =
    either-inv (parse_number l) (after (parse_word (45 ∷ []) l) λ _ t. parse_negative t) e
    (λ p. let h = number-sound l v rest p in (rw (constant-low v (omega (arith, h.1))) h.0, omega (arith, h.1)))
    (λ q. after-inv (parse_word (45 ∷ []) l) (λ _ t. parse_negative t) q λ _ t p w. rw (skip-sound (45 ∷ []) l p) (negative-sound t v rest w))

-- what is spelled is read
negative-complete : (n : ℕ) (rest : List ℕ) → 0 < n → n ≤ largest → NoDigit rest → parse_negative (digits n ++ rest) ≡ found (2 ^ 32 - n) rest
unfolding parse_negative
negative-complete n rest p q h = rw (number-complete n rest q h, lt-ltb 0 n p)

least-complete : (rest : List ℕ) → parse_negative (least_word ++ rest) ≡ found (2 ^ 31) rest
unfolding parse_negative parse_number parse_digits digit_of parse_word
least-complete rest = refl

sign-complete : (l : List ℕ) → parse_constant (45 ∷ l) ≡ parse_negative l
unfolding parse_constant parse_number digit_of parse_word
sign-complete l = refl

pub constant-complete : (v : ℕ) (rest : List ℕ) → ValidConstant v → NoDigit rest → parse_constant (spell_constant v ++ rest) ≡ found v rest
unfolding parse_constant
constant-complete v rest l h = low (dec_lt v (2 ^ 31))
  where
    high : Dec (2 ^ 31 < v) → 2 ^ 31 ≤ v → parse_constant (spell_constant v ++ rest) ≡ found v rest
    high (yes m) k =
        let e : 2 ^ 32 - (2 ^ 32 - v) ≡ v = omega arith in
        rw (constant-high v k l) (sign-complete (digits (2 ^ 32 - v) ++ rest) ∙ negative-complete (2 ^ 32 - v) rest (omega arith) (omega arith) h ∙ ap (λ (n : ℕ). found n rest) e)
    high (no m) k =
        let e : v ≡ 2 ^ 31 = omega arith in
        rw (constant-high v k l, e, least-digits) (sign-complete (least_word ++ rest) ∙ least-complete rest)

    low : Dec (v < 2 ^ 31) → parse_constant (spell_constant v ++ rest) ≡ found v rest
    low (yes m) = rw (constant-low v (omega arith), number-complete v rest (omega arith) h)
    low (no m) = high (dec_lt (2 ^ 31) v) (omega arith)
