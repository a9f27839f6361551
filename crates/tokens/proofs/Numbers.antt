-- Reading undoes spelling, and the other way round: decimal numbers and variables.
use mathlib.Core.Path.{◌≡◌, refl, ap, sym, ◌∙◌}
use mathlib.Core.List.{List, [], ◌∷◌, ◌++◌, append_assoc}
use mathlib.Core.Bool.{Bool, true, false}
use Prim.Native.Nat.{ℕ, zero, suc, ◌+◌, ◌-◌, ◌*◌, ◌/◌, ◌%◌, ◌≤◌, ◌<◌}
use native.Mathlib.Omega.{arith}
use lib.Dec.{ltb, leb}
use borrow.Author.Tests.{lt-ltb, le-leb, leb-true, ltb-true, ltb-false}
use Rattle.language.specs.Spelling.{variables, largest, digits, spell_variable, ValidVariable}
use Rattle.language.proofs.Digits.{digits-small, digits_more, digits-next}
use Rattle.std.specs.Prelude.{Option, Some, None}
use Rattle.tokens.specs.Parsing.{found, misspelled, where?, by_digit, digit_of, parse_zero, parse_digits, from_first, parse_number, parse_word, parse_variable}
use Rattle.tokens.proofs.Steps.{digit-byte, first_more}
use Rattle.tokens.proofs.Parse.{after-inv, where-inv, skip-sound}

-- what is read is what is spelled
more-sound : (n : ℕ) (l : List ℕ) (v : ℕ) (rest : List ℕ) → 0 < n → n ≤ largest → parse_digits n l ≡ found v rest
    → (digits n ++ l ≡ digits v ++ rest) × (v ≤ largest)
unfolding parse_digits
more-sound n [] v rest p q e = let a : n ≡ v = cc in let b : [] ≡ rest = cc in (rw (a, b), omega arith)
more-sound n (c ∷ l) v rest p q e = go (digit_of c) refl (λ d a b. more-sound (n * 10 + d) l v rest a b) e
  where
    step : (d : ℕ) → digit_of c ≡ Some d → (b : Bool) → leb (n * 10 + d) largest ≡ b
        → (0 < n * 10 + d → n * 10 + d ≤ largest → parse_digits (n * 10 + d) l ≡ found v rest → (digits (n * 10 + d) ++ l ≡ digits v ++ rest) × (v ≤ largest))
        → where? b (parse_digits (n * 10 + d) l) ≡ found v rest → (digits n ++ c ∷ l ≡ digits v ++ rest) × (v ≤ largest)
    step d f true t r w =
        let h = digit-byte c d (sym f) in
        let s = r (omega arith) (leb-true (n * 10 + d) largest t) w in
        (rw h.1 (rw (digits_more n d p h.0, append_assoc) at s.0), s.1)
    step d f false t r w = let z : ◌≡◌ {A = ℕ} 0 1 = cc in absurd (omega arith)

    go : (D : Option ℕ) → digit_of c ≡ D
        → ((d : ℕ) → 0 < n * 10 + d → n * 10 + d ≤ largest → parse_digits (n * 10 + d) l ≡ found v rest → (digits (n * 10 + d) ++ l ≡ digits v ++ rest) × (v ≤ largest))
        → by_digit D (λ d. where? (leb (n * 10 + d) largest) (parse_digits (n * 10 + d) l)) (found n (c ∷ l)) ≡ found v rest
        → (digits n ++ c ∷ l ≡ digits v ++ rest) × (v ≤ largest)
    go (Some d) f r w = step d f (leb (n * 10 + d) largest) refl (r d) w
    go None f r w = let a : n ≡ v = cc in let b : c ∷ l ≡ rest = cc in (rw (a, b), omega arith)

nothing-sound : (l : List ℕ) (v : ℕ) (rest : List ℕ) → parse_zero l ≡ found v rest → (0 ≡ v) × (l ≡ rest)
unfolding parse_zero
nothing-sound [] v rest e = (cc, cc)
nothing-sound (c ∷ l) v rest e = go (digit_of c) e
  where
    go : (D : Option ℕ) → by_digit D (λ d. misspelled) (found 0 (c ∷ l)) ≡ found v rest → (0 ≡ v) × (c ∷ l ≡ rest)
    go (Some d) w = let z : ◌≡◌ {A = ℕ} 0 1 = cc in absurd (omega arith)
    go None w = (cc, cc)

pub number-sound : (l : List ℕ) (v : ℕ) (rest : List ℕ) → parse_number l ≡ found v rest → (l ≡ digits v ++ rest) × (v ≤ largest)
unfolding parse_number
number-sound [] v rest e = let z : ◌≡◌ {A = ℕ} 0 1 = cc in absurd (omega arith)
number-sound (c ∷ l) v rest e = go (digit_of c) refl e
  where
    step : (d : ℕ) → Some d ≡ digit_of c → from_first d l ≡ found v rest → (c ∷ l ≡ digits v ++ rest) × (v ≤ largest)
    step zero f w =
        let h = nothing-sound l v rest w in
        (rw ((digit-byte c 0 f).1, h.1, ← h.0, digits-small 0 (omega arith)), omega arith)
    step (suc d) f w =
        let h = digit-byte c (suc d) f in
        let s = more-sound (suc d) l v rest (omega arith) (omega arith) w in
        (rw h.1 (rw (digits-small (suc d) h.0) at s.0), s.1)

    go : (D : Option ℕ) → digit_of c ≡ D → by_digit D (λ d. from_first d l) misspelled ≡ found v rest → (c ∷ l ≡ digits v ++ rest) × (v ≤ largest)
    go (Some d) f w = step d (sym f) w
    go None f w = let z : ◌≡◌ {A = ℕ} 0 1 = cc in absurd (omega arith)

-- what is spelled is read
abbrev pub NoDigit : List ℕ → Type 0
NoDigit [] = Unit
NoDigit (c ∷ l) = digit_of c ≡ None

pub digit-of : (d : ℕ) → d < 10 → digit_of (48 + d) ≡ Some d
unfolding digit_of
digit-of d h =
    let e : (48 + d) - 48 ≡ d = omega arith in
    rw (le-leb 48 (48 + d) (omega arith), le-leb (48 + d) 57 (omega arith), e)

more-digit : (n d : ℕ) (l : List ℕ) → d < 10 → n * 10 + d ≤ largest → parse_digits n ((48 + d) ∷ l) ≡ parse_digits (n * 10 + d) l
unfolding parse_digits
more-digit n d l p q = rw (digit-of d p, le-leb (n * 10 + d) largest q)

number_more : (fuel v : ℕ) (l : List ℕ) → v < fuel → 0 < v → v ≤ largest → parse_number (digits v ++ l) ≡ parse_digits v l
unfolding parse_number
number_more zero v l p q r = absurd (omega arith)
number_more (suc fuel) v l p q r = go (ltb v 10) refl (λ t a b c. number_more fuel (v / 10) t a b c)
  where
    go : (b : Bool) → ltb v 10 ≡ b → ((t : List ℕ) → v / 10 < fuel → 0 < v / 10 → v / 10 ≤ largest → parse_number (digits (v / 10) ++ t) ≡ parse_digits (v / 10) t) → parse_number (digits v ++ l) ≡ parse_digits v l
    go true e ih = let h : v < 10 = ltb-true v 10 e in rw (digits-small v h, digit-of v h, first_more v l (omega arith))
    go false e ih =
        let h : 10 ≤ v = ltb-false v 10 e in
        let w : v ≡ v / 10 * 10 + v % 10 = omega arith in
        let k : v % 10 < 10 = omega arith in
        rw (digits-next v h, append_assoc) (ih ((48 + v % 10) ∷ l) (omega arith) (omega arith) (omega arith) ∙ more-digit (v / 10) (v % 10) l k (omega arith) ∙ ap (λ (n : ℕ). parse_digits n l) (sym w))

more-ends : (n : ℕ) (l : List ℕ) → NoDigit l → parse_digits n l ≡ found n l
unfolding parse_digits
more-ends n [] h = refl
more-ends n (c ∷ l) h = rw h

nothing_ends : (l : List ℕ) → NoDigit l → parse_zero l ≡ found 0 l
unfolding parse_zero
nothing_ends [] h = refl
nothing_ends (c ∷ l) h = rw h

pub number-complete : (v : ℕ) (rest : List ℕ) → v ≤ largest → NoDigit rest → parse_number (digits v ++ rest) ≡ found v rest
unfolding parse_number
number-complete zero rest p h = rw (digits-small 0 (omega arith), digit-of 0 (omega arith)) (nothing_ends rest h)
number-complete (suc v) rest p h = number_more (suc (suc v)) (suc v) rest (omega arith) (omega arith) p ∙ more-ends (suc v) rest h

-- variables
pub variable-complete : (x : ℕ) (rest : List ℕ) → ValidVariable x → NoDigit rest → parse_variable (spell_variable x ++ rest) ≡ found x rest
unfolding parse_variable spell_variable parse_word
variable-complete x rest p h = rw (number-complete x rest (omega arith) h, lt-ltb x variables p)

pub variable-sound : (l : List ℕ) (x : ℕ) (u : List ℕ) → parse_variable l ≡ found x u → (l ≡ spell_variable x ++ u) × ValidVariable x
unfolding parse_variable spell_variable
variable-sound l x u e =
    after-inv (parse_word (105 ∷ []) l) _ e λ _ t e₁ f₁.
    after-inv (parse_number t) _ f₁ λ n v e₂ f₂.
    where-inv (ltb n variables) (found n v) f₂ λ lt f₃.
    let p : n ≡ x = cc in
    let q : v ≡ u = cc in
    (rw (skip-sound (105 ∷ []) l e₁, (number-sound t n v e₂).0, p, q), rw (← p) (ltb-true n variables lt))
