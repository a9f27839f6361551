-- Reading undoes spelling, and the other way round: the lines of a start. Assumes nothing.
use mathlib.Core.Path.{◌≡◌, refl, ap, sym, ◌∙◌}
use mathlib.Core.List.{List, [], ◌∷◌, ◌++◌, append_assoc}
use mathlib.Core.Bool.{Bool, true, false}
use Prim.Native.Nat.{ℕ, ◌+◌, ◌^◌, ◌≤◌, ◌<◌}
use native.Mathlib.Omega.{arith}
use lib.Dec.{eqb, leb, ltb}
use borrow.Author.Tests.{ltb-true, lt-ltb, leb-true, le-leb}
use Rattle.base.specs.Bytes.{bytes}
use Rattle.language.specs.Spelling.{digits, spell_constant, spell_variable}
use Rattle.base.specs.Pick.{pick}
use Rattle.tokens.specs.Parsing.{Parsed, found, misspelled, after, where?, either, parse_word, digit_of, parse_number, parse_constant, parse_variable}
use Rattle.tokens.proofs.Numbers.{NoDigit, number-sound, number-complete, variable-sound, variable-complete}
use Rattle.tokens.proofs.Constants.{constant-sound, constant-complete}
use Rattle.tokens.proofs.Parse.{after-inv, where-inv, either-inv, skip-sound}
use Rattle.start.specs.Start.{fewest, most, spell_line, RightLine}
use Rattle.start.specs.Parsing.{parse_number_of, parse_plain, parse_named, parse_field}
use Rattle.start.specs.declared.Entry.{Entry}
use Rattle.start.specs.declared.Entry.TheVariants.{Plain, Named}

-- number k
number-of-sound : (k : ℕ) (l : List ℕ) (v : ℕ) (rest : List ℕ) → parse_number_of k l ≡ found v rest
    → (l ≡ pick (eqb k 1) (digits v) (spell_constant v) ++ rest) × (v < pick (eqb k 1) (2 ^ 31) (2 ^ 32))
unfolding parse_number_of
number-of-sound k l v rest e = go (eqb k 1) e
  where
    go : (b : Bool) → pick b (parse_number l) (parse_constant l) ≡ found v rest
        → (l ≡ pick b (digits v) (spell_constant v) ++ rest) × (v < pick b (2 ^ 31) (2 ^ 32))
    go true p = let h = number-sound l v rest p in (h.0, omega (arith, h.1))
    go false p = constant-sound l v rest p

number-of-complete : (k v : ℕ) (rest : List ℕ) → v < pick (eqb k 1) (2 ^ 31) (2 ^ 32) → NoDigit rest
    → parse_number_of k (pick (eqb k 1) (digits v) (spell_constant v) ++ rest) ≡ found v rest
unfolding parse_number_of
number-of-complete k v rest r h = go (eqb k 1) r
  where
    go : (b : Bool) → v < pick b (2 ^ 31) (2 ^ 32)
        → pick b (parse_number (pick b (digits v) (spell_constant v) ++ rest)) (parse_constant (pick b (digits v) (spell_constant v) ++ rest)) ≡ found v rest
    go true p = number-complete v rest (omega arith) h
    go false p = constant-complete v rest p h

-- what a line has, without its byte 10
abbrev Sound : ℕ → List ℕ → Entry → List ℕ → Type 0
Sound k l e rest = (l ≡ spell_line k e ++ rest) × RightLine k e

plain-sound : (k : ℕ) (l : List ℕ) (e : Entry) (rest : List ℕ) → parse_plain k l ≡ found e rest → Sound k l e rest
unfolding parse_plain
plain-sound k l e rest p =
    where-inv (ltb k most) (after (parse_number_of k l) λ v t. found (Plain v) t) p λ h q.
    after-inv (parse_number_of k l) (λ v t. found (Plain v) t) q λ v t a b.
    (let s = number-of-sound k l v t a in
    let x : Plain v ≡ e = cc in
    let y : t ≡ rest = cc in
    rw (← x, ← y) (s.0, (ltb-true k most h, s.1)))

named-sound : (k : ℕ) (l : List ℕ) (e : Entry) (rest : List ℕ) → parse_named k l ≡ found e rest → Sound k l e rest
unfolding parse_named
named-sound k l e rest p =
    where-inv (leb fewest k) _ p λ h q.
    after-inv (parse_variable l) _ q λ x t a b.
    where-inv (leb k (2 + x)) _ b λ i c.
    after-inv (parse_word (bytes " = ") t) _ c λ _ u d f.
    after-inv (parse_constant u) _ f λ v w g j.
    (let s = variable-sound l x t a in
    let z = constant-sound u v w g in
    let m : Named x v ≡ e = cc in
    let n : w ≡ rest = cc in
    rw (← m, ← n) (
      s.0 ∙ ap (λ (r : List ℕ). spell_variable x ++ r) (skip-sound (bytes " = ") t d ∙ ap (λ (r : List ℕ). bytes " = " ++ r) z.0)
          ∙ sym (append_assoc (spell_variable x) (bytes " = " ++ spell_constant v) w),
      (leb-true fewest k h, leb-true k (2 + x) i, s.1, z.1),
    ))

pub field-sound : (k : ℕ) (l : List ℕ) (e : Entry) (rest : List ℕ) → parse_field k l ≡ found e rest → Sound k l e rest
unfolding parse_field
field-sound k l e rest p = either-inv (parse_plain k l) (parse_named k l) p (plain-sound k l e rest) (named-sound k l e rest)

-- a name doesn't begin as a number does
no_number : (k x : ℕ) (rest : List ℕ) → parse_number_of k (spell_variable x ++ rest) ≡ misspelled
unfolding parse_number_of parse_number parse_constant parse_word digit_of spell_variable
no_number k x rest = go (eqb k 1)
  where
    go : (b : Bool) → pick b (parse_number (spell_variable x ++ rest)) (parse_constant (spell_variable x ++ rest)) ≡ misspelled
    go true = refl
    go false = refl

no_plain : (b : Bool) (k x : ℕ) (rest : List ℕ) → where? b (after (parse_number_of k (spell_variable x ++ rest)) λ v t. found (Plain v) t) ≡ misspelled
no_plain true k x rest = rw (no_number k x rest)
no_plain false k x rest = refl

pub field-complete : (k : ℕ) (e : Entry) (rest : List ℕ) → RightLine k e → NoDigit rest → parse_field k (spell_line k e ++ rest) ≡ found e rest
unfolding parse_field parse_plain parse_named parse_word digit_of
field-complete k (Plain v) rest r h = rw (lt-ltb k most r.0, number-of-complete k v rest r.1 h)
field-complete k (Named x v) rest r h =
    let l = spell_variable x ++ (bytes " = " ++ (spell_constant v ++ rest)) in
    let e : (spell_variable x ++ (bytes " = " ++ spell_constant v)) ++ rest ≡ l = append_assoc (spell_variable x) (bytes " = " ++ spell_constant v) rest in
    rw (
      e,
      no_plain (ltb k most) k x (bytes " = " ++ (spell_constant v ++ rest)),
      le-leb fewest k r.0,
      variable-complete x (bytes " = " ++ (spell_constant v ++ rest)) r.2 refl,
      le-leb k (2 + x) r.1,
      constant-complete v rest r.3 h,
    )
