-- A text names one list of variables only. Assumes nothing.
use mathlib.Core.Path.{◌≡◌, sym, ap, ◌∙◌}
use mathlib.Core.List.{List, [], ◌∷◌, ◌++◌}
use Prim.Native.Nat.{ℕ}
use native.Mathlib.Omega.{arith}
use Rattle.lines.specs.Lines.{AllValid}
use Rattle.language.specs.Spelling.{spell_variable, ValidVariable}
use Rattle.tokens.specs.Parsing.{found, parse_variable}
use Rattle.tokens.proofs.Numbers.{variable-complete}
use Rattle.driver_reader.specs.Names.{spell_more, spell_names, Named}
use Rattle.driver_reader.proofs.Reading.{more-ends}

-- the name at the front, and what follows it
front : (x y : ℕ) (xs ys : List ℕ) → ValidVariable x → ValidVariable y → spell_variable x ++ spell_more xs ≡ spell_variable y ++ spell_more ys → (x ≡ y) × (spell_more xs ≡ spell_more ys)
front x y xs ys v w e =
    let c : found x (spell_more xs) ≡ found y (spell_more ys) = sym (variable-complete x (spell_more xs) v (more-ends xs)) ∙ ap parse_variable e ∙ variable-complete y (spell_more ys) w (more-ends ys) in
    (cc c, cc c)

more-unique : (xs ys : List ℕ) → AllValid ValidVariable xs → AllValid ValidVariable ys → spell_more xs ≡ spell_more ys → xs ≡ ys
unfolding spell_more
more-unique [] [] v w e = cc
more-unique [] (y ∷ ys) v w e = let z : ◌≡◌ {A = ℕ} 0 1 = cc e in absurd (omega arith)
more-unique (x ∷ xs) [] v w e = let z : ◌≡◌ {A = ℕ} 0 1 = cc e in absurd (omega arith)
more-unique (x ∷ xs) (y ∷ ys) v w e =
    let f = front x y xs ys v.0 w.0 (cc e) in
    let r = more-unique xs ys v.1 w.1 f.1 in
    cc (f.0, r)

names-unique : (xs ys : List ℕ) → AllValid ValidVariable xs → AllValid ValidVariable ys → spell_names xs ≡ spell_names ys → xs ≡ ys
unfolding spell_names spell_variable
names-unique [] [] v w e = cc
names-unique [] (y ∷ ys) v w e = let z : ◌≡◌ {A = ℕ} 0 1 = cc e in absurd (omega arith)
names-unique (x ∷ xs) [] v w e = let z : ◌≡◌ {A = ℕ} 0 1 = cc e in absurd (omega arith)
names-unique (x ∷ xs) (y ∷ ys) v w e =
    let f = front x y xs ys v.0 w.0 e in
    let r = more-unique xs ys v.1 w.1 f.1 in
    cc (f.0, r)

pub named-unique : {t vs ws : List ℕ} → Named t vs → Named t ws → vs ≡ ws
named-unique {vs = vs} {ws = ws} a b = names-unique vs ws a.valid b.valid (sym a.text ∙ b.text)
