-- A condition's parts: how many there are, and how long their texts. Assumes nothing.
use mathlib.Core.Path.{◌≡◌, refl}
use mathlib.Core.List.{List, [], ◌∷◌, ◌++◌, append_assoc}
use Prim.Native.Nat.{ℕ, ◌+◌, ◌-◌, ◌≤◌, ◌<◌}
use native.Mathlib.Omega.{arith}
use lib.ListN.{length, get_or, length-append}
use lib.Seq.{get_or-append_seam}
use Rattle.condition.specs.declared.Atom.{Atom}
use Rattle.condition.specs.declared.Atom.TheVariants.{True, False, Entry, Exit, Node, Stmt, Def, Use, Trans}
use Rattle.condition.specs.Condition.{Unary, negation, Binary, conjunction, disjunction, Condition, atom, unary, binary, prefix, opening, middle, closing, spell_atom, spell_condition, parts}

pub atom-longer : (a : Atom) → 0 < length (spell_atom a)
unfolding spell_atom
atom-longer True = omega arith
atom-longer False = omega arith
atom-longer Entry = omega arith
atom-longer Exit = omega arith
atom-longer (Node n) = omega arith
atom-longer (Stmt i) = omega arith
atom-longer (Def x) = omega arith
atom-longer (Use x) = omega arith
atom-longer (Trans e) = omega arith

pub prefix-longer : (o : Unary) → 0 < length (prefix o)
prefix-longer negation = omega arith
prefix-longer (Unary.path k d o) = omega arith

pub opening-longer : (o : Binary) → 0 < length (opening o)
opening-longer conjunction = omega arith
opening-longer disjunction = omega arith
opening-longer (Binary.path k d o) = omega arith

-- an operator's text is as long as its pieces
pub unary-length : (o : Unary) (p : Condition) → length (spell_condition (unary o p)) ≡ length (prefix o) + length (spell_condition p)
unfolding spell_condition
unary-length o p = length-append (prefix o) (spell_condition p)

pub binary-length : (o : Binary) (p q : Condition)
    → length (spell_condition (binary o p q)) ≡ length (opening o) + (length (spell_condition p) + (length (middle o) + (length (spell_condition q) + length (closing o))))
unfolding spell_condition
binary-length o p q = simp length-append

-- each part has a byte of its own
pub parts-few : (c : Condition) → (0 < length (parts c)) × (length (parts c) ≤ length (spell_condition c))
unfolding parts spell_condition
parts-few (atom a) = omega (arith, atom-longer a)
parts-few (unary o p) = omega (arith, parts-few p, prefix-longer o, length-append (parts p) (unary o p ∷ []), unary-length o p)
parts-few (binary o p q) =
    let m : length (parts (binary o p q)) ≡ length (parts p) + (length (parts q) + 1) = simp length-append in
    omega (arith, parts-few p, parts-few q, opening-longer o, binary-length o p q)

-- part k of the parts ps
abbrev pub part : List Condition → ℕ → Condition
part ps k = get_or ps k (atom True)

-- the whole condition is its own last part
pub parts_last : (c : Condition) → part (parts c) (length (parts c) - 1) ≡ c
unfolding parts
parts_last (atom a) = refl
parts_last (unary o p) = ends (parts p) (unary o p)
  where
    ends : (ps : List Condition) (c : Condition) → part (ps ++ c ∷ []) (length (ps ++ c ∷ []) - 1) ≡ c
    ends ps c = let e : length (ps ++ c ∷ []) - 1 ≡ length ps = rw length-append (omega arith) in rw e (get_or-append_seam ps c [] (atom True))
parts_last (binary o p q) = ends (parts p) (parts q) (binary o p q)
  where
    ends : (ps qs : List Condition) (c : Condition) → part (ps ++ (qs ++ c ∷ [])) (length (ps ++ (qs ++ c ∷ [])) - 1) ≡ c
    ends ps qs c =
        let e : length (ps ++ (qs ++ c ∷ [])) - 1 ≡ length (ps ++ qs) = simp length-append (omega arith) in
        rw (e, ← append_assoc ps qs (c ∷ [])) (get_or-append_seam (ps ++ qs) c [] (atom True))
