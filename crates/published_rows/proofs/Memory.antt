-- The rows of published conditions, remembered by their keys. Assumes nothing.
use mathlib.Core.Path.{◌≡◌, refl, sym, ap, ap₂, ◌∙◌, subst}
use mathlib.Core.Bool.{Bool, true, false}
use mathlib.Core.List.{List, []}
use Prim.Native.Nat.{ℕ, ◌<◌}
use native.Mathlib.Omega.{arith}
use borrow.Author.Tests.{eqb-true, eqb-false}
use lib.Dec.{eqb}
use lib.ListN.{length, get_or, set, length-set}
use lib.Seq.{get_or-set_same, get_or-set_other}
use Rattle.language.specs.declared.Operand.{Operand}
use Rattle.language.specs.declared.Operator.{Operator}
use Rattle.language.specs.declared.Operator.TheVariants.{Add, Subtract, Multiply, Less, Equal, Divide}
use Rattle.language.specs.declared.Expression.{Expression}
use Rattle.language.specs.declared.Expression.TheVariants.{Single, Binary}
use Rattle.language.specs.declared.Statement.{Statement}
use Rattle.codes.specs.Codes.{code_word_count, operator_code}
use Rattle.codes.proofs.Words.{words-unique}
use Rattle.bits.specs.Row.{member, ZeroRows}
use Rattle.labelling.specs.Labels.{Labelled}
use Rattle.condition.specs.Condition.{Condition}
use Rattle.truth.specs.Truth.{SatBy}
use Rattle.table.specs.Table.{part_words}
use Rattle.marks.specs.declared.Mark.{Mark}
use Rattle.marks.specs.declared.Mark.TheVariants.{Rm, Rpl, Cse}
use Rattle.lockstep.specs.Rules.{Fits, published, unneeded, copied_before, computed_before}
use Rattle.published_rows.specs.Rows.{RowFor}
use Rattle.published_rows.specs.Memory.{key_of, Keyed, key_words, slots, Remembers}

-- a mark that fits has a key
pub fits-keyed : (m : Mark) (i : Statement) → Fits m i → Keyed m
fits-keyed (Rm n x e) i f = tt
fits-keyed (Rpl n x a) i f = tt
fits-keyed (Cse n t e) i f = f.1

-- a key's first number isn't 0
operator-some : (o : Operator) → operator_code o ≡ 0 → ⊥
operator-some Add z = omega (arith, z)
operator-some Subtract z = omega (arith, z)
operator-some Multiply z = omega (arith, z)
operator-some Less z = omega (arith, z)
operator-some Equal z = omega (arith, z)
operator-some Divide z = omega (arith, z)

key-some : (m : Mark) → Keyed m → get_or (key_words (key_of m)) 0 0 ≡ 0 → ⊥
key-some (Rm n x e) k z = omega (arith, z)
key-some (Rpl n x a) k z = omega (arith, z)
key-some (Cse n t (Single a)) k z = absurd k
key-some (Cse n t (Binary a o b)) k z = operator-some o z

-- equal keys are those of equal conditions
key-tells : (m o : Mark) → Keyed m → Keyed o → key_of m ≡ key_of o → published m ≡ published o
key-tells (Rm n x e) (Rm n' x' e') k l h = ap unneeded (cc)
key-tells (Rpl n x a) (Rpl n' x' a') k l h = ap₂ (λ (y : ℕ) (b : Operand). copied_before y b) (cc) (cc)
key-tells (Cse n t e) (Cse n' t' e') k l h = ap₂ (λ (y : ℕ) (f : Expression). computed_before y f) (cc) (cc)
key-tells (Rm n x e) (Rpl n' x' a) k l h = let z : ◌≡◌ {A = ℕ} 0 1 = cc in absurd (omega arith)
key-tells (Rpl n x a) (Rm n' x' e') k l h = let z : ◌≡◌ {A = ℕ} 0 1 = cc in absurd (omega arith)
key-tells (Rm n x e) (Cse n' t f) k l h = let z : ◌≡◌ {A = ℕ} 0 1 = cc in absurd (omega arith)
key-tells (Cse n t f) (Rm n' x e) k l h = let z : ◌≡◌ {A = ℕ} 0 1 = cc in absurd (omega arith)
key-tells (Rpl n x a) (Cse n' t (Single b)) k l h = absurd l
key-tells (Rpl n x a) (Cse n' t (Binary b o c)) k l h = let z : ◌≡◌ {A = ℕ} 0 1 = cc in absurd (omega arith)
key-tells (Cse n t (Single b)) (Rpl n' x a) k l h = absurd k
key-tells (Cse n t (Binary b o c)) (Rpl n' x a) k l h = let z : ◌≡◌ {A = ℕ} 0 1 = cc in absurd (omega arith)

-- where no key is set nothing is remembered
pub remembers-none : {U : ℕ → ℕ → Type 0} {P : List Statement} {keys memory : List (List ℕ)} → ZeroRows slots code_word_count keys → ZeroRows slots part_words memory → Remembers U P keys memory
remembers-none k r = record {
  many_keys = k.many;
  many_rows = r.many;
  right = λ i l m k' e. absurd (key-some m k' (ap (λ (w : List ℕ). get_or w 0 0) (sym e) ∙ (k.zero i l).zero 0));
}

-- one row more
pub remembers-more :
    {U : ℕ → ℕ → Type 0} {P : List Statement} {keys memory : List (List ℕ)} → Remembers U P keys memory → (m : Mark) → Keyed m → (k : List ℕ) → k ≡ key_words (key_of m)
    → (s : ℕ) → s < slots → (row : List ℕ) → RowFor U P m row → Remembers U P (set keys s k) (set memory s row)
remembers-more {U = U} {P = P} {keys = keys} {memory = memory} g m keyed k is s l row r =
    record {
      many_keys = length-set keys s k ∙ g.many_keys;
      many_rows = length-set memory s row ∙ g.many_rows;
      right = λ i h o y e. at i h o y e (eqb i s) refl;
    }
  where
    at : (i : ℕ) → i < slots → (o : Mark) → Keyed o → get_or (set keys s k) i [] ≡ key_words (key_of o) → (b : Bool) → eqb i s ≡ b → RowFor U P o (get_or (set memory s row) i [])
    at i h o y e true t =
        let q : i ≡ s = eqb-true i s t in
        let a : k ≡ key_words (key_of o) = sym (get_or-set_same keys s k [] (omega (arith, g.many_keys))) ∙ rw q at e in
        let b : published m ≡ published o = key-tells m o keyed y (words-unique (key_of m) (key_of o) (sym is ∙ a)) in
        rw (q, get_or-set_same memory s row [] (omega (arith, g.many_rows))) (subst (λ (c : Condition). Labelled (length P) (member row) (SatBy U P c)) b r.0, r.1)
    at i h o y e false t =
        let q = eqb-false i s t in
        rw (get_or-set_other memory s i row [] q) (g.right i h o y (sym (get_or-set_other keys s i k [] q) ∙ e))
