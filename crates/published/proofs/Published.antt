-- The text of a published condition: how it is put together, that it has room, and that a reader of conditions takes it as that
-- condition. Assumes nothing.
use mathlib.Core.Path.{◌≡◌, refl}
use mathlib.Core.List.{List, [], ◌∷◌, ◌++◌, append_assoc}
use Prim.Native.Nat.{ℕ, ◌+◌, ◌≤◌}
use native.Mathlib.Omega.{arith}
use lib.ListN.{length, length-append}
use Rattle.base.specs.Bytes.{bytes}
use Rattle.language.specs.Spelling.{spell_variable, ValidVariable, spell_expression, ValidExpression, spell}
use Rattle.language.specs.Room.{variable_room, expression_room, statement_room}
use Rattle.language.specs.declared.Operand.{Operand}
use Rattle.language.specs.declared.Expression.{Expression}
use Rattle.language.specs.declared.Expression.TheVariants.{Single}
use Rattle.language.specs.declared.Statement.TheVariants.{Assign}
use Rattle.language.proofs.Lengths.{variable-most, expression-most, statement-most}
use Rattle.condition.specs.Condition.{spell_condition, spell_atom, ValidCondition, parts}
use Rattle.condition.specs.Texts.{Taken}
use Rattle.marks.specs.Marks.{ValidMark}
use Rattle.marks.specs.declared.Mark.{Mark}
use Rattle.marks.specs.declared.Mark.TheVariants.{Rm, Rpl, Cse}
use Rattle.lockstep.specs.Rules.{live, unneeded, copied_before, computed_before, published}
use Rattle.published.specs.Published.{sure_text, published_room, live_room, published_most}

-- the words around the variables: `E[!def(`, `) U use(`, `)]`
abbrev pub live_open : List ℕ
live_open = bytes "E[!def("

abbrev pub until_use : List ℕ
until_use = bytes ") U use("

abbrev pub close : List ℕ
close = bytes ")]"

pub live-text : (x : ℕ) → spell_condition (live x) ≡ live_open ++ (spell_variable x ++ (until_use ++ (spell_variable x ++ close)))
unfolding spell_condition spell_atom
live-text x = simp append_assoc

-- `!EX `
abbrev pub not_next : List ℕ
not_next = bytes "!EX "

pub unneeded-text : (x : ℕ) → spell_condition (unneeded x) ≡ not_next ++ spell_condition (live x)
unfolding spell_condition spell_atom
unneeded-text x = simp append_assoc

pub live-short : (x : ℕ) → ValidVariable x → length (spell_condition (live x)) ≤ live_room
live-short x v = let l = variable-most x v in rw (live-text x) (simp length-append (omega arith))

-- `stmt(`; `(stmt(`, `) & trans(`, `))]`
abbrev pub stmt_open : List ℕ
stmt_open = bytes "stmt("

abbrev pub work_open : List ℕ
work_open = bytes "(stmt("

abbrev pub and_trans : List ℕ
and_trans = bytes ") & trans("

abbrev pub work_close : List ℕ
work_close = bytes "))]"

pub copied-text : (x : ℕ) (a : Operand) → spell_condition (copied_before x a) ≡ sure_text x (Single a) ++ (stmt_open ++ (spell (Assign x (Single a)) ++ close))
unfolding spell_condition spell_atom
copied-text x a = simp append_assoc

pub computed-text : (t : ℕ) (e : Expression)
    → spell_condition (computed_before t e) ≡ sure_text t e ++ (work_open ++ (spell (Assign t e) ++ (and_trans ++ (spell_expression e ++ work_close))))
unfolding spell_condition spell_atom
computed-text t e = simp append_assoc

-- what is spelled between the words is short
pub record Lengths (x : ℕ) (e : Expression) : Type 0 where
  pub variable : length (spell_variable x) ≤ variable_room
  pub expression : length (spell_expression e) ≤ expression_room
  pub assign : length (spell (Assign x e)) ≤ statement_room

pub lengths-most : (x : ℕ) (e : Expression) → ValidVariable x → ValidExpression e → Lengths x e
lengths-most x e v u = record { variable = variable-most x v; expression = expression-most e u; assign = statement-most (Assign x e) (v, u) tt }

pub sure-length : (x : ℕ) (e : Expression) → length (sure_text x e) ≡ 12 + (length (spell_variable x) + (10 + (length (spell_expression e) + 15)))
sure-length x e = simp length-append (omega arith)

-- the parts and the text of a published condition are few enough for a reader, and what it names is valid
pub published-parts : (m : Mark) → length (parts (published m)) ≤ published_most
unfolding parts
published-parts (Rm n x e) = omega arith
published-parts (Rpl n x a) = omega arith
published-parts (Cse n t e) = omega arith

pub published-short : (m : Mark) → ValidMark m → length (spell_condition (published m)) ≤ published_room
published-short (Rm n x e) v = let l = live-short x v.1 in rw (unneeded-text x) (simp length-append (omega arith))
published-short (Rpl n x a) v =
    let l = lengths-most x (Single a) v.1 v.2 in
    rw (copied-text x a) (simp length-append (omega arith))
published-short (Cse n t e) v =
    let l = lengths-most t e v.1 v.2 in
    rw (computed-text t e) (simp length-append (omega arith))

published-valid : (m : Mark) → ValidMark m → ValidCondition (published m)
published-valid (Rm n x e) v = (v.1, v.1)
published-valid (Rpl n x a) v = (((v.1, v.2), tt), (v.1, v.2))
published-valid (Cse n t e) v = (((v.1, v.2), tt), ((v.1, v.2), v.2))

pub published-taken : (m : Mark) → ValidMark m → Taken (spell_condition (published m)) (published m)
published-taken m v =
    let l = published-short m v in
    let k = published-parts m in
    record { short = omega arith; spells = record { spelling = refl; valid = published-valid m v }; few = omega arith }
