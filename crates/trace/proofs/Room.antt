-- How long the parts of a trace's line are, and that a line has room in line-room bytes. Assumes nothing.
use mathlib.Core.Path.{◌≡◌, refl}
use mathlib.Core.List.{List, [], ◌∷◌, ◌++◌}
use mathlib.Core.Bool.{Bool, true, false}
use Prim.Native.Nat.{ℕ, ◌+◌, ◌^◌, ◌≤◌, ◌<◌}
use native.Mathlib.Omega.{arith}
use lib.Dec.{eqb}
use lib.ListN.{length, get_or, length-append}
use Rattle.language.specs.Spelling.{spell_constant, spell_variable, ValidVariable, spell, Valid}
use Rattle.base.specs.Pick.{pick}
use Rattle.language.specs.declared.Statement.{Statement}
use Rattle.language.specs.declared.Statement.TheVariants.{Read, Write, Assign, Branch, Skip}
use Rattle.language.proofs.Lengths.{digits-length, number-most, constant-most, variable-most}
use Rattle.program.specs.Program.{most, Targets}
use Rattle.desk.specs.Columns.{number_columns, statement_columns, spaces, wide, padded}
use Rattle.program.proofs.Lengths.{statement-short}
use Rattle.desk.proofs.Lengths.{wide-length, padded-length}
use Rattle.trace.specs.Trace.{value_text, column_heads, as_before, assigned, assignment, step_columns, step_head, line_text}
use Rattle.trace.specs.Stepping.{head_room, value_room, assigned_room, line_room, heads_room}

pub heads-length : length column_heads ≡ heads_room
unfolding column_heads
heads-length = refl

pub value-length : (x v : ℕ) → length (value_text x v) ≡ length (spell_variable x) + (3 + length (spell_constant v))
unfolding value_text
value-length x v = simp length-append (omega arith)

pub value-most : (x v : ℕ) → ValidVariable x → length (value_text x v) ≤ value_room
value-most x v h = omega (arith, value-length x v, variable-most x h, constant-most v)

assigned-most : (x : ℕ) (vs us : List ℕ) → ValidVariable x → length (assigned x vs us) ≤ assigned_room
unfolding assigned
assigned-most x vs us h = go (eqb (get_or vs x 0) (get_or us x 0))
  where
    go : (b : Bool) → length (spaces 2 ++ (value_text x (get_or us x 0) ++ pick b as_before [])) ≤ assigned_room
    go true = rw (length-append (value_text x (get_or us x 0)) as_before) (omega (arith, value-most x (get_or us x 0) h))
    go false = rw (length-append (value_text x (get_or us x 0)) []) (omega (arith, value-most x (get_or us x 0) h))

pub assignment-most : (x : Statement) (vs us : List ℕ) → Valid x → length (assignment x vs us) ≤ assigned_room
assignment-most (Read x) vs us h = assigned-most x vs us h
assignment-most (Write x) vs us h = omega arith
assignment-most (Assign x e) vs us h = assigned-most x vs us h.0
assignment-most (Branch x n m) vs us h = omega arith
assignment-most Skip vs us h = omega arith

pub head-length : (k s : ℕ) (x : Statement) → length (step_head k s x) ≡ length (wide step_columns k) + (2 + (length (wide number_columns (s + 1)) + (2 + length (padded statement_columns (spell x)))))
unfolding step_head
head-length k s x = simp length-append (omega arith)

pub text-most : (x : Statement) → Valid x → Targets most x → length (padded statement_columns (spell x)) ≤ statement_columns
text-most x v t = omega (arith, padded-length statement_columns (spell x), statement-short most x (omega arith) v t)

pub head-most : (k s : ℕ) (x : Statement) → k < 2 ^ 32 → s < most → Valid x → Targets most x → length (step_head k s x) ≤ head_room
head-most k s x h l v t =
    omega (arith, head-length k s x, wide-length step_columns k, wide-length number_columns (s + 1), number-most k h, digits-length number_columns (s + 1) (omega arith) (omega arith), text-most x v t)

pub line-most : (k s : ℕ) (x : Statement) (w : List ℕ) → k < 2 ^ 32 → s < most → Valid x → Targets most x → length w ≤ assigned_room → length (line_text k s x w) ≤ line_room
unfolding line_text
line-most k s x w h l v t short = rw (length-append (step_head k s x) (w ++ 10 ∷ []), length-append w (10 ∷ [])) (omega (arith, head-most k s x h l v t))
