-- How long the parts of a line of two traces are, and that a line has room in line-room bytes. Assumes nothing.
use mathlib.Core.Path.{◌≡◌, refl}
use mathlib.Core.List.{List, []}
use mathlib.Core.Bool.{Bool, true, false}
use Prim.Native.Nat.{ℕ, ◌+◌, ◌-◌, ◌^◌, ◌≤◌, ◌<◌}
use native.Mathlib.Omega.{arith}
use lib.Dec.{eqb}
use lib.ListN.{length, get_or, length-append}
use Rattle.language.specs.Spelling.{variables, spell_constant, spell_variable, ValidVariable, spell, Valid}
use Rattle.base.specs.Pick.{pick}
use Rattle.language.specs.declared.Statement.{Statement}
use Rattle.language.proofs.Lengths.{constant-most, variable-most}
use Rattle.program.specs.Program.{most, Targets}
use Rattle.desk.specs.Columns.{statement_columns, spaces, padded}
use Rattle.desk.proofs.Lengths.{padded-length, padded-put}
use Rattle.statement_writer.specs.Writing.{Put}
use Rattle.statement_writer.proofs.Puts.{put-length}
use Rattle.trace.specs.Trace.{step_head}
use Rattle.trace.proofs.Room.{text-most, head-most}
use Rattle.statement_writer.proofs.Series.{Parts, parts-most}
use Rattle.comparison.specs.Lines.{differs_columns, value_columns, pair_text, difference, differences, pair_line}
use Rattle.comparison.specs.Stepping.{pair_room, line_room}

-- a text that its columns have room for fills them
pub column-length : (w : ℕ) (xs : List ℕ) → length xs ≤ w → length (padded w xs) ≡ w
column-length w xs h = omega (arith, padded-length w xs)

-- a text and spaces up to the end of its columns
module _ {o q xs : List ℕ} {at k : ℕ} (w : ℕ) (a : Put o at xs q k) (h : length xs ≤ w) where
  pub column-room : at + w ≤ length o → k + ((at + w) - k) ≤ length q
  column-room l = omega (arith, a.after, put-length a)

  pub column-put : {p : List ℕ} {r : ℕ} → Put q k (spaces ((at + w) - k)) p r → Put o at (padded w xs) p r × (r ≡ at + w)
  column-put b =
      let put = padded-put w a (let e : (at + w) - k ≡ w - (k - at) = omega (arith, a.after) in e) b in
      (put, omega (arith, put.after, column-length w xs h))

pair-length : (x v w : ℕ) → length (pair_text x v w)
    ≡ 2 + (length (padded differs_columns (spell_variable x)) + (2 + (length (padded value_columns (spell_constant v)) + (2 + length (padded value_columns (spell_constant w))))))
unfolding pair_text
pair-length x v w = simp length-append (omega arith)

pub pair-most : (x v w : ℕ) → ValidVariable x → length (pair_text x v w) ≤ pair_room
pair-most x v w h =
    omega (
      arith,
      pair-length x v w,
      column-length differs_columns (spell_variable x) (omega (arith, variable-most x h)),
      column-length value_columns (spell_constant v) (constant-most v),
      column-length value_columns (spell_constant w) (constant-most w),
    )

difference-most : (x : ℕ) (vs ws : List ℕ) → ValidVariable x → length (difference x vs ws) ≤ pair_room
unfolding difference
difference-most x vs ws h = go (eqb (get_or vs x 0) (get_or ws x 0))
  where
    go : (b : Bool) → length (pick b [] (pair_text x (get_or vs x 0) (get_or ws x 0))) ≤ pair_room
    go true = omega arith
    go false = pair-most x (get_or vs x 0) (get_or ws x 0) h

pub differences-parts : (vs ws : List ℕ) → Parts (λ n. differences n vs ws) (λ n. difference n vs ws) variables pair_room
unfolding differences
differences-parts vs ws = record { none = refl; more = λ n. refl; short = λ n h. difference-most n vs ws h }

line-length : (k s : ℕ) (x y : Statement) (vs ws : List ℕ)
    → length (pair_line k s x y vs ws) ≡ length (step_head k s x) + (2 + (length (padded statement_columns (spell y)) + (length (differences variables vs ws) + 1)))
unfolding pair_line
line-length k s x y vs ws = simp length-append (omega arith)

pub line-most : (k s : ℕ) (x y : Statement) (vs ws : List ℕ) → k < 2 ^ 32 → s < most → Valid x × Targets most x → Valid y × Targets most y
    → length (pair_line k s x y vs ws) ≤ line_room
line-most k s x y vs ws h l a b =
    omega (arith, line-length k s x y vs ws, head-most k s x h l a.0 a.1, text-most y b.0 b.1, parts-most (differences-parts vs ws) variables (omega arith))
