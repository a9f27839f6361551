-- How long the parts of an outcome are. Assumes nothing.
use mathlib.Core.Path.{refl}
use mathlib.Core.List.{List, [], ◌∷◌, ◌++◌}
use Prim.Native.Nat.{ℕ, ◌^◌, ◌≤◌, ◌<◌}
use native.Mathlib.Omega.{arith}
use lib.ListN.{length, get_or, length-append}
use Rattle.language.specs.Spelling.{variables}
use Rattle.desk.specs.Refusals.{refusal_text}
use Rattle.desk.proofs.Rooms.{refusal-most}
use Rattle.trace.specs.Trace.{value_text}
use Rattle.trace.proofs.Room.{value-most}
use Rattle.statement_writer.proofs.Series.{Parts}
use Rattle.outcome.specs.Outcome.{value_lines, value_line_room, outcome_room}

-- a line for each variable
abbrev pub value_line : List ℕ → ℕ → List ℕ
value_line vs n = value_text n (get_or vs n 0) ++ 10 ∷ []

pub lines-parts : (vs : List ℕ) → Parts (λ n. value_lines n vs) (value_line vs) variables value_line_room
unfolding value_lines
lines-parts vs =
    record {
      none = refl;
      more = λ n. refl;
      short = λ n h. omega (arith, length-append (value_text n (get_or vs n 0)) (10 ∷ []), value-most n (get_or vs n 0) h);
    }

pub refused-most : (n line : ℕ) → n < 2 ^ 8 → line < 2 ^ 32 → length (refusal_text n line) ≤ outcome_room
refused-most n line h l = omega (arith, refusal-most n line h l)
