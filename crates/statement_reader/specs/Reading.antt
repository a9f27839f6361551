-- What it means that a line was read right.
use Rattle.std.specs.Prelude.{List, ℕ, drop, Option, Some, None}
use Rattle.lines.specs.Lines as lines
use Rattle.language.specs.Spelling.{spell, Valid}
use Rattle.language.specs.declared.Statement.{Statement}

-- `Some`: the valid statement r.0 has the line from `at` to r.1; `None`: no valid statement's line stands there
abbrev pub LineRead : List ℕ → ℕ → Option (Statement × ℕ) → Type 0
LineRead s at (Some r) = lines.LineOf spell Valid s at r.0 r.1
LineRead s at None = lines.NoLine spell Valid (drop at s)
