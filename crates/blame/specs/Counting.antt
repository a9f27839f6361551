-- What counting a text's lines tells. A proof device: it promises nothing by itself.
use Rattle.std.specs.Prelude.{◌≡◌, List, ℕ, length, Result, Ok, Err}
use Rattle.language.specs.declared.Statement.{Statement}
use Rattle.program.specs.Program.{Spells}
use Rattle.blame.specs.Blame.{FirstMisspelled}

abbrev pub CountTold : List ℕ → Result ℕ ℕ → Type 0
CountTold t (Ok n) = (P : List Statement) × Spells t P × (n ≡ length P)
CountTold t (Err n) = FirstMisspelled t n
