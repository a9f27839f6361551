-- The places at which each variable is live: those from which the program may still use it before defining it.
use Rattle.std.specs.Prelude.{◌≡◌, List, ℕ, ◌*◌, ◌<◌, length, replicate}
use Rattle.language.specs.Spelling.{variables}
use Rattle.language.specs.declared.Statement.{Statement}
use Rattle.program.specs.Program.{Taken}
use Rattle.bits.specs.Row.{member}
use Rattle.labelling.specs.Labels.{Labelled}
use Rattle.truth.specs.Truth.{uses_of, SatBy}
use Rattle.table.specs.Table.{part_words, row}
use Rattle.lockstep.specs.Rules.{live}

-- a row for each variable, one after the other: the code's LIVE_WORDS
abbrev pub live_words : ℕ
live_words = part_words * variables

-- row x has the places of P at which `E[!def(x) U use(x)]` is true, where variables count as used as U says
abbrev pub LiveAt : (ℕ → ℕ → Type 0) → List Statement → List ℕ → ℕ → Type 0
LiveAt U P ws x = Labelled (length P) (member (row ws x)) (SatBy U P (live x))

-- by P's own uses, of every variable
pub record LiveRows (P : List Statement) (ws : List ℕ) : Type 0 where
  pub size : length ws ≡ live_words
  pub rows : (x : ℕ) → x < variables → LiveAt (uses_of P) P ws x

-- the rows of the program that the text t is taken as; zeros where it isn't taken
pub record LiveIn (t ws : List ℕ) : Type 0 where
  pub taken : (P : List Statement) → Taken t P → LiveRows P ws
  pub refused : ((P : List Statement) → Taken t P → ⊥) → ws ≡ replicate live_words 0
