-- A statement's code as words. Assumes nothing.
use mathlib.Core.Path.{◌≡◌, ap}
use mathlib.Core.List.{List}
use Prim.Native.Nat.{ℕ}
use lib.ListN.{get_or}
use Rattle.language.specs.declared.Statement.{Statement}
use Rattle.codes.specs.Codes.{statement_code, code_words}
use Rattle.codes.specs.declared.Code.{Code}
use Rattle.codes.proofs.Codes.{code-unique}

-- the code that words are of
abbrev code_at : List ℕ → Code
code_at l = record { kind = get_or l 0 0; first = get_or l 1 0; second = get_or l 2 0; third = get_or l 3 0 }

pub words-unique : (s t : Statement) → code_words (statement_code s) ≡ code_words (statement_code t) → s ≡ t
words-unique s t e = code-unique s t (ap code_at e)
