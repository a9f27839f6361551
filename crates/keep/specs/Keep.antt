-- What `keep` answers, and what it leaves in the lent bytes, for every bytes, name and program text.
use Rattle.std.specs.Prelude.{◌≡◌, List, ℕ, ◌+◌, ◌*◌, ◌≤◌, ◌<◌, length, Result, Ok, Err}
use Rattle.std.proofs.lemmas.List.Edits.{sets}
use Rattle.language.specs.declared.Statement.{Statement}
use Rattle.program.specs.Program.{Taken}
use Rattle.calls.specs.Refusals.{CallRefused, number_of}
use Rattle.calls.specs.declared.Refusal as call
use Rattle.stage_names.specs.Names.{name_number, ValidName}
use Rattle.stages.specs.Stages.{places, stage_bytes, place_room, written, Holds}
use Rattle.stages.specs.Choice.{Chosen, Full}
use Rattle.keep.specs.declared.Refusal.{Refusal}
use Rattle.keep.specs.declared.Refusal.TheVariants.{Misnamed, Full as NoPlace}

-- "Turned away, after any program text has been taken: 23 for a wrong name, 24 for keeping a new name where all eight places hold others"
abbrev pub Refused : List ℕ → List ℕ → Refusal → Type 0
Refused mem n Misnamed = ValidName n → ⊥
Refused mem n NoPlace = ValidName n × Full mem n

abbrev pub number : Refusal → ℕ
number Misnamed = name_number
number NoPlace = 24

-- 1, then 2 to 5, then 23, then 24: the number of the first that applies
abbrev pub KeepRefused : List ℕ → List ℕ → List ℕ → ℕ → Type 0
KeepRefused mem n t r = CallRefused (length mem < stage_bytes) (stage_bytes ≤ length mem) t (Refused mem n) number r

-- none applies: of the lent bytes mem, q has the stage written in its place, and all others are as they were
pub record KeepFinished (mem n t q : List ℕ) (told : ℕ) : Type 0 where
  pub P : List Statement
  pub k : ℕ
  pub room : stage_bytes ≤ length mem
  pub taken : Taken t P
  pub valid : ValidName n
  -- "A new name takes the first empty place. Keeping under a known name replaces that stage"
  pub inside : k < places
  pub chosen : Chosen mem n k
  -- the place is told as one of 1 to 8
  pub place : told ≡ k + 1
  pub kept : q ≡ sets mem (place_room * k) (written n t)
  -- so it is the place that then holds the name, with this text
  pub holds : Holds q k n t

-- "A refused call answers only its number and keeps all lent memory."
abbrev pub KeepAnswers : List ℕ → List ℕ → List ℕ → List ℕ → Result ℕ (call.Refusal Refusal) → Type 0
KeepAnswers mem n t q (Ok k) = KeepFinished mem n t q k
KeepAnswers mem n t q (Err r) = KeepRefused mem n t (number_of number r) × (q ≡ mem)
