-- What `list` answers, and what it leaves in the lent list, for every program text and list.
use Rattle.std.specs.Prelude.{◌≡◌, ◌⊎◌, List, ℕ, ◌≤◌, ◌<◌, length, get_or, Result, Ok, Err}
use Rattle.language.specs.declared.Statement.{Statement}
use Rattle.program.specs.Program.{Taken}
use Rattle.program.specs.Reading as program
use Rattle.program.specs.declared.Refusal as program-refusal
use Rattle.listing.specs.Listing.{list_words, ListOf, Counted}
use Rattle.listing.specs.declared.Ones.{Ones}
use Rattle.list.specs.declared.Refusal.{Refusal}
use Rattle.list.specs.declared.Refusal.TheVariants.{Room, Program}
use Rattle.calls.specs.Refusals.{room_number}

abbrev pub number : Refusal → ℕ
number Room = room_number
number (Program r) = program.number r

-- "of 256 (fewer: refusal 1)", 2,048 by Wish 13, then 2 to 5: the number of the first that applies
abbrev pub ListRefused : List ℕ → List ℕ → ℕ → Type 0
ListRefused t list n =
    ((length list < list_words) × (n ≡ room_number))
    ⊎ ((list_words ≤ length list) × (r : program-refusal.Refusal) × program.Refused t r × (n ≡ program.number r))

-- none applies: the list is that of the program P, with the ones of each set beside it
pub record ListMade (t old new defined used : List ℕ) : Type 0 where
  pub P : List Statement
  pub room : list_words ≤ length old
  pub program : Taken t P
  pub made : ListOf P new
  -- "A finished call keeps all words .. beyond those it fills."
  pub same : length new ≡ length old
  pub past : (m : ℕ) → list_words ≤ m → get_or new m 0 ≡ get_or old m 0
  pub counted : Counted new defined used

-- "A refused call answers only its number and keeps all lent memory."
abbrev pub ListAnswers : List ℕ → List ℕ → List ℕ → Result Ones Refusal → Type 0
ListAnswers t old new (Err r) = ListRefused t old (number r) × (new ≡ old)
ListAnswers t old new (Ok c) = ListMade t old new c.defined c.used
