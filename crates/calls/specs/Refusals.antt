-- Refusal 1, and the order of the refusals of a call that takes a program's text and a second one.
use Rattle.std.specs.Prelude.{◌≡◌, ◌⊎◌, List, ℕ}
use Rattle.language.specs.declared.Statement.{Statement}
use Rattle.program.specs.Program.{Taken}
use Rattle.program.specs.Reading as program
use Rattle.program.specs.declared.Refusal as program-refusal
use Rattle.calls.specs.declared.Refusal.{Refusal}
use Rattle.calls.specs.declared.Refusal.TheVariants.{Room, Program, Text}

-- "1: table under 256 words, verdicts under 256 bytes or new text under 8,704 bytes.", by document 02 1,024 words, 1,024 and 34,816 bytes
abbrev pub room_number : ℕ
room_number = 1

-- the number of a call's refusal, where the second text's have numbers
abbrev pub number_of : {R : Type 0} → (R → ℕ) → Refusal R → ℕ
number_of number Room = room_number
number_of number (Program r) = program.number r
number_of number (Text r) = number r

-- "Order: 1, .. then 2 to 5, then 6 to 8 or 9 and 10": the number of the first that applies, where too little or enough is lent, t is the
-- program's text, and `Refused` says which refusals apply to the second text
abbrev pub CallRefused : Type 0 → Type 0 → List ℕ → {R : Type 0} → (R → Type 0) → (R → ℕ) → ℕ → Type 0
CallRefused Short Enough t {R} Refused number n =
    (Short × (n ≡ room_number))
    ⊎ ((Enough × (r : program-refusal.Refusal) × program.Refused t r × (n ≡ program.number r))
    ⊎ (Enough × (P : List Statement) × Taken t P × (r : R) × Refused r × (n ≡ number r)))
