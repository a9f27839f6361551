-- What `join` answers, and what it leaves in the lent bytes, for every two texts and every bytes lent.
use Rattle.std.specs.Prelude.{◌≡◌, List, ℕ, ◌+◌, ◌-◌, ◌≤◌, ◌<◌, length, take, Result, Ok, Err}
use Rattle.language.specs.declared.Statement.{Statement}
use Rattle.statement_writer.specs.Writing.{Put}
use Rattle.program.specs.Program.{text, text_room, most, Taken}
use Rattle.program.specs.Reading as program
use Rattle.calls.specs.Refusals.{CallRefused, number_of}
use Rattle.calls.specs.declared.Refusal as calls
use Rattle.calls.specs.declared.Refusal.TheVariants.{Room, Program, Text}
use Rattle.joining.specs.Joining.{joined}
use Rattle.join.specs.Theorem.{JoinedTexts}
use Rattle.join.specs.declared.Joined.{Joined}
use Rattle.join.specs.declared.Refusal.{Refusal}
use Rattle.join.specs.declared.Refusal.TheVariants.{Creeper, Long}

-- "new text under 8,704 bytes", 34,816 by Wish 13
abbrev pub text_bytes : ℕ
text_bytes = text_room

-- once the road's text is taken: "21 when N+M-1 is above 256 [1,024 by Wish 13], after both texts have been taken, the road text first"
abbrev pub Refused : List ℕ → List ℕ → Refusal → Type 0
Refused t u (Creeper r) = program.Refused u r
Refused t u Long = (P : List Statement) × (Q : List Statement) × Taken t P × Taken u Q × (most < length P + length Q - 1)

abbrev pub number : Refusal → ℕ
number (Creeper r) = program.number r
number Long = 21

-- 1, then 2 to 5 of the road's text t, then 2 to 5 of the creeper's u, then 21: the number of the first that applies
abbrev pub JoinRefused : List ℕ → List ℕ → List ℕ → ℕ → Type 0
JoinRefused t u o n = CallRefused (length o < text_bytes) (text_bytes ≤ length o) t (Refused t u) number n

-- none applies: of the lent bytes o the joined program's text stands at the front of q, and all others are kept
pub record JoinFinished (t u o q : List ℕ) (count bytes : ℕ) : Type 0 where
  pub P : List Statement
  pub Q : List Statement
  pub room : text_bytes ≤ length o
  pub road : Taken t P
  pub creeper : Taken u Q
  pub few : length P + length Q - 1 ≤ most
  -- "one of N+M-1"
  pub counted : count ≡ length P + length Q - 1
  pub fits : length (text (joined P Q)) ≤ length o
  pub written : Put o 0 (text (joined P Q)) q bytes
  -- the theorem, of the bytes that the host holds
  pub theorem : JoinedTexts t u (take bytes q)

-- which text a refusal is about, since those of both texts have the numbers 2 to 5: the creeper's is looked at once the road's is taken
abbrev pub About : List ℕ → calls.Refusal Refusal → Type 0
About t Room = Unit
About t (Program r) = program.Refused t r
About t (Text r) = (P : List Statement) × Taken t P

-- "A refused call answers only its number and keeps all lent memory."
abbrev pub JoinAnswers : List ℕ → List ℕ → List ℕ → List ℕ → Result Joined (calls.Refusal Refusal) → Type 0
JoinAnswers t u o q (Err r) = JoinRefused t u o (number_of number r) × About t r × (q ≡ o)
JoinAnswers t u o q (Ok j) = JoinFinished t u o q j.statements j.bytes
