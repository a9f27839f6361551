-- What `relist` answers, and what it leaves in the lent list, for every program text, list of marks and list.
use Rattle.std.specs.Prelude.{◌≡◌, List, ℕ, ◌≤◌, ◌<◌, length, Result, Ok, Err}
use Rattle.language.specs.declared.Statement.{Statement}
use Rattle.program.specs.Program.{Taken}
use Rattle.listing.specs.Listing.{list_words, ListOf, Updated, Counted}
use Rattle.listing.specs.declared.Ones.{Ones}
use Rattle.marks.specs.Reading as marks
use Rattle.marks.specs.declared.Mark.{Mark}
use Rattle.rewriting.specs.Verdicts.{Verdicts, Rewritten}
use Rattle.marks.specs.declared.Refusal as marks-refusal
use Rattle.calls.specs.Refusals.{CallRefused, number_of}
use Rattle.calls.specs.declared.Refusal.{Refusal}

-- "of 256 (fewer: refusal 1)", 2,048 by Wish 13, then 2 to 5, then 9 and 10: the number of the first that applies
abbrev pub RelistRefused : List ℕ → List ℕ → List ℕ → ℕ → Type 0
RelistRefused t u list n = CallRefused (length list < list_words) (list_words ≤ length list) t (marks.Refused u) marks.number n

-- none applies: the marks ms are judged on the program P as `judge` does, vs being their verdict bytes, and Q is P with the accepted ones made
pub record RelistMade (t u old new defined used : List ℕ) : Type 0 where
  pub P : List Statement
  pub ms : List Mark
  pub vs : List ℕ
  pub Q : List Statement
  pub room : list_words ≤ length old
  pub program : Taken t P
  pub marks : marks.Taken u ms
  pub judged : Verdicts P ms vs
  pub rewritten : Rewritten P ms vs Q
  -- "every bit of a changed statement, and no other, is written as in the list made afresh"
  pub updated : Updated P Q old new
  -- "a list that was the given program's then equals it"
  pub afresh : ListOf P old → ListOf Q new
  -- "how many ones each set has, counted in the list as the call leaves it"
  pub counted : Counted new defined used

-- "A refused call answers only its number and keeps all lent memory."
abbrev pub RelistAnswers : List ℕ → List ℕ → List ℕ → List ℕ → Result Ones (Refusal marks-refusal.Refusal) → Type 0
RelistAnswers t u old new (Err r) = RelistRefused t u old (number_of marks.number r) × (new ≡ old)
RelistAnswers t u old new (Ok c) = RelistMade t u old new c.defined c.used
