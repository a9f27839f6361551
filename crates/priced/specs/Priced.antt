-- What the report of a program and a list of marks answers, for every two texts and every table of prices: document 02, Wishes 7 and 8.
use Rattle.std.specs.Prelude.{List, ℕ, Result, Ok, Err}
use Rattle.language.specs.declared.Statement.{Statement}
use Rattle.program.specs.Program.{Taken}
use Rattle.marks.specs.Reading as marks
use Rattle.marks.specs.declared.Mark.{Mark}
use Rattle.rewriting.specs.Verdicts.{Verdicts, Rewritten}
use Rattle.pricing.specs.Prices.{in_force}
use Rattle.price_list.specs.PriceList.{Lists}
use Rattle.price_list.specs.declared.PriceList.{PriceList}
use Rattle.marks.specs.declared.Refusal as marks-refusal
use Rattle.calls.specs.Refusals.{CallRefused, number_of}
use Rattle.calls.specs.declared.Refusal.{Refusal}

-- "Order: .. 2 to 5, then .. 9 and 10": the number of the first that applies. Nothing is lent, so 1 never does
abbrev pub ReportRefused : List ℕ → List ℕ → ℕ → Type 0
ReportRefused t u n = CallRefused ⊥ Unit t (marks.Refused u) marks.number n

-- none applies: the marks ms are judged on the program P, Q is P with the accepted ones made, and l lists what both cost by the prices in force under the
-- table ps
pub record ReportListed (ps t u : List ℕ) (l : PriceList) : Type 0 where
  pub P : List Statement
  pub ms : List Mark
  pub vs : List ℕ
  pub Q : List Statement
  pub program : Taken t P
  pub marks : marks.Taken u ms
  pub judged : Verdicts P ms vs
  pub rewritten : Rewritten P ms vs Q
  pub listed : Lists (in_force ps) P Q l

abbrev pub ReportAnswers : List ℕ → List ℕ → List ℕ → Result PriceList (Refusal marks-refusal.Refusal) → Type 0
ReportAnswers ps t u (Err r) = ReportRefused t u (number_of marks.number r)
ReportAnswers ps t u (Ok l) = ReportListed ps t u l
