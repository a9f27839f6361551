-- What `force` answers, and what it leaves in the lent table, for every program text, driver's list, condition text and table.
use Rattle.std.specs.Prelude.{◌≡◌, List, ℕ, ◌≤◌, ◌<◌, length, get_or, replicate, Result, Ok, Err}
use Rattle.program.specs.Program.{most}
use Rattle.truth.specs.Truth.{Sat}
use Rattle.condition_reader.specs.Reading as condition-reading
use Rattle.calls.specs.Refusals.{CallRefused, number_of}
use Rattle.calls.specs.declared.Refusal.{Refusal}
use Rattle.driver_reader.specs.Names.{driver_number, among, Named, Unnamed}
use Rattle.arms.specs.Arms.{his}
use Rattle.arms.specs.Forced.{Forced}
use Rattle.tabulate.specs.Tabulate.{table_words, TabulateFilled}
use Rattle.tabulate.specs.declared.Filled.{Filled}
use Rattle.force.specs.declared.Forced as Answer
use Rattle.force.specs.declared.TextRefusal.{TextRefusal}
use Rattle.force.specs.declared.TextRefusal.TheVariants.{Driver, Condition}

-- "22 .., after the program is taken and before the condition is read"
abbrev pub number : TextRefusal → ℕ
number Driver = driver_number
number (Condition r) = condition-reading.number r

-- the driver's list d and the condition's text u get this refusal
abbrev pub TextRefused : List ℕ → List ℕ → TextRefusal → Type 0
TextRefused d u Driver = Unnamed d
TextRefused d u (Condition r) = ((vs : List ℕ) × Named d vs) × condition-reading.Refused u r

-- 1, then 2 to 5, then 22, then 6 to 8: the number of the first that applies
abbrev pub ForceRefused : List ℕ → List ℕ → List ℕ → List ℕ → ℕ → Type 0
ForceRefused t d u table n = CallRefused (length table < table_words) (table_words ≤ length table) t (TextRefused d u) number n

-- what is told beside the answer, an entry for each statement there can be: "the least number he can be sure of", 4294967295 where he can't
-- force p, and the arm, 0 for none, 1 for `goto`, 2 for `else`
pub record Beside : Type 0 where
  pub numbers : List ℕ
  pub arms : List ℕ

-- none is told yet
abbrev pub blank : Beside
blank = record { numbers = replicate most 0; arms = replicate most 0 }

-- the entries from n on are kept
pub record Beyond (n : ℕ) (before after : Beside) : Type 0 where
  pub sizes : (length after.numbers ≡ length before.numbers) × (length after.arms ≡ length before.arms)
  pub kept : (s : ℕ) → n ≤ s → (get_or after.numbers s 0 ≡ get_or before.numbers s 0) × (get_or after.arms s 0 ≡ get_or before.arms s 0)

-- none applies: what the driver, with the variables vs, can force on the program
pub record ForceFilled (t d u old new : List ℕ) (count satisfied first : ℕ) (before after : Beside) : Type 0 where
  -- "The lent table is filled as for p alone."
  pub table : TabulateFilled t u old new count satisfied first
  pub vs : List ℕ
  pub named : Named d vs
  -- "whether the driver can bring about p in some number of steps, however the unit answers, and the least number he can be sure of", and the
  -- arms
  pub forced : Forced table.P (his table.P (among vs)) (Sat table.P table.c) after.numbers after.arms
  pub beyond : Beyond (length table.P) before after

-- "A refused call answers only its number and keeps all lent memory."
abbrev pub ForceAnswers : List ℕ → List ℕ → List ℕ → List ℕ → List ℕ → Result Filled (Refusal TextRefusal) → Beside → Beside → Type 0
ForceAnswers t d u old new (Err r) before after = ForceRefused t d u old (number_of number r) × (new ≡ old) × (after ≡ before)
ForceAnswers t d u old new (Ok f) before after = ForceFilled t d u old new f.parts f.satisfied f.first before after

-- the same where what is told stands beside the counts, from blank entries
abbrev pub Forces : List ℕ → List ℕ → List ℕ → List ℕ → List ℕ → Result Answer.Forced (Refusal TextRefusal) → Type 0
Forces t d u old new (Err r) = ForceAnswers t d u old new (Err r) blank blank
Forces t d u old new (Ok f) = ForceAnswers t d u old new (Ok f.filled) blank (record { numbers = f.number; arms = f.arm })
