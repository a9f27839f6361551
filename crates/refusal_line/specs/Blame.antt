-- Which line a refusal of a program's text or of a list of marks is about.
use Rattle.std.specs.Prelude.{◌≡◌, List, ℕ}
use Rattle.program.specs.Reading as program
use Rattle.program.specs.declared.Refusal as program-refusal
use Rattle.marks.specs.Reading as marks
use Rattle.marks.specs.declared.Refusal.{Refusal}
use Rattle.marks.specs.declared.Refusal.TheVariants.{Misspelled}
use Rattle.blame.specs.Blame as blame
use Rattle.mark_blame.specs.Blame as mark-blame

-- the line told of any program text t and any list u for the refusal with number n, whether or not they get it
pub record NumberTold (t u : List ℕ) (n line : ℕ) : Type 0 where
  pub listed : n ≡ marks.number Misspelled → mark-blame.LineTold u line
  pub told : (n ≡ marks.number Misspelled → ⊥) → blame.NumberTold t n line

-- the refusal with number n of the program text t or of the list u is about this line; 0 where no refusal of the two has that number
pub record Blamed (t u : List ℕ) (n line : ℕ) : Type 0 where
  pub about : (r : program-refusal.Refusal) → n ≡ program.number r → program.Refused t r → blame.Blames t r line
  pub listed : (r : Refusal) → n ≡ marks.number r → marks.Refused u r → mark-blame.Blames u r line
  pub other : ((r : program-refusal.Refusal) → n ≡ program.number r → ⊥) → ((r : Refusal) → n ≡ marks.number r → ⊥) → line ≡ 0
