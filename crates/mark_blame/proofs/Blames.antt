-- From the line told of a list to the line that its refusal is about, which is one line only. Assumes nothing.
use mathlib.Core.Path.{◌≡◌, sym, ◌∙◌}
use mathlib.Core.List.{List}
use Prim.Native.Nat.{ℕ}
use Rattle.line_number.proofs.First.{not-spelled, misspelled-unique}
use Rattle.marks.specs.Reading.{Refused, Taken}
use Rattle.marks.specs.declared.Mark.{Mark}
use Rattle.marks.specs.declared.Refusal.{Refusal}
use Rattle.marks.specs.declared.Refusal.TheVariants.{Misspelled, LineCount}
use Rattle.marks.proofs.Spelling.{marks-unambiguous}
use Rattle.mark_blame.specs.Blame.{LineTold, misspelled, none, Blames, Blamed}

pub blames : {u : List ℕ} {n : ℕ} → LineTold u n → (r : Refusal) → Refused u r → Blames u r n
blames (misspelled m) Misspelled f = m
blames (misspelled m) LineCount f = absurd (not-spelled marks-unambiguous m f.0 f.1)
blames (none ms s e) Misspelled f = absurd (f ms s)
blames (none ms s e) LineCount f = e

taken-zero : {u : List ℕ} {n : ℕ} → LineTold u n → (ms : List Mark) → Taken u ms → n ≡ 0
taken-zero (misspelled m) ms t = absurd (not-spelled marks-unambiguous m ms t.spells)
taken-zero (none os s e) ms t = e

pub blamed : {u : List ℕ} {n : ℕ} → LineTold u n → Blamed u n
blamed w = record { about = blames w; taken = taken-zero w }

-- one line only is told of a list
pub told-unique : {u : List ℕ} {m n : ℕ} → LineTold u m → LineTold u n → m ≡ n
told-unique (misspelled a) (misspelled b) = misspelled-unique marks-unambiguous a b
told-unique (misspelled a) (none ms s e) = absurd (not-spelled marks-unambiguous a ms s)
told-unique (none ms s e) (misspelled b) = absurd (not-spelled marks-unambiguous b ms s)
told-unique (none ms s e) (none os r f) = e ∙ sym f
