-- A text gets one answer, and leaves one table in force. Assumes nothing.
use mathlib.Core.Path.{◌≡◌, refl, ap, ◌∙◌}
use mathlib.Core.List.{List}
use Prim.Native.Nat.{ℕ}
use lib.ListN.{length}
use Rattle.lines.proofs.Texts.{spells-unique}
use Rattle.prices.specs.Prices.{Spells, Refused, Taken, PricesAnswers}
use Rattle.std.specs.Prelude.{Result, Ok, Err}
use Rattle.prices.specs.declared.Refusal.{Refusal}
use Rattle.prices.specs.declared.Refusal.TheVariants.{WrongLine, LineCount}
use Rattle.prices.proofs.Spelling.{prices-unambiguous}

-- a text is the lines of one list of valid prices only
pub prices-unique : {t ps qs : List ℕ} → Spells t ps → Spells t qs → ps ≡ qs
prices-unique a b = spells-unique prices-unambiguous a b

-- a table that is taken gets no refusal
pub taken_refused : {t ps : List ℕ} → Taken t ps → (r : Refusal) → Refused t r → ⊥
taken_refused {ps = ps} a WrongLine f = f ps a.spells
taken_refused a LineCount f = f.2 (ap length (prices-unique f.1 a.spells) ∙ a.counted)

-- a text gets one refusal only
refused-unique : (t : List ℕ) (r s : Refusal) → Refused t r → Refused t s → r ≡ s
refused-unique t WrongLine WrongLine a b = refl
refused-unique t WrongLine LineCount a b = absurd (a b.0 b.1)
refused-unique t LineCount WrongLine a b = absurd (b a.0 a.1)
refused-unique t LineCount LineCount a b = refl

pub answer-unique : (t : List ℕ) (a b : Result (List ℕ) Refusal) → PricesAnswers t a → PricesAnswers t b → a ≡ b
answer-unique t (Ok ps) (Ok qs) x y = ap Ok (prices-unique x.spells y.spells)
answer-unique t (Ok ps) (Err r) x y = absurd (taken_refused x r y)
answer-unique t (Err r) (Ok ps) x y = absurd (taken_refused y r x)
answer-unique t (Err r) (Err s) x y = ap Err (refused-unique t r s x y)
