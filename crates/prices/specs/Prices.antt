-- A buyer's table of prices: how it is spelled, which refusal it gets, and which table is in force afterwards. Document 02, Wish 8.
use Rattle.std.specs.Prelude.{◌≡◌, List, ℕ, length, drop, Option, Some, None, Result, Ok, Err}
use Rattle.lines.specs.Lines as lines
use Rattle.language.specs.Spelling.{digits}
use Rattle.pricing.specs.Prices.{kinds, ValidPrice}
use Rattle.prices.specs.declared.Refusal.{Refusal}
use Rattle.prices.specs.declared.Refusal.TheVariants.{WrongLine, LineCount}

-- "a decimal number .. without leading zeros": the line of a price without its byte 10
abbrev pub spell_price : ℕ → List ℕ
spell_price n = digits n

-- the text t is the lines of the valid prices ps, each "ended by byte 10"
abbrev pub Spells : List ℕ → List ℕ → Type 0
Spells t ps = lines.Spells spell_price ValidPrice t ps

-- "19 for a wrong line, 20 for other than eleven lines"
abbrev pub number : Refusal → ℕ
number WrongLine = 19
number LineCount = 20

-- the text t gets this refusal; "19 is tested first", so that each line is right where 20 applies
abbrev pub Refused : List ℕ → Refusal → Type 0
Refused t WrongLine = (ps : List ℕ) → Spells t ps → ⊥
Refused t LineCount = (ps : List ℕ) × Spells t ps × (length ps ≡ kinds → ⊥)

-- "eleven lines in the order of Wish 7": the text t is the table ps
pub record Taken (t ps : List ℕ) : Type 0 where
  pub spells : Spells t ps
  pub counted : length ps ≡ kinds

-- the table that the text is taken as, or its refusal. "It replaces ours only after the whole of it has been checked; otherwise the table in force remains":
-- beside a refusal no table is handed back
abbrev pub PricesAnswers : List ℕ → Result (List ℕ) Refusal → Type 0
PricesAnswers t (Ok ps) = Taken t ps
PricesAnswers t (Err r) = Refused t r

-- `Some`: the valid price r.0 has the line from `at` to r.1; `None`: no valid price's line stands there
abbrev pub PriceLineRead : List ℕ → ℕ → Option (ℕ × ℕ) → Type 0
PriceLineRead s at (Some r) = lines.LineOf spell_price ValidPrice s at r.0 r.1
PriceLineRead s at None = lines.NoLine spell_price ValidPrice (drop at s)
