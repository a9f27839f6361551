-- What `witness` leaves in the places that a host lends for its answer, and the number that the host gets.
use Rattle.std.specs.Prelude.{◌≡◌, List, ℕ, Result, Ok, Err}
use Rattle.bits.specs.Row.{one}
use Rattle.condition_reader.specs.Reading as condition-reading
use Rattle.condition_reader.specs.declared.Refusal as condition-refusal
use Rattle.calls.specs.Refusals.{number_of}
use Rattle.calls.specs.declared.Refusal.{Refusal}
use Rattle.explain.specs.Explain.{WitnessAnswers}
use Rattle.explain.specs.declared.Witnessed.{Witnessed}
use Rattle.explain.specs.declared.Witnessed.TheVariants.{Path, None}

-- the places that a host lends for the answer beside the path
pub record WitnessPlaces : Type 0 where
  pub length : ℕ
  pub turn : ℕ
  pub truth : ℕ

-- 0 is a result: a path sets its length, which isn't 0, and its turn, and keeps the truth; no path sets both to 0, and the truth, 1 or 0. Any
-- other number is the refusal, which keeps all three
abbrev pub WitnessReturned : Result Witnessed (Refusal condition-refusal.Refusal) → ℕ → WitnessPlaces → WitnessPlaces → Type 0
WitnessReturned (Err e) r o q = (r ≡ number_of condition-reading.number e) × (q ≡ o)
WitnessReturned (Ok (Path m t)) r o q = (r ≡ 0) × (q ≡ record { length = m; turn = t; truth = o.truth })
WitnessReturned (Ok (None b)) r o q = (r ≡ 0) × (q ≡ record { length = 0; turn = 0; truth = one b })

-- the number and the places are those of the one answer of `witness`, which also says what the path holds
pub record WitnessExported (t u : List ℕ) (part statement : ℕ) (old new : List ℕ) (r : ℕ) (o q : WitnessPlaces) : Type 0 where
  pub answer : Result Witnessed (Refusal condition-refusal.Refusal)
  pub answers : WitnessAnswers t u part statement old new answer
  pub returned : WitnessReturned answer r o q
