-- What the program prints piece by piece, and the status that it tells.
use Rattle.std.specs.Prelude.{◌≡◌, ◌⊎◌, List, ℕ, Option, None, Some}
use Rattle.side_by_side.specs.SideBySide.{Comparison, Refusal}
use Rattle.side_by_side.specs.declared.Stage.{Stage}
use Rattle.side_by_side.specs.declared.Stage.TheVariants.{Begin, Steps, Closing, Ended, Refused}

-- all is told, with status 0 of a comparison and 1 of a refusal; or more is to come
abbrev pub end_at : Stage → Option ℕ
end_at Begin = None
end_at Steps = None
end_at Closing = None
end_at Ended = Some 0
end_at Refused = Some 1

-- the pieces that were written are a whole comparison, and the status is 0; they are a refusal, and it is 1; or one wasn't written
abbrev pub Printed : List ℕ → List ℕ → List ℕ → ℕ → Type 0
Printed t m u r = ((r ≡ 0) × (b : List ℕ) × Comparison t m u b) ⊎ (((r ≡ 1) × (b : List ℕ) × Refusal t m u b) ⊎ (r ≡ 3))
