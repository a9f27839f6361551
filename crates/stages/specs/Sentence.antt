-- "A place there with a wrong name, a text that isn't taken, or a name that an earlier place holds which isn't empty, counts as empty": of what
-- places hold, as document 02 says it, by what the places before them hold. proofs/Sentence.antt shows that `Holds` is the one that is so.
use Rattle.std.specs.Prelude.{List, ◌↔◌, ℕ, ◌<◌}
use Rattle.stages.specs.Stages.{places, place, Stands}

abbrev pub Sentence : List ℕ → (ℕ → List ℕ → List ℕ → Type 0) → Type 0
Sentence mem H =
    (k : ℕ) (n t : List ℕ) → H k n t ↔ ((k < places) × Stands (place mem k) n t × ((j : ℕ) (u : List ℕ) → j < k → H j n u → ⊥))
