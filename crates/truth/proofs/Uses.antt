-- But for a kept variable at a `write`, a use is what the text shows, as it was before variables were kept. Assumes nothing.
use mathlib.Core.Logic.{◌↔◌, inl, ⊎_elim}
use Prim.Native.Nat.{ℕ}
use Rattle.language.specs.Kept.{Kept}
use Rattle.language.specs.declared.Statement.{Statement}
use Rattle.truth.specs.Truth.{Shows, Writes, Uses}

pub uses-shown : (i : Statement) (x : ℕ) → (Writes i → Kept x → ⊥) → Uses i x ↔ Shows i x
uses-shown i x none = (λ u. ⊎_elim (λ s. s) (λ k. absurd (none k.0 k.1)) u, λ s. inl s)
