-- The slip at the byte where the reading of a condition stops, by the bytes around it.
use Rattle.std.specs.Prelude.{◌≡◌, ◌&&◌, ◌||◌, List, ◌∷◌, ℕ, ◌+◌, ◌-◌, ◌≤◌, ◌<◌, eqb, ltb, length, get_or, drop, take}
use Rattle.base.specs.Bytes.{byte}
use Rattle.base.specs.Pick.{pick}
use Rattle.condition.specs.Condition.{Condition}
use Rattle.condition.specs.Texts.{most_bytes, Spells}
use Rattle.slips.specs.Slips.{shows, marked, is_digit, first_outside}
use Rattle.slips.specs.declared.Slip.{Slip}
use Rattle.slips.specs.declared.Slip.TheVariants.{Nothing, ByteOrderMark, CarriageReturn, Tab, LineEnd, Space, Brackets, Early}
use Rattle.slips.specs.declared.Sign.TheVariants as sign
use Rattle.slips.specs.declared.Range.TheVariants.{Spelled}

-- between a `(` at place k and the place `end` the text t has the spelling of a condition
pub record Holds (t : List ℕ) (end k : ℕ) : Type 0 where
  pub before : k < end
  pub opens : get_or t k 0 ≡ byte "("
  pub c : Condition
  pub spells : Spells (take (end - (k + 1)) (drop (k + 1) t)) c

-- the byte at the place `end` is a `)`, and closes a bracket that holds a condition already
pub record Closes (t : List ℕ) (end : ℕ) : Type 0 where
  pub within : end < length t
  pub closes : get_or t end 0 ≡ byte ")"
  pub k : ℕ
  pub holds : Holds t end k

-- what the byte c shows between p and n
unfoldable pub byte_slip : ℕ → ℕ → ℕ → Slip
byte_slip p c n =
    pick (eqb c 13) CarriageReturn
    (pick (eqb c 9) Tab
    (pick (eqb c 10) LineEnd
    (pick (shows sign.Space p c || shows sign.Space c n) Space Nothing)))

-- byte k, counted from 1; a byte 10 stands before the text and behind it
abbrev pub around : List ℕ → ℕ → ℕ
around t k = get_or (10 ∷ t) k 10

-- at a digit the number that it is in is looked at: before it none is out of range
unfoldable pub place_slip : List ℕ → ℕ → Slip
place_slip t k =
    pick (ltb k (length t))
    (pick (is_digit (get_or t k 0)) (first_outside Spelled 10 (k + 1) t) (byte_slip (around t k) (get_or t k 0) (around t (k + 2))))
    Early

-- the slip at byte n, counted from 1; a byte order mark is told at byte 1, and nothing at 0
unfoldable pub slip_at : List ℕ → ℕ → Slip
slip_at t n = pick (eqb n 0) Nothing (pick (eqb n 1 && marked t) ByteOrderMark (place_slip t (n - 1)))

-- a text that is too long is refused for that
pub data Shows (t : List ℕ) (n : ℕ) (s : Slip) : Type 0 where
  long : most_bytes < length t → s ≡ Nothing → Shows t n s
  brackets : length t ≤ most_bytes → Closes t (n - 1) → s ≡ Brackets → Shows t n s
  other : length t ≤ most_bytes → (Closes t (n - 1) → ⊥) → s ≡ slip_at t n → Shows t n s
