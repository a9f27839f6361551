-- The bytes of places, and that what a place holds is one stage. Assumes nothing.
use mathlib.Core.Path.{◌≡◌, refl, sym, ap, ◌∙◌}
use mathlib.Core.List.{List}
use Prim.Native.Nat.{ℕ, zero, suc, ◌+◌, ◌*◌, ◌≤◌, ◌<◌}
use native.Mathlib.Decide.{dec_lt}
use native.Mathlib.Omega.{arith}
use lib.ListN.{length, take}
use Rattle.base.proofs.Bools.{last-or-below}
use Rattle.bits.proofs.Tables.{row-length}
use Rattle.language.specs.declared.Statement.{Statement}
use Rattle.program.specs.Program.{text_room, Taken}
use Rattle.program.proofs.Lengths.{text-fits}
use Rattle.stage_names.specs.Names.{name_bytes, ValidName, filled}
use Rattle.stage_names.proofs.Names.{filled-unique}
use Rattle.stages.specs.Stages.{places, stage_bytes, place_room, place, text_in, Stands, Holds}
use Rattle.stages.specs.Choice.{Unknown}
use Rattle.stages.specs.Looking.{TextTaken, StandsNowhere}

pub place-fits : (mem : List ℕ) (k : ℕ) → stage_bytes ≤ length mem → k < places → place_room * k + place_room ≤ length mem
place-fits mem k room h = omega arith

pub place-length : (mem : List ℕ) (k : ℕ) → stage_bytes ≤ length mem → k < places → length (place mem k) ≡ place_room
place-length mem k room h = row-length place_room mem k (place-fits mem k room h)

-- a text that is taken has room in a place
pub taken-short : {t : List ℕ} {P : List Statement} → Taken t P → length t ≤ text_room
taken-short taken = let e = ap length taken.lines in omega (arith, text-fits taken.program)

module _ {b n : List ℕ} where
  pub stands_of : ValidName n → take name_bytes b ≡ filled n → TextTaken b → Stands b n (text_in b)
  stands_of v e (short, P, taken) = record { P = P; valid = v; named = e; short = short; text = refl; taken = taken }

  pub stands-taken : {t : List ℕ} → Stands b n t → TextTaken b
  stands-taken s = (s.short, s.P, rw s.text at s.taken)

  -- the bytes have one name
  pub stands-name : {m t u : List ℕ} → Stands b n t → Stands b m u → n ≡ m
  stands-name s r = filled-unique s.valid r.valid (sym s.named ∙ r.named)

-- one stage only stands in a name's place, and only one place holds a name
module _ {mem n t u : List ℕ} {k j : ℕ} (h : Holds mem k n t) (g : Holds mem j n u) where
  pub holds-place : k ≡ j
  holds-place = go (dec_lt k j) (dec_lt j k)
    where
      go : Dec (k < j) → Dec (j < k) → k ≡ j
      go (yes l) d = absurd (g.first k l t h.stands)
      go (no l) (yes m) = absurd (h.first j m u g.stands)
      go (no l) (no m) = omega arith

  pub holds_text : t ≡ u
  holds_text = h.stands.text ∙ ap (λ (i : ℕ). text_in (place mem i)) holds-place ∙ sym g.stands.text

-- where no place holds a name, no stage stands right under it
pub unknown-nowhere : {mem n : List ℕ} → Unknown mem n → (k : ℕ) → k ≤ places → StandsNowhere mem n k
unknown-nowhere f zero h = λ j l. absurd (omega arith)
unknown-nowhere {mem} {n} f (suc k) h =
    let before = unknown-nowhere f k (omega arith) in
    last-or-below k (λ j. (t : List ℕ) → Stands (place mem j) n t → ⊥) (λ t s. f k (t, record { inside = omega arith; stands = s; first = before })) before

-- where no stage stands right under a name, no place holds it
pub nowhere-unknown : {mem n : List ℕ} → StandsNowhere mem n places → Unknown mem n
nowhere-unknown f k (t, h) = f k h.inside t h.stands
