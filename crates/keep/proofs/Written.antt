-- A stage that was written: it stands right in its place, and all other places are as they were. Assumes nothing.
use mathlib.Core.Path.{◌≡◌, sym, ap, ◌∙◌}
use mathlib.Core.List.{List, ◌∷◌, ◌++◌, append_assoc}
use Prim.Native.Nat.{ℕ, ◌+◌, ◌-◌, ◌*◌, ◌/◌, ◌%◌, ◌≤◌, ◌<◌}
use native.Mathlib.Omega.{arith}
use lib.ListN.{length, get_or, take, drop, length-append, get_or-append}
use lib.Seq.{sets, sets-eq, length-sets, length-take-le, take_at, drop_at, get_or_at, get_or-take, get_or-drop, get_or-append-add, take-append-add, drop-append-le, drop-append-add}
use Rattle.language.specs.declared.Statement.{Statement}
use Rattle.program.specs.Program.{text_room, Taken}
use Rattle.bits.specs.Row.{Kept}
use Rattle.bits.proofs.Tables.{row_kept}
use Rattle.stage_names.specs.Names.{name_bytes, ValidName, filled}
use Rattle.stage_names.proofs.Names.{filled-length}
use Rattle.stages.specs.Stages.{places, stage_bytes, place_room, place, head_bytes, written, length_in, text_in, Stands}
use Rattle.stages.proofs.Places.{place-fits}

-- the written bytes at the front of a place
module _ (n t rest : List ℕ) (few : length n ≤ name_bytes) where
  abbrev behind : List ℕ
  behind = length t % 256 ∷ length t / 256 ∷ (t ++ rest)

  abbrev bytes : List ℕ
  bytes = filled n ++ behind

  size : length (filled n) ≡ name_bytes
  size = filled-length n few

  low : get_or bytes name_bytes 0 ≡ length t % 256
  low = get_or_at (filled n) (length t % 256) (length t / 256 ∷ (t ++ rest)) 0 name_bytes size

  high : get_or bytes (name_bytes + 1) 0 ≡ length t / 256
  high = ap (λ (i : ℕ). get_or bytes (i + 1) 0) (sym size) ∙ get_or-append-add (filled n) behind 1 0

  told : length_in bytes ≡ length t
  told = omega (arith, low, high)

  text-behind : drop head_bytes bytes ≡ t ++ rest
  text-behind = ap (λ (i : ℕ). drop (i + 2) bytes) (sym size) ∙ drop-append-add (filled n) behind 2

  text-inside : text_in bytes ≡ t
  text-inside = ap (take (length_in bytes)) text-behind ∙ take_at t rest (length_in bytes) (sym told)

  pub written_stands : {P : List Statement} → ValidName n → Taken t P → length t ≤ text_room → (b : List ℕ) → b ≡ written n t ++ rest → Stands b n t
  written_stands {P} v taken short b is = rw (is ∙ append_assoc (filled n) (length t % 256 ∷ length t / 256 ∷ t) rest) (record {
    P = P;
    valid = v;
    named = take_at (filled n) behind name_bytes size;
    short = omega (arith, told);
    text = sym text-inside;
    taken = taken;
  })

-- w put at the front of place k
module _ (mem w : List ℕ) (k : ℕ) (room : stage_bytes ≤ length mem) (inside : k < places) (fits : length w ≤ place_room) where
  abbrev at : ℕ
  at = place_room * k

  abbrev new : List ℕ
  new = sets mem at w

  abbrev rest : List ℕ
  rest = drop (at + length w) mem

  new_is : new ≡ take at mem ++ w ++ rest
  new_is = sets-eq w mem at (omega (arith, place-fits mem k room inside))

  front : length (take at mem) ≡ at
  front = length-take-le at mem (omega (arith, place-fits mem k room inside))

  both : length (take at mem ++ w) ≡ at + length w
  both = length-append (take at mem) w ∙ ap (λ (i : ℕ). i + length w) front

  -- w and what stood behind it
  pub place-written : place new k ≡ w ++ take (place_room - length w) rest
  place-written =
      let e : place_room ≡ length w + (place_room - length w) = omega arith in
      ap (λ (x : List ℕ). take place_room (drop at x)) new_is
      ∙ ap (take place_room) (drop-append-le at (take at mem ++ w) rest (omega (arith, both)) ∙ ap (λ (x : List ℕ). x ++ rest) (drop_at (take at mem) w at front))
      ∙ ap (λ (i : ℕ). take i (w ++ rest)) e ∙ take-append-add w rest (place_room - length w)

  all-kept : Kept mem new at place_room
  all-kept = record {
    same = length-sets mem at w;
    before = λ m h. ap (λ (x : List ℕ). get_or x m 0) new_is ∙ get_or-append (take at mem ++ w) rest 0 m (omega (arith, both))
        ∙ get_or-append (take at mem) w 0 m (omega (arith, front)) ∙ get_or-take at mem m 0 h;
    past = λ m h. past (m - at - length w) m (omega arith);
  }
    where
      past : (i m : ℕ) → m ≡ at + length w + i → get_or new m 0 ≡ get_or mem m 0
      past i m e =
          ap (λ (x : List ℕ). get_or x m 0) new_is ∙ ap (λ (j : ℕ). get_or (take at mem ++ w ++ rest) j 0) (e ∙ ap (λ (j : ℕ). j + i) (sym both))
          ∙ get_or-append-add (take at mem ++ w) rest i 0 ∙ get_or-drop (at + length w) mem i 0 ∙ ap (λ (j : ℕ). get_or mem j 0) (sym e)

  pub place_kept : (j : ℕ) → j < places → (j ≡ k → ⊥) → place new j ≡ place mem j
  place_kept j h apart = row_kept place_room mem new k all-kept j apart (place-fits mem j room h)
