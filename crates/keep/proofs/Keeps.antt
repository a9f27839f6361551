-- What is known once a stage is written: its place holds it. Assumes nothing.
use mathlib.Core.Path.{◌≡◌, ap, ◌∙◌}
use mathlib.Core.Logic.{inl, inr}
use mathlib.Core.List.{List, [], ◌∷◌, ◌++◌, append_assoc}
use Prim.Native.Nat.{ℕ, ◌+◌, ◌*◌, ◌/◌, ◌%◌, ◌≤◌, ◌<◌}
use native.Mathlib.Omega.{arith}
use lib.ListN.{length, length-append}
use lib.Seq.{sets}
use Rattle.language.specs.declared.Statement.{Statement}
use Rattle.statement_writer.specs.Writing.{Put}
use Rattle.statement_writer.proofs.Puts.{put_then}
use Rattle.program.specs.Program.{Taken}
use Rattle.stage_names.specs.Names.{name_bytes, ValidName, filled}
use Rattle.stage_names.proofs.Names.{filled-length}
use Rattle.stages.specs.Stages.{places, stage_bytes, place_room, place, written, Holds}
use Rattle.stages.specs.Choice.{Chosen}
use Rattle.stages.specs.Looking.{StandsNowhere}
use Rattle.stages.proofs.Places.{taken-short, unknown-nowhere}
use Rattle.keep.specs.Keep.{KeepFinished}
use Rattle.keep.proofs.Written.{written_stands, place-written, place_kept}

pub written-length : (n t : List ℕ) → length n ≤ name_bytes → length (written n t) ≡ name_bytes + (2 + length t)
written-length n t h = length-append (filled n) (length t % 256 ∷ length t / 256 ∷ t) ∙ (let s = filled-length n h in omega arith)

-- name, length and text one after another
pub put-stage :
    (n : List ℕ) {o p q r s t key : List ℕ} {at i j k l : ℕ} → key ≡ filled n → Put o at key p i → Put p i (length t % 256 ∷ []) q j
    → Put q j (length t / 256 ∷ []) r k → Put r k t s l → s ≡ sets o at (written n t)
put-stage n {o = o} {t = t} {at = at} is a b c d =
    let e : filled n ++ (length t % 256 ∷ []) ++ (length t / 256 ∷ []) ++ t ≡ written n t = simp append_assoc in
    (put_then (put_then (put_then (rw is at a) b) c) d).text ∙ ap (sets o at) e

pub chosen-inside : {mem n : List ℕ} {k : ℕ} → Chosen mem n k → k < places
chosen-inside (inl (t, h)) = h.inside
chosen-inside (inr (f, e)) = e.inside

-- no stage stands right under the name before the place that is chosen for it
chosen-first : {mem n : List ℕ} {k : ℕ} → Chosen mem n k → StandsNowhere mem n k
chosen-first (inl (t, h)) = h.first
chosen-first {k = k} (inr (f, e)) = unknown-nowhere f k (let i = e.inside in omega arith)

module _ {mem n t : List ℕ} {P : List Statement} {k : ℕ} (room : stage_bytes ≤ length mem) (taken : Taken t P) (v : ValidName n) (chosen : Chosen mem n k) where
  fits : length (written n t) ≤ place_room
  fits = omega (arith, written-length n t v.few, taken-short taken)

  holds : Holds (sets mem (place_room * k) (written n t)) k n t
  holds = record {
    inside = chosen-inside chosen;
    stands = written_stands n t _ v.few v taken (taken-short taken) _ (place-written mem (written n t) k room (chosen-inside chosen) fits);
    first = λ j l u s. chosen-first chosen j l u (rw (place_kept mem (written n t) k room (chosen-inside chosen) fits j (omega (arith, chosen-inside chosen)) (λ e. omega arith)) at s);
  }

  pub kept-finished : {q : List ℕ} {told : ℕ} → told ≡ k + 1 → q ≡ sets mem (place_room * k) (written n t) → KeepFinished mem n t q told
  kept-finished p e = record {
    P = P;
    k = k;
    room = room;
    taken = taken;
    valid = v;
    inside = chosen-inside chosen;
    chosen = chosen;
    place = p;
    kept = e;
    holds = rw e holds;
  }

-- a finished call leaves all other places as they were
pub finished-kept : {mem n t q : List ℕ} {told : ℕ} (f : KeepFinished mem n t q told) (j : ℕ) → j < places → (j ≡ f.k → ⊥) → place q j ≡ place mem j
finished-kept {mem} {n} {t} f j h apart =
    let fits : length (written n t) ≤ place_room = omega (arith, written-length n t f.valid.few, taken-short f.taken) in
    ap (λ (x : List ℕ). place x j) f.kept ∙ place_kept mem (written n t) f.k f.room f.inside fits j h apart
