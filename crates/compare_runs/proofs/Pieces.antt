-- Printing, piece by piece. Assumes nothing.
use mathlib.Core.Path.{◌≡◌, refl}
use mathlib.Core.Logic.{inl, inr}
use mathlib.Core.List.{List, [], ◌++◌}
use Prim.Native.Nat.{ℕ, ◌≤◌, ◌<◌}
use native.Mathlib.Omega.{arith}
use lib.ListN.{length, take}
use Rattle.judge.specs.Judge.{text_bytes}
use Rattle.statement_writer.proofs.Puts.{put-length}
use Rattle.files.specs.Files.{chunk_room}
use Rattle.side_by_side.specs.SideBySide.{at_stage, HandedAt, Handed, ahead_at, ahead, Prints, Next}
use Rattle.side_by_side.specs.declared.Stage.{Stage}
use Rattle.side_by_side.specs.declared.Stage.TheVariants.{Begin, Steps, Closing, Ended, Refused}
use Rattle.side_by_side.specs.declared.Position.{Position}
use Rattle.side_by_side.specs.declared.Piece.{Piece}
use Rattle.side_by_side.proofs.Pieces.{kept-within}
use Rattle.compare_runs.specs.Printing.{end_at, Printed}
use Rattle.std.proofs.Common.{None, Some}

-- the pieces written before are b, more is to come, and both buffers have room
pub record Printing (t m u : List ℕ) (p : Position) (w o : List ℕ) : Type 0 where
  pub b : List ℕ
  pub handed : Handed t m u p w b
  pub going : 0 < ahead p
  pub new : length w ≡ text_bytes
  pub out : length o ≡ chunk_room

pub begins : (t m u : List ℕ) {p : Position} {w o : List ℕ} → p ≡ at_stage Begin → length w ≡ text_bytes → length o ≡ chunk_room → Printing t m u p w o
begins t m u e l k = rw e (record { b = []; handed = (refl, refl); going = omega arith; new = l; out = k })

module _ {t m u : List ℕ} {p : Position} {w v o q : List ℕ} {r : Piece} (i : Printing t m u p w o) (x : Next t m u p w v o q r) where
  printed : Prints t m u p w v o q r
  printed = x.prints (omega (arith, i.out)) (omega (arith, i.new))

  out-length : length q ≡ chunk_room
  out-length = omega (arith, put-length printed.put, i.out)

  new-length : length v ≡ text_bytes
  new-length = omega (arith, put-length printed.new.put, i.new)

  pub piece-within : r.bytes ≤ length q
  piece-within = omega (arith, kept-within printed.put, put-length printed.put)

  pub falls : ahead r.next < ahead p
  falls = printed.further i.b i.handed i.going

  more : (s : Stage) (d : ℕ) → end_at s ≡ None → 0 < ahead_at s d
  more Begin d e = omega arith
  more Steps d e = omega arith
  more Closing d e = omega arith
  more Ended d e = let z : ◌≡◌ {A = ℕ} 0 1 = cc in omega arith
  more Refused d e = let z : ◌≡◌ {A = ℕ} 0 1 = cc in omega arith

  pub goes_on : end_at r.next.stage ≡ None → Printing t m u r.next v q
  goes_on e =
      record { b = i.b ++ take r.bytes q; handed = printed.handed i.b i.handed; going = more r.next.stage r.next.done e; new = new-length; out = out-length }

  whole : (s : Stage) {n : ℕ} (b : List ℕ) → end_at s ≡ Some n → HandedAt t m u s r.next v b → Printed t m u n
  whole Begin b e h = let z : ◌≡◌ {A = ℕ} 0 1 = cc in absurd (omega arith)
  whole Steps b e h = let z : ◌≡◌ {A = ℕ} 0 1 = cc in absurd (omega arith)
  whole Closing b e h = let z : ◌≡◌ {A = ℕ} 0 1 = cc in absurd (omega arith)
  whole Ended b e h = inl (cc, b, h.1)
  whole Refused b e h = inr (inl (cc, b, h.1))

  pub ends : {n : ℕ} → end_at r.next.stage ≡ Some n → Printed t m u n
  ends e = whole r.next.stage (i.b ++ take r.bytes q) e (printed.handed i.b i.handed)
