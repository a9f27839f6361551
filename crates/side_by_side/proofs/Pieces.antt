-- Pieces: what is common to all. Assumes nothing.
use mathlib.Core.Path.{◌≡◌, refl, subst}
use mathlib.Core.Logic.{⊎_elim}
use mathlib.Core.List.{List, ◌++◌, append-nil}
use Prim.Native.Nat.{ℕ, ◌≤◌, ◌<◌}
use native.Mathlib.Omega.{arith}
use lib.ListN.{length, take, length-take}
use Rattle.statement_writer.specs.Writing.{Put}
use Rattle.statement_writer.proofs.Puts.{put_front, put-length}
use Rattle.judge.specs.Judge.{text_bytes}
use Rattle.side_by_side.specs.SideBySide.{at_stage, HandedAt, Handed, ahead_at, ahead, stays, Stays, Kept, Prints, side_by_side_room, Next}
use Rattle.side_by_side.specs.declared.Stage.{Stage}
use Rattle.side_by_side.specs.declared.Stage.TheVariants.{Begin}
use Rattle.side_by_side.specs.declared.Position.{Position}
use Rattle.side_by_side.specs.declared.Piece.{Piece}

-- a text that was put at the front is the bytes that stand there
pub piece-put : {o q x : List ℕ} {n : ℕ} → Put o 0 x q n → length x ≤ length o → Put o 0 (take n q) q n
piece-put p h = rw (put_front p h) p

length-take-most : (n : ℕ) (q : List ℕ) → length (take n q) ≤ length q
length-take-most n q = simp length-take (omega arith)

-- the bytes that are kept end within the lent ones
pub kept-within : {o q : List ℕ} {n : ℕ} → Put o 0 (take n q) q n → n ≤ length o
kept-within {q = q} {n = n} p = omega (arith, put-length p, p.after, length-take-most n q)

nothing_put : (o : List ℕ) → Put o 0 (take 0 o) o 0
nothing_put o = record { text = refl; after = refl }

pub none_kept : (w : List ℕ) → Kept w w
none_kept w = record { n = 0; few = omega arith; put = nothing_put w }

-- where printing stands, by a stage that is known
pub handed-at : (t m u : List ℕ) (p : Position) (w b : List ℕ) {s : Stage} → p.stage ≡ s → Handed t m u p w b → HandedAt t m u s p w b
handed-at t m u p w b e h = subst (λ (x : Stage). HandedAt t m u x p w b) e h

module _ (t m u : List ℕ) (p : Position) (w o : List ℕ) where
  pub stays-kept : {r : Piece} → r ≡ stays p → Stays p w w o o r
  stays-kept e = record { same = e; new = refl; out = refl }

  -- printing stays only at a position that no printing reaches, or after the whole output
  pub stays-prints : {r : Piece} → r ≡ stays p → ((b : List ℕ) → Handed t m u p w b → 0 < ahead p → ⊥) → Prints t m u p w w o o r
  stays-prints e never =
      rw e
      (record {
        put = nothing_put o;
        new = none_kept w;
        handed = λ b h. rw (append-nil b) h;
        further = λ b h l. absurd (never b h l);
        ended = λ z. stays-kept refl;
      })

-- the piece x
pub printed : (t m u : List ℕ) (p : Position) (w v : List ℕ) {o q : List ℕ} (r : Piece) (x : List ℕ) → Put o 0 (take r.bytes q) q r.bytes → take r.bytes q ≡ x → Kept w v
    → 0 < ahead p → ((b : List ℕ) → Handed t m u p w b → Handed t m u r.next v (b ++ x) × (ahead r.next < ahead p)) → Prints t m u p w v o q r
printed t m u p w v r x put is new going f =
    record {
      put = put;
      new = new;
      handed = λ b h. rw is (f b h).0;
      further = λ b h l. (f b h).1;
      ended = λ z. absurd (omega arith);
    }

-- after the whole output nothing is printed
pub whole-stays : (t m u : List ℕ) (p : Position) (w o : List ℕ) (s : Stage) {r : Piece} → p.stage ≡ s → ahead_at s p.done ≡ 0 → r ≡ stays p → Prints t m u p w w o o r
whole-stays t m u p w o s e z is = stays-prints t m u p w o is (λ b h l. let k : 0 < ahead_at s p.done = rw e at l in omega arith)

-- what is printed at the beginning doesn't depend on the rest of the position
pub begins-any : (t m u : List ℕ) (p : Position) {w v o q : List ℕ} {r : Piece} → p.stage ≡ Begin → Prints t m u (at_stage Begin) w v o q r → Prints t m u p w v o q r
begins-any t m u p {w = w} e x =
    record {
      put = x.put;
      new = x.new;
      handed = λ b h. x.handed b (refl, (handed-at t m u p w b e h).1);
      further = λ b h l. rw e (x.further b (refl, (handed-at t m u p w b e h).1) (omega arith));
      ended = λ z. let k : ahead_at Begin p.done ≡ 0 = rw e at z in absurd (omega arith);
    }

-- by the room
module _ {t m u : List ℕ} {p : Position} {w v o q : List ℕ} {r : Piece} where
  pub with-room : side_by_side_room ≤ length o → text_bytes ≤ length w → Prints t m u p w v o q r → Next t m u p w v o q r
  with-room a b x = record { little = λ l. absurd (⊎_elim (λ k. omega (arith, k)) (λ k. omega (arith, k)) l); prints = λ c d. x }

module _ (t m u : List ℕ) (p : Position) (w o : List ℕ) {r : Piece} where
  pub without-out : length o < side_by_side_room → r ≡ stays p → Next t m u p w w o o r
  without-out h is = record { little = λ l. stays-kept t m u p w o is; prints = λ a b. absurd (omega arith) }

  pub without-new : length w < text_bytes → r ≡ stays p → Next t m u p w w o o r
  without-new h is = record { little = λ l. stays-kept t m u p w o is; prints = λ a b. absurd (omega arith) }
