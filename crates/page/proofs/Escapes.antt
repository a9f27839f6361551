-- Escaped texts: how long they are, and the view within a page. Assumes nothing.
use mathlib.Core.Path.{◌≡◌}
use mathlib.Core.Bool.{Bool, true, false}
use mathlib.Core.List.{List}
use Prim.Native.Nat.{ℕ, ◌*◌, ◌≤◌}
use native.Mathlib.Omega.{arith}
use lib.Dec.{eqb}
use lib.ListN.{length, take, get_or}
use Rattle.base.specs.Bytes.{byte}
use Rattle.base.specs.Pick.{pick}
use Rattle.statement_writer.specs.Writing.{Put}
use Rattle.statement_writer.proofs.Puts.{put_front, put-within}
use Rattle.view.specs.View.{PrintsView, PrintsRefusal, view_room, Printed}
use Rattle.page.specs.Page.{escape_byte, escape, page_room, PagePrinted, Pages}
use Rattle.std.specs.Prelude.{Result, Ok, Err}
use Rattle.desk.specs.declared.Failure.{Failure}
use Rattle.desk.specs.declared.Failure.TheVariants.{Refused}
use Rattle.view.proofs.Texts.{upto-most}

pick-most : (b : Bool) (xs ys : List ℕ) (m : ℕ) → length xs ≤ m → length ys ≤ m → length (pick b xs ys) ≤ m
pick-most true xs ys m h k = h
pick-most false xs ys m h k = k

byte-most : (b : ℕ) → length (escape_byte b) ≤ 5
unfolding escape_byte
byte-most b = pick-most (eqb b (byte "&")) _ _ 5 (omega arith) (pick-most (eqb b (byte "<")) _ _ 5 (omega arith) (pick-most (eqb b (byte ">")) _ _ 5 (omega arith) (omega arith)))

escape-most : (s : List ℕ) → length (escape s) ≤ length s * 5
unfolding escape
escape-most s = upto-most (λ i. escape_byte (get_or s i 0)) 5 (length s) (λ i h. byte-most (get_or s i 0))

-- what the viewer left in the plain bytes p, now v
module _ {Says : List ℕ → Type 0} {p v : List ℕ} {n : ℕ} (a : Printed Says p v n) (l : length p ≡ view_room) where
  plain-text : take n v ≡ a.w
  plain-text = put_front a.written a.fits

  pub page-fits : (m : ℕ) → page_room ≤ m → length (escape (take n v)) ≤ m
  page-fits m h = rw plain-text (omega (arith, escape-most a.w, a.fits))

  pub page-printed : {o q : List ℕ} {k : ℕ} → page_room ≤ length o → Put o 0 (escape (take n v)) q k → PagePrinted Says o q k
  page-printed {o = o} room put =
      record { room = room; w = a.w; says = a.says; fits = rw plain-text at (page-fits (length o) room); written = rw plain-text at put }

-- what stands at the front of the lent bytes ends within them
module _ (t u o q : List ℕ) {r : Result ℕ Failure} {n : ℕ} (h : Pages t u o q r) where
  pub view-within : r ≡ Ok n → n ≤ length q
  view-within is = let p : PagePrinted (PrintsView t u) o q n = rw is at h in put-within p.written p.fits

  pub refusal-within : r ≡ Err (Refused n) → n ≤ length q
  refusal-within is = let p : PagePrinted (PrintsRefusal t u) o q n = rw is at h in put-within p.written p.fits
