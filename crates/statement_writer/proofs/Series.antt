-- A number of texts of bounded length, written one after another. Assumes nothing.
use mathlib.Core.Path.{◌≡◌, refl, ap}
use mathlib.Core.List.{List, [], ◌++◌}
use Prim.Native.Nat.{ℕ, zero, suc, ◌+◌, ◌*◌, ◌≤◌, ◌<◌}
use native.Mathlib.Nat.{suc-mul, mul-le-mul_right}
use native.Mathlib.Omega.{arith}
use native.Mathlib.Numerals.{add-one}
use lib.ListN.{length, length-append}
use Rattle.statement_writer.specs.Writing.{Put}
use Rattle.statement_writer.proofs.Puts.{put_then, put-length}

-- `text n` is the first n of `many` parts, each of at most `size` bytes
pub record Parts (text part : ℕ → List ℕ) (many size : ℕ) : Type 0 where
  pub none : text 0 ≡ []
  pub more : (n : ℕ) → text (suc n) ≡ text n ++ part n
  pub short : (n : ℕ) → n < many → length (part n) ≤ size

module _ {text part : ℕ → List ℕ} {many size : ℕ} (s : Parts text part many size) where
  pub parts-most : (n : ℕ) → n ≤ many → length (text n) ≤ n * size
  parts-most zero h = omega (arith, ap length s.none)
  parts-most (suc n) h =
      omega (arith, ap length (s.more n), length-append (text n) (part n), s.short n (omega arith), parts-most n (omega arith), suc-mul n size)

-- the first x parts stand in q from `at` on, up to `to`
pub record Written (text : ℕ → List ℕ) (many size : ℕ) (o : List ℕ) (at : ℕ) (q : List ℕ) (to x : ℕ) : Type 0 where
  pub put : Put o at (text x) q to
  pub within : x ≤ many
  pub room : at + many * size ≤ length o

module _ {text part : ℕ → List ℕ} {many size : ℕ} (s : Parts text part many size) {o : List ℕ} {at : ℕ} where
  pub none_written : at + many * size ≤ length o → Written text many size o at o at 0
  none_written h = record { put = rw s.none (record { text = refl; after = omega arith }); within = omega arith; room = h }

  module _ {q : List ℕ} {to x : ℕ} (i : Written text many size o at q to x) where
    pub part_room : x < many → to + size ≤ length q
    part_room h =
        let a : suc x * size ≤ many * size = mul-le-mul_right size (omega arith) in
        omega (arith, i.put.after, put-length i.put, parts-most s x i.within, i.room, suc-mul x size, a)

    pub one_written : {p : List ℕ} {next : ℕ} → x < many → Put q to (part x) p next → Written text many size o at p next (x + 1)
    one_written h w = record { put = rw (add-one, s.more x) (put_then i.put w); within = omega arith; room = i.room }

-- no part is left
pub all-written : {text : ℕ → List ℕ} {many size : ℕ} {o : List ℕ} {at : ℕ} {q : List ℕ} {to x : ℕ} → Written text many size o at q to x → many ≤ x → Put o at (text many) q to
all-written {text = text} {many = many} {x = x} i h = let e : x ≡ many = omega (arith, i.within) in rw e at i.put
