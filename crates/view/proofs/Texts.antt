-- The texts of the view: how long they are, and one written after another. Assumes nothing.
use mathlib.Core.Path.{◌≡◌, refl, ap, ◌∙◌}
use mathlib.Core.Bool.{Bool, true, false}
use mathlib.Core.List.{List, [], ◌∷◌, ◌++◌}
use Prim.Native.Nat.{ℕ, zero, suc, ◌+◌, ◌-◌, ◌*◌, ◌≤◌, ◌<◌}
use native.Mathlib.Omega.{arith}
use native.Mathlib.Numerals.{add-one}
use lib.Dec.{ltb}
use lib.ListN.{length, length-append}
use borrow.Author.Tests.{ltb-true, ltb-false}
use Rattle.language.specs.Spelling.{digits, spell}
use Rattle.statement_writer.specs.Writing.{Put}
use Rattle.language.specs.declared.Statement.{Statement}
use Rattle.statement_writer.proofs.Puts.{put_then, put-length}
use Rattle.desk.specs.Columns.{number_columns, statement_columns, spaces, wide, padded}
use Rattle.view.specs.View.{up_to, part_columns, part_line, columns, head_row, margin, row, mark, last_line}

pub upto-none : (o : List ℕ) (at : ℕ) (f : ℕ → List ℕ) → Put o at (up_to 0 f) o at
unfolding up_to
upto-none o at f = record { text = refl; after = omega arith }

-- the first texts, and the next, are no longer than all
pub upto-within : (f : ℕ → List ℕ) (k n : ℕ) → k < n → length (up_to k f) + length (f k) ≤ length (up_to n f)
unfolding up_to
upto-within f k zero h = absurd (omega arith)
upto-within f k (suc n) h = go (ltb k n) refl (upto-within f k n)
  where
    go : (b : Bool) → ltb k n ≡ b → (k < n → length (up_to k f) + length (f k) ≤ length (up_to n f)) → length (up_to k f) + length (f k) ≤ length (up_to n f ++ f n)
    go true e ih = let l = ih (ltb-true k n e) in omega (arith, length-append (up_to n f) (f n))
    go false e ih = let l = ltb-false k n e in let z : k ≡ n = omega arith in rw z (omega (arith, length-append (up_to n f) (f n)))

module _ (f : ℕ → List ℕ) {o q : List ℕ} {at to k : ℕ} (a : Put o at (up_to k f) q to) where
  pub upto-room : (n : ℕ) → k < n → at + length (up_to n f) ≤ length o → to + length (f k) ≤ length q
  upto-room n h r = omega (arith, upto-within f k n h, a.after, put-length a)

  pub upto-more : {p : List ℕ} {next : ℕ} → Put q to (f k) p next → Put o at (up_to (k + 1) f) p next
  unfolding up_to
  upto-more b = rw add-one (put_then a b)

-- all of n texts are written
pub upto_all : (f : ℕ → List ℕ) {o q : List ℕ} {at to k : ℕ} (n : ℕ) → k ≤ n → n ≤ k → Put o at (up_to k f) q to → Put o at (up_to n f) q to
upto_all f {k = k} n h l a = let z : k ≡ n = omega arith in rw z at a

-- texts of at most m bytes each
pub upto-most : (f : ℕ → List ℕ) (m n : ℕ) → ((k : ℕ) → k < n → length (f k) ≤ m) → length (up_to n f) ≤ n * m
unfolding up_to
upto-most f m zero h = omega arith
upto-most f m (suc n) h = let l = upto-most f m n (λ k i. h k (omega arith)) in let e = h n (omega arith) in simp length-append (omega arith)

abbrev pub cells : (ℕ → ℕ) → ℕ → List ℕ
cells f k = f k ∷ []

pub cells-length : (f : ℕ → ℕ) (n : ℕ) → length (up_to n (cells f)) ≡ n
unfolding up_to
cells-length f zero = refl
cells-length f (suc n) = simp (length-append, cells-length f n) (omega arith)

pub columns-length : (f : ℕ → ℕ) (n : ℕ) → length (columns f n) ≡ n - 1 + 3
unfolding columns
columns-length f n = length-append (up_to (n - 1) (cells f)) (spaces 2 ++ f (n - 1) ∷ []) ∙ rw (cells-length f (n - 1))

pub part_length : (k : ℕ) (text : List ℕ) → length (part_line k text) ≡ length (wide part_columns (k + 1)) + (2 + (length text + 1))
unfolding part_line
part_length k text = simp length-append (omega arith)

pub head-length : (f : ℕ → ℕ) (n : ℕ) → length (head_row f n) ≡ margin + (length (columns f n) + 1)
unfolding head_row
head-length f n = simp length-append (omega arith)

pub row-length : (truth : ℕ → ℕ → Bool) (n s : ℕ) (i : Statement)
    → length (row truth n s i) ≡ length (wide number_columns (s + 1)) + (2 + (length (padded statement_columns (spell i)) + (2 + (length (columns (λ k. mark (truth k s)) n) + 1))))
unfolding row
row-length truth n s i = simp length-append (omega arith)

pub last-length : (n satisfied first : ℕ) → length (last_line n satisfied first) ≡ 6 + (length (digits n) + (11 + (length (digits satisfied) + (7 + (length (digits first) + 1)))))
unfolding last_line
last-length n satisfied first = simp length-append (omega arith)
