-- The search in the table as the code holds it, and the items that it puts on. Assumes nothing.
use mathlib.Core.Path.{◌≡◌, refl, sym, ◌∙◌}
use mathlib.Core.List.{List, [], ◌∷◌, ◌++◌}
use mathlib.Core.Bool.{Bool, true, false, not, ◌&&◌}
use Prim.Native.Nat.{ℕ, ◌+◌, ◌-◌, ◌^◌, ◌≤◌, ◌<◌}
use native.Mathlib.Omega.{arith}
use native.Mathlib.Numerals.{add-one}
use lib.Dec.{eqb, leb}
use lib.ListN.{length, get_or, drop, take, set, length-drop, length-set}
use lib.Seq.{drop-cons, drop-set-lt, drop_at, get_or-set_same, length-take-le, take_all}
use borrow.Rule.Slice.PartMut.{put_mid}
use Rattle.std.proofs.lemmas.List.{drop-drop}
use borrow.Author.Tests.{eq-eqb, leb-true}
use Rattle.std.proofs.Common.{Option, None, Some, cond, nat_lt, position, ◌==◌}
use Rattle.std.specs.Option.{unwrap_or}
use Rattle.std.specs.List.{position_or_len, starts_with}
use Rattle.std.proofs.lemmas.List.Sums.{prefix_len-le-length}
use Rattle.std.proofs.lemmas.Bool.Decides.{Decides-eqb}
use Rattle.std.proofs.lemmas.Slice.Eq.{starts_is}
use Rattle.base.specs.Pick.{pick}
use Rattle.base.proofs.Bools.{and_left, and_right}
use Rattle.language.specs.Spelling.{variables, largest}
use Rattle.viable.specs.Grammar.{rows, word, none, rule_in, class_of, expand, bound_of}
use Rattle.condition_blame.specs.Search.{growth, table, line, row_in}

-- the rows of the table are those of the grammar
pub table-rules : (i c : ℕ) → row_in table i c ≡ rule_in rows i c
unfolding table line row_in
table-rules i c = refl

-- the byte at a position, and what follows it
pub at_byte : (s : List ℕ) (k : ℕ) → k < length s → drop k s ≡ get_or s k 0 ∷ drop (k + 1) s
at_byte s k h = rw (add-one, drop-cons s k 0)

-- a line ends before the first byte 10, or where the text does
abbrev ends : ℕ → Bool
ends c = c == 10

line-to : (l : List ℕ) → line l ≡ take (position_or_len ends l) l
unfolding line
line-to [] = refl
line-to (x ∷ l) = go (eqb x 10) (line-to l)
  where
    go : (b : Bool) → line l ≡ take (position_or_len ends l) l → pick b [] (x ∷ line l) ≡ take (cond (not b) (1 + position_or_len ends l) 0) (x ∷ l)
    go true e = refl
    go false e = rw e (grind arith)

pub line-taken : (l : List ℕ) (r : Option ℕ) → r ≡ position ends l → take (unwrap_or r (length l)) l ≡ line l
line-taken l r e =
    let h : position_or_len ends l ≤ length l = prefix_len-le-length (λ x. not (ends x)) l in
    rw (e, line-to l) (go (nat_lt (position_or_len ends l) (length l)) refl h)
  where
    go : (b : Bool) → b ≡ nat_lt (position_or_len ends l) (length l) → position_or_len ends l ≤ length l
        → take (unwrap_or (cond b (Some (position_or_len ends l)) None) (length l)) l ≡ take (position_or_len ends l) l
    go true f h = refl
    go false f h = let g : length l ≡ position_or_len ends l = grind arith in rw g

-- what a slice from k on holds
pub rest-all : (g : List ℕ) (k : ℕ) → take (length g - k) (drop k g) ≡ drop k g
rest-all g k = take_all (length g - k) (drop k g) (omega (arith, length-drop k g))

-- the bytes of a row's begin
module _ (l : List ℕ) (i c : ℕ) (b : Bool) (e : b ≡ starts_with eqb l (10 ∷ i ∷ c ∷ [])) where
  pub row-found : b ≡ true → row_in l i c ≡ word (line (drop 3 l))
  unfolding row_in
  row-found t = let s : l ≡ 10 ∷ i ∷ c ∷ drop 3 l = (starts_is Decides-eqb l (10 ∷ i ∷ c ∷ []) b e).0 t in rw s (rw (eq-eqb i i refl, eq-eqb c c refl))

  others : (x y z : ℕ) (m : List ℕ) → l ≡ x ∷ y ∷ z ∷ m → b ≡ false → (eqb x 10 && (eqb y i && eqb z c)) ≡ false
  others x y z m s f = go (eqb x 10 && (eqb y i && eqb z c)) refl
    where
      go : (d : Bool) → d ≡ (eqb x 10 && (eqb y i && eqb z c)) → d ≡ false
      go true g = let t : b ≡ true = (starts_is Decides-eqb l (10 ∷ i ∷ c ∷ []) b e).1 m (grind arith) in grind arith
      go false g = refl

pub row_next : (l : List ℕ) (i c : ℕ) (b : Bool) → b ≡ starts_with eqb l (10 ∷ i ∷ c ∷ []) → b ≡ false → row_in l i c ≡ row_in (drop 1 l) i c
unfolding row_in
row_next [] i c b e f = refl
row_next (x ∷ []) i c b e f = refl
row_next (x ∷ y ∷ []) i c b e f = refl
row_next (x ∷ y ∷ z ∷ m) i c b e f = rw (others (x ∷ y ∷ z ∷ m) i c b e x y z m refl f)

-- one item more on top
pub put_on : (q : List ℕ) (t x : ℕ) → 0 < t → t ≤ length q → drop (t - 1) (set q (t - 1) x) ≡ x ∷ drop t q
put_on q t x p h =
    let e : t - 1 + 1 ≡ t = omega arith in
    at_byte (set q (t - 1) x) (t - 1) (omega (arith, length-set q (t - 1) x)) ∙ rw (get_or-set_same q (t - 1) x 0 (omega arith), e, drop-set-lt t q (t - 1) x (omega arith))

-- every row is short
abbrev short_rows : List (List ℕ) → Bool
short_rows [] = true
short_rows (r ∷ rs) = leb (length (drop 2 r)) (growth + 1) && short_rows rs

rule-short : (rs : List (List ℕ)) → short_rows rs ≡ true → (i c : ℕ) (w : List ℕ) → rule_in rs i c ≡ word w → length w ≤ growth + 1
rule-short [] h i c w e = let z : ◌≡◌ {A = ℕ} 0 1 = cc in absurd (omega arith)
rule-short (r ∷ rs) h i c w e = go (eqb (get_or r 0 0) i && eqb (get_or r 1 0) c) e (rule-short rs (and_right (leb (length (drop 2 r)) (growth + 1)) (short_rows rs) h) i c w)
  where
    go : (b : Bool) → pick b (word (drop 2 r)) (rule_in rs i c) ≡ word w → (rule_in rs i c ≡ word w → length w ≤ growth + 1) → length w ≤ growth + 1
    go true f ih =
        let s : drop 2 r ≡ w = cc in
        rw (← s) (leb-true (length (drop 2 r)) (growth + 1) (and_left (leb (length (drop 2 r)) (growth + 1)) (short_rows rs) h))
    go false f ih = ih f

-- what was found in the table is what follows
module _ (g : List ℕ) (is : g ≡ table) (i c x : ℕ) (class : x ≡ class_of c) where
  expand-is : row_in g i x ≡ expand i c
  unfolding expand
  expand-is = rw (is, class) (table-rules i (class_of c))

  pub absent : row_in g i x ≡ none → expand i c ≡ none
  absent e = sym expand-is ∙ e

  pub present : {w : List ℕ} → row_in g i x ≡ word w → expand i c ≡ word w
  present e = sym expand-is ∙ e

  pub present-short : {w : List ℕ} → row_in g i x ≡ word w → length w ≤ growth + 1
  unfolding expand
  present-short {w} e = rule-short rows refl i (class_of c) w (present e)

-- every bound is small
pub bound-small : (i : ℕ) → bound_of i ≤ 2 ^ 32
unfolding bound_of
bound-small i = go (eqb i 68) (eqb i 73) (eqb i 77)
  where
    go : (a b c : Bool) → pick a variables (pick b variables (pick c (2 ^ 31 + 1) (largest + 1))) ≤ 2 ^ 32
    go true b c = omega arith
    go false true c = omega arith
    go false false true = omega arith
    go false false false = omega arith

-- a row's items are put on top
pub row_fits : (q w : List ℕ) (top : ℕ) → length w ≤ top → top ≤ length q → length (take (top - (top - length w)) (drop (top - length w) q)) ≡ length w
row_fits q w top h l =
    let e : top - (top - length w) ≡ length w = omega arith in
    length-take-le (top - (top - length w)) (drop (top - length w) q) (omega (arith, length-drop (top - length w) q)) ∙ e

pub put_row : (q w y : List ℕ) (top : ℕ) → length w ≤ top → top ≤ length q → y ≡ w → drop (top - length w) (put_mid (top - length w) (top - (top - length w)) q y) ≡ w ++ drop top q
put_row q w y top h l e =
    let f : top - length w + (top - (top - length w)) ≡ top = omega arith in
    drop_at (take (top - length w) q) _ (top - length w) (length-take-le (top - length w) q (omega arith)) ∙ rw (e, drop-drop (top - (top - length w)) (top - length w) q, f)
