-- Names and the zero bytes behind them: where the letters of bytes end, there the name ends that they hold. Assumes nothing.
use mathlib.Core.Path.{◌≡◌, refl, sym, ap, ◌∙◌}
use mathlib.Core.List.{List, ◌++◌}
use Prim.Native.Nat.{ℕ, ◌+◌, ◌-◌, ◌≤◌, ◌<◌}
use native.Mathlib.Decide.{dec_lt}
use native.Mathlib.Omega.{arith}
use lib.ListN.{length, get_or, take, drop, replicate, length-append, length-drop, get_or-append}
use lib.Seq.{sets, sets-eq, take_at, ext_get_or, get_or-take, get_or-drop, get_or-append-add, length-take-le}
use Rattle.bits.proofs.Rows.{zeros}
use Rattle.stage_names.specs.Names.{name_bytes, Letter, ValidName, filled, Named, Letters}

module _ (b : List ℕ) {i : ℕ} where
  pub all-letters : 1 ≤ length b → length b ≤ name_bytes → Letters b i → i ≡ length b → ValidName b
  all-letters some few f e = record { some = some; few = few; letters = λ j h. f j (omega arith) }

  pub letters-all : i ≤ length b → (i < length b → Letter (get_or b i 0) → ⊥) → ValidName b → i ≡ length b
  letters-all h stops v = go (dec_lt i (length b))
    where
      go : Dec (i < length b) → i ≡ length b
      go (yes l) = absurd (stops l (v.letters i l))
      go (no l) = omega arith

-- what stands behind the first n
abbrev Behind : List ℕ → ℕ → List ℕ
Behind b n = take (length b - n) (drop n b)

pub behind-length : (b : List ℕ) (n : ℕ) → n ≤ length b → length (Behind b n) ≡ length b - n
behind-length b n h = length-take-le (length b - n) (drop n b) (let e = length-drop n b in omega arith)

pub behind : (b : List ℕ) (n i : ℕ) → i < length b - n → get_or (Behind b n) i 0 ≡ get_or b (n + i) 0
behind b n i h = get_or-take (length b - n) (drop n b) i 0 h ∙ get_or-drop n b i 0

pub letter-zero : {b : ℕ} → b ≡ 0 → Letter b → ⊥
letter-zero e l = omega (arith, l.0)

pub filled-length : (n : List ℕ) → length n ≤ name_bytes → length (filled n) ≡ name_bytes
filled-length n h = length-append n _ ∙ (let z = (zeros (name_bytes - length n)).size in omega arith)

pub filled-letter : (n : List ℕ) (i : ℕ) → i < length n → get_or (filled n) i 0 ≡ get_or n i 0
filled-letter n i h = get_or-append n _ 0 i h

pub filled_zero : (n : List ℕ) (i : ℕ) → length n ≤ i → get_or (filled n) i 0 ≡ 0
filled_zero n i h =
    let e : i ≡ length n + (i - length n) = omega arith in
    ap (λ (k : ℕ). get_or (filled n) k 0) e ∙ get_or-append-add n _ (i - length n) 0 ∙ (zeros (name_bytes - length n)).zero (i - length n)

pub front : (n : List ℕ) → take (length n) (filled n) ≡ n
front n = take_at n _ (length n) refl

-- ---- the name that stands in the bytes

module _ {n b : List ℕ} (v : ValidName n) (is : b ≡ filled n) where
  -- a letter of the bytes is one of the name's
  letter-inside : (i : ℕ) → Letter (get_or b i 0) → i < length n
  letter-inside i l = go (dec_lt i (length n))
    where
      go : Dec (i < length n) → i < length n
      go (yes h) = h
      go (no h) = absurd (letter-zero (ap (λ (x : List ℕ). get_or x i 0) is ∙ filled_zero n i (omega arith)) l)

  inside-letter : (i : ℕ) → i < length n → Letter (get_or b i 0)
  inside-letter i h = rw (is, filled-letter n i h) (v.letters i h)

  pub named-letters : (i : ℕ) → i ≤ length b → Letters b i → (i < length b → Letter (get_or b i 0) → ⊥) → length n ≡ i
  named-letters i h f stops = go (dec_lt i (length n)) (dec_lt (length n) i)
    where
      go : Dec (i < length n) → Dec (length n < i) → length n ≡ i
      go (yes l) d = absurd (stops (omega (arith, ap length is, filled-length n v.few, v.few)) (inside-letter i l))
      go (no l) (yes m) = absurd (let z = letter-inside (length n) (f (length n) m) in omega arith)
      go (no l) (no m) = omega arith

  pub named-zero : (i : ℕ) → length n ≤ i → get_or b i 0 ≡ 0
  named-zero i h = ap (λ (x : List ℕ). get_or x i 0) is ∙ filled_zero n i h

pub filled-unique : {n m : List ℕ} → ValidName n → ValidName m → filled n ≡ filled m → n ≡ m
filled-unique {n} {m} v w e =
    let few = v.few in
    let size = filled-length n few in
    let same : length m ≡ length n =
    named-letters w e (length n) (omega arith) (inside-letter v refl) (λ h l. letter-zero (filled_zero n (length n) (omega arith)) l) in
    sym (front n) ∙ rw (e, ← same) (front m)

-- ---- the bytes that are a name

module _ (b : List ℕ) (size : length b ≡ name_bytes) (i : ℕ) (some : 1 ≤ i) (few : i ≤ name_bytes) where
  abbrev name : List ℕ
  name = take i b

  name-length : length name ≡ i
  name-length = length-take-le i b (omega arith)

  pub bytes-named : Letters b i → ((j : ℕ) → i ≤ j → j < name_bytes → get_or b j 0 ≡ 0) → Named b
  bytes-named f z = (name, valid, ext_get_or 0 b (filled name) (size ∙ sym (filled-length name (omega (arith, name-length)))) (λ j h. same j h (dec_lt j i)))
    where
      valid : ValidName name
      valid = record {
        some = omega (arith, name-length);
        few = omega (arith, name-length);
        letters = λ j h. rw (get_or-take i b j 0 (omega (arith, name-length))) (f j (omega (arith, name-length)));
      }

      same : (j : ℕ) → j < length b → Dec (j < i) → get_or b j 0 ≡ get_or (filled name) j 0
      same j h (yes l) = sym (filled-letter name j (omega (arith, name-length)) ∙ get_or-take i b j 0 l)
      same j h (no l) = z j (omega arith) (omega arith) ∙ sym (filled_zero name j (omega (arith, name-length)))

-- a name put over zeros
pub fill-zeros : (n : List ℕ) → length n ≤ name_bytes → sets (replicate name_bytes 0) 0 n ≡ filled n
fill-zeros n h =
    let z = zeros name_bytes in
    let y = zeros (name_bytes - length n) in
    let size : length (drop {A = ℕ} (0 + length n) (replicate name_bytes 0)) ≡ length {A = ℕ} (replicate (name_bytes - length n) 0) =
    length-drop (0 + length n) (replicate name_bytes 0) ∙ (let s = z.size in let t = y.size in omega arith) in
    let tail : drop {A = ℕ} (0 + length n) (replicate name_bytes 0) ≡ replicate (name_bytes - length n) 0 =
    ext_get_or 0 _ _ size (λ i l. get_or-drop (0 + length n) (replicate name_bytes 0) i 0 ∙ z.zero (0 + length n + i) ∙ sym (y.zero i)) in
    sets-eq n (replicate name_bytes 0) 0 (let s = z.size in omega arith) ∙ ap (λ (x : List ℕ). n ++ x) tail
