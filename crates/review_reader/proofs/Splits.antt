-- A text has one list of lines and one rest, and reading it line by line comes upon them. Assumes nothing.
use mathlib.Core.Path.{◌≡◌, refl, sym, ap, ◌∙◌}
use mathlib.Core.List.{List, [], ◌∷◌, ◌++◌, append_assoc, append-nil}
use Prim.Native.Nat.{ℕ, suc, ◌+◌, ◌-◌, ◌≤◌, ◌<◌}
use native.Mathlib.Numerals.{add-one}
use native.Mathlib.Omega.{arith}
use lib.ListN.{length, get_or, drop, length-append, length-drop, length-take, take-append-drop}
use lib.Seq.{get_or-append_seam, get_or-take, get_or-drop, drop-cons, drop-drop}
use Rattle.lines.specs.Lines.{text, AllValid, LineOf, NoLine}
use Rattle.lines.proofs.Texts.{Unambiguous, front-unique, front_rest}
use Rattle.lines.proofs.Reading.{SoFar, whole}
use Rattle.keys.specs.Store.{span}
use Rattle.review_reader.specs.Reading.{itself, Unbroken, Split, count_of_lines}
use Rattle.review_reader.specs.Walking.{EndsAt}

unbroken-line : (x y r s : List ℕ) → Unbroken x → Unbroken y → x ++ 10 ∷ r ≡ y ++ 10 ∷ s → (x ≡ y) × (r ≡ s)
unbroken-line [] [] r s v w e = (refl, cc)
unbroken-line [] (b ∷ y) r s v w e = let z : b ≡ 10 = cc in absurd (w 0 (omega arith) z)
unbroken-line (a ∷ x) [] r s v w e = let z : a ≡ 10 = cc in absurd (v 0 (omega arith) z)
unbroken-line (a ∷ x) (b ∷ y) r s v w e =
    let h : a ≡ b = cc in
    let t : x ++ 10 ∷ r ≡ y ++ 10 ∷ s = cc in
    let q = unbroken-line x y r s (λ i l. v (suc i) (omega arith)) (λ i l. w (suc i) (omega arith)) t in
    (cc q.0, q.1)

lines-unambiguous : Unambiguous itself Unbroken
lines-unambiguous = record { same = unbroken-line }

no_line : (rest : List ℕ) → Unbroken rest → NoLine itself Unbroken rest
no_line rest u x t v e = u (length x) (omega (arith, ap length e, length-append x (10 ∷ t))) (ap (λ (l : List ℕ). get_or l (length x) 0) e ∙ get_or-append_seam x 10 t 0)

pub split-unique : {u : List ℕ} {ls ms : List (List ℕ)} {r s : List ℕ} → Split u ls r → Split u ms s → (ls ≡ ms) × (r ≡ s)
split-unique {ls = ls} {ms = ms} {r = r} {s = s} a b =
    front-unique lines-unambiguous ls ms r s a.ended b.ended (no_line r a.unended) (no_line s b.unended) (sym a.text ∙ b.text)

pub count-least : (ls : List (List ℕ)) (rest : List ℕ) → length ls ≤ count_of_lines ls rest
count-least ls [] = omega arith
count-least ls (b ∷ rest) = omega arith

-- the line at a position
module _ {u : List ℕ} {at end : ℕ} (x : EndsAt u at end) where
  pub line_of : end < length u → LineOf itself Unbroken u at (span at end u) (end + 1)
  line_of l =
      let a = x.from in
      let e : at + (end - at) ≡ end = omega arith in
      record {
        stands =
            sym (take-append-drop (end - at) (drop at u))
            ∙ ap (λ (t : List ℕ). span at end u ++ t) (drop-drop (end - at) at u ∙ ap (λ (k : ℕ). drop k u) e ∙ drop-cons u end 0 l
            ∙ rw (x.ended l, add-one end));
        within = omega arith;
        valid = λ i b c.
            let d : i < end - at = omega (arith, length-take (end - at) (drop at u)) in
            x.unbroken (at + i) (omega arith) (omega arith) (sym (get_or-drop at u i 0) ∙ sym (get_or-take (end - at) (drop at u) i 0 d) ∙ c);
      }

module _ {u : List ℕ} {j at : ℕ} (so : SoFar itself Unbroken u j at) where
  -- nothing is left
  pub split-whole : length u ≤ at → Split u so.read []
  split-whole l = let w = whole so l in record { text = w.lines ∙ sym (append-nil (text itself so.read)); ended = w.valid; unended = λ i b. absurd (omega arith) }

  -- a line without its byte 10 is left
  pub split_rest : {end : ℕ} → EndsAt u at end → length u ≤ end → Split u so.read (drop at u)
  split_rest x l = record {
    text = so.front;
    ended = so.valid;
    unended = λ i b c. x.unbroken (at + i) (omega arith) (omega (arith, length-drop at u)) (sym (get_or-drop at u i 0) ∙ c);
  }

  -- where the line begins
  pub position : length (text itself so.read) ≡ at
  position = omega (arith, ap length so.front, length-append (text itself so.read) (drop at u), length-drop at u, so.within)

  module _ {ls : List (List ℕ)} {rest : List ℕ} (s : Split u ls rest) where
    left : (zs : List (List ℕ)) × (ls ≡ so.read ++ zs) × (drop at u ≡ text itself zs ++ rest) × AllValid Unbroken zs
    left = front_rest lines-unambiguous so.read ls (drop at u) rest so.valid s.ended (no_line rest s.unended) (sym s.text ∙ so.front)

    -- there are more lines than were read
    pub line-left : at < length u → j < count_of_lines ls rest
    unfolding text
    line-left l = let q = left in go q.0 q.1 rest q.2
      where
        go : (zs : List (List ℕ)) → ls ≡ so.read ++ zs → (r : List ℕ) → drop at u ≡ text itself zs ++ r → j < count_of_lines ls r
        go [] e [] f = absurd (omega (arith, ap length f, length-drop at u))
        go [] e (b ∷ r) f = omega (arith, so.counted, ap length e, length-append so.read [])
        go (z ∷ zs) e r f = omega (arith, so.counted, ap length e, length-append so.read (z ∷ zs), count-least ls r)

    -- and the next of them is the one found there
    pub line-here : {l : List ℕ} {k : ℕ} → LineOf itself Unbroken u at l k → (es : List (List ℕ)) × (ls ≡ so.read ++ l ∷ es)
    unfolding text
    line-here {l = l} {k = k} x = let q = left in go q.0 q.1 q.2 q.3
      where
        go : (zs : List (List ℕ)) → ls ≡ so.read ++ zs → drop at u ≡ text itself zs ++ rest → AllValid Unbroken zs → (es : List (List ℕ)) × (ls ≡ so.read ++ l ∷ es)
        go [] e f v = absurd (no_line rest s.unended l (drop k u) x.valid (sym f ∙ x.stands))
        go (z ∷ zs) e f v =
            let same = unbroken-line z l (text itself zs ++ rest) (drop k u) v.0 x.valid (sym (append_assoc z (10 ∷ text itself zs) rest) ∙ sym f ∙ x.stands) in
            (zs, e ∙ ap (λ (y : List ℕ). so.read ++ y ∷ zs) same.0)
