-- Going over the lines of a text that is known to be lines: where they begin and end. Assumes nothing.
use mathlib.Core.Path.{◌≡◌, refl, ap, sym, ◌∙◌}
use mathlib.Core.List.{List, [], ◌∷◌, ◌++◌}
use Prim.Native.Nat.{ℕ, suc, ◌+◌, ◌-◌, ◌≤◌, ◌<◌}
use native.Mathlib.Omega.{arith}
use native.Mathlib.Numerals.{add-one}
use lib.ListN.{length, take, drop, get_or, length-append, length-drop, take-append-drop}
use lib.Seq.{drop-cons, drop-append_seam, take_all}
use Rattle.lines.specs.Lines.{text, Spells, LineOf, NoLine}
use Rattle.lines.proofs.Texts.{text-append, text-parts, text-take, valid-at, Unambiguous}

module _ {A : Type 0} (spell : A → List ℕ) (Valid : A → Type 0) where
  -- line j of the list xs, counted from 0, begins at `at` of the text t; after the last line, j is the number of lines
  pub record Begins (t : List ℕ) (xs : List A) (j at : ℕ) : Type 0 where
    pub spells : Spells spell Valid t xs
    pub rest : drop at t ≡ text spell (drop j xs)
    pub upto : j ≤ length xs
    pub within : at ≤ length t

module _ {A : Type 0} {spell : A → List ℕ} {Valid : A → Type 0} where
  -- a line ends, its byte 10 included, as many bytes after its beginning as it has
  pub line-ends : {t : List ℕ} {at : ℕ} {x : A} {k : ℕ} → LineOf spell Valid t at x k → k ≡ at + (length (spell x) + 1)
  line-ends {t = t} {at = at} {x = x} {k = k} l =
      let e : length t - at ≡ length (spell x) + suc (length t - k) = simp (length-append, length-drop) at (ap length l.stands) in
      omega (arith, l.within)

  -- and further on
  pub line-further : {t : List ℕ} {at : ℕ} {x : A} {k : ℕ} → LineOf spell Valid t at x k → length t - k < length t - at
  line-further l = omega (arith, line-ends l, l.within)

  pub begins-first : {t : List ℕ} {xs : List A} → Spells spell Valid t xs → Begins spell Valid t xs 0 0
  begins-first s = record { spells = s; rest = s.lines; upto = omega arith; within = omega arith }

  module _ {t : List ℕ} {xs : List A} {j at : ℕ} (b : Begins spell Valid t xs j at) where
    left : length t - at ≡ length (text spell (drop j xs))
    left = sym (length-drop at t) ∙ ap length b.rest

    -- text is left exactly while lines are
    by-rest : {C : Type 0} → (j ≡ length xs → at ≡ length t → C) → (j < length xs → at < length t → C) → C
    unfolding text
    by-rest {C} done more = go (drop j xs) refl
      where
        go : (ys : List A) → drop j xs ≡ ys → C
        go [] e =
            let p : length xs - j ≡ 0 = sym (length-drop j xs) ∙ ap length e in
            let q : length t - at ≡ 0 = left ∙ ap (λ (l : List A). length (text spell l)) e in
            done (omega (arith, b.upto)) (omega (arith, b.within))
        go (y ∷ ys) e =
            let p : length xs - j ≡ suc (length ys) = sym (length-drop j xs) ∙ ap length e in
            let q : length t - at ≡ length (spell y) + suc (length (text spell ys)) = left ∙ ap (λ (l : List A). length (text spell l)) e ∙ length-append (spell y) (10 ∷ text spell ys) in
            more (omega arith) (omega arith)

    pub text-line : at < length t → j < length xs
    text-line h = by-rest (λ p q. absurd (omega arith)) (λ p q. p)

    pub text-done : length t ≤ at → j ≡ length xs
    text-done h = by-rest (λ p q. p) (λ p q. absurd (omega arith))

    -- a line begins where those before it end
    pub begins-position : at ≡ length (text spell (take j xs))
    begins-position = omega (arith, ap length b.spells.lines, text-parts spell xs j, left, b.within)

    -- the text from a line on
    line-here : (d : A) → j < length xs → drop at t ≡ spell (get_or xs j d) ++ 10 ∷ text spell (drop (suc j) xs)
    unfolding text
    line-here d h = b.rest ∙ ap (text spell) (drop-cons xs j d h)

    -- a line is found wherever one begins
    pub line-found : NoLine spell Valid (drop at t) → j < length xs → ⊥
    line-found n h = go xs refl
      where
        go : (ys : List A) → xs ≡ ys → ⊥
        go [] e = omega (arith, ap length e)
        go (d ∷ ys) e = n (get_or xs j d) (text spell (drop (suc j) xs)) (valid-at Valid xs j d b.spells.valid h) (line-here d h)

    -- and what is found there is that line
    module _ {x : A} {k : ℕ} (l : LineOf spell Valid t at x k) where
      pub line-inside : j < length xs
      line-inside = text-line (omega (arith, line-ends l, l.within))

      module _ (u : Unambiguous spell Valid) where
        same_line : (d : A) → (x ≡ get_or xs j d) × (drop k t ≡ text spell (drop (suc j) xs))
        same_line d =
            u.same x (get_or xs j d) (drop k t) (text spell (drop (suc j) xs)) l.valid (valid-at Valid xs j d b.spells.valid line-inside) (sym l.stands ∙ line-here d line-inside)

        pub line-is : (d : A) → x ≡ get_or xs j d
        line-is d = (same_line d).0

        pub line-next : Begins spell Valid t xs (j + 1) k
        line-next = record { spells = b.spells; rest = rw add-one (same_line x).1; upto = let h = line-inside in omega arith; within = l.within }

-- ---- where the lines of a text lie

module _ {A : Type 0} {spell : A → List ℕ} {Valid : A → Type 0} {t : List ℕ} {xs : List A} (s : Spells spell Valid t xs) where
  -- the text from where the first j lines end
  rest_at : (j : ℕ) → drop (length (text spell (take j xs))) t ≡ text spell (drop j xs)
  rest_at j =
      ap (drop (length (text spell (take j xs)))) (s.lines ∙ ap (text spell) (sym (take-append-drop j xs)) ∙ text-append spell (take j xs) (drop j xs))
      ∙ drop-append_seam (text spell (take j xs)) (text spell (drop j xs))

  pub line_at : (d : A) (j : ℕ) → j < length xs → LineOf spell Valid t (length (text spell (take j xs))) (get_or xs j d) (length (text spell (take (suc j) xs)))
  unfolding text
  line_at d j h =
      record {
        stands = rest_at j ∙ ap (text spell) (drop-cons xs j d h) ∙ ap (λ (r : List ℕ). spell (get_or xs j d) ++ 10 ∷ r) (sym (rest_at (suc j)));
        within = omega (arith, text-take spell xs (suc j), ap length s.lines);
        valid = valid-at Valid xs j d s.valid h;
      }

  -- all lines end where the text does
  pub lines_end : (j : ℕ) → length xs ≤ j → length (text spell (take j xs)) ≡ length t
  lines_end j h = ap (λ (ys : List A). length (text spell ys)) (take_all j xs h) ∙ sym (ap length s.lines)
