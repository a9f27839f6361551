-- Lines after lines, and that a text is the lines of one list only. Assumes nothing.
use mathlib.Core.Path.{◌≡◌, refl, ap, ap₂, sym, ◌∙◌}
use mathlib.Core.List.{List, [], ◌∷◌, ◌++◌, append_assoc, append-nil}
use Prim.Native.Nat.{ℕ, zero, suc, ◌+◌, ◌≤◌, ◌<◌}
use native.Mathlib.Omega.{arith}
use native.Mathlib.Numerals.{add-one}
use lib.ListN.{length, take, drop, get_or, length-append, take-append-drop}
use lib.Seq.{take-suc}
use Rattle.lines.specs.Lines.{text, AllValid, Spells, NoLine}

module _ {A : Type 0} (spell : A → List ℕ) where
  pub text-append : (xs ys : List A) → text spell (xs ++ ys) ≡ text spell xs ++ text spell ys
  unfolding text
  text-append [] ys = refl
  text-append (x ∷ xs) ys = rw (text-append xs ys) (sym (append_assoc (spell x) _ (text spell ys)))

  -- one line more
  pub text-more : (xs : List A) (d : A) (j : ℕ) → j < length xs → text spell (take (j + 1) xs) ≡ text spell (take j xs) ++ (spell (get_or xs j d) ++ 10 ∷ [])
  unfolding text
  text-more xs d j h = rw (add-one, take-suc xs j d h) (text-append (take j xs) (get_or xs j d ∷ []))

  pub text-parts : (xs : List A) (j : ℕ) → length (text spell xs) ≡ length (text spell (take j xs)) + length (text spell (drop j xs))
  text-parts xs j =
      ap (λ (ys : List A). length (text spell ys)) (sym (take-append-drop j xs))
      ∙ rw (text-append (take j xs) (drop j xs)) (length-append (text spell (take j xs)) (text spell (drop j xs)))

  pub text-take : (xs : List A) (j : ℕ) → length (text spell (take j xs)) ≤ length (text spell xs)
  text-take xs j = omega (arith, text-parts xs j)

module _ {A : Type 0} (Valid : A → Type 0) where
  pub valid-append : (xs ys : List A) → AllValid Valid xs → AllValid Valid ys → AllValid Valid (xs ++ ys)
  valid-append [] ys v w = w
  valid-append (x ∷ xs) ys v w = (v.0, valid-append xs ys v.1 w)

  pub valid-at : (xs : List A) (j : ℕ) (d : A) → AllValid Valid xs → j < length xs → Valid (get_or xs j d)
  valid-at [] j d v h = absurd (omega arith)
  valid-at (x ∷ xs) zero d v h = v.0
  valid-at (x ∷ xs) (suc j) d v h = valid-at xs j d v.1 (omega arith)

-- a line at the front of a text is that of one valid x only, and so is what follows it
pub record Unambiguous {A : Type 0} (spell : A → List ℕ) (Valid : A → Type 0) : Type 0 where
  pub same : (x y : A) (r s : List ℕ) → Valid x → Valid y → spell x ++ 10 ∷ r ≡ spell y ++ 10 ∷ s → (x ≡ y) × (r ≡ s)

pub no-line-empty : {A : Type 0} (spell : A → List ℕ) (Valid : A → Type 0) → NoLine spell Valid []
no-line-empty spell Valid x rest v e = omega (arith, ap length e, length-append (spell x) (10 ∷ rest))

module _ {A : Type 0} {spell : A → List ℕ} {Valid : A → Type 0} (u : Unambiguous spell Valid) where
  -- of a text that is lines up to where none begins, lines at the front are the first of these
  pub front_rest : (xs ys : List A) (r s : List ℕ) → AllValid Valid xs → AllValid Valid ys → NoLine spell Valid s → text spell ys ++ s ≡ text spell xs ++ r
      → (zs : List A) × (ys ≡ xs ++ zs) × (r ≡ text spell zs ++ s) × AllValid Valid zs
  unfolding text
  front_rest [] ys r s v w n e = (ys, refl, sym e, w)
  front_rest (x ∷ xs) [] r s v w n e = absurd (n x (text spell xs ++ r) v.0 (e ∙ append_assoc (spell x) (10 ∷ text spell xs) r))
  front_rest (x ∷ xs) (y ∷ ys) r s v w n e =
      let f : spell y ++ 10 ∷ (text spell ys ++ s) ≡ spell x ++ 10 ∷ (text spell xs ++ r) =
      sym (append_assoc (spell y) (10 ∷ text spell ys) s) ∙ e ∙ append_assoc (spell x) (10 ∷ text spell xs) r in
      let a = u.same y x (text spell ys ++ s) (text spell xs ++ r) w.0 v.0 f in
      let q = front_rest xs ys r s v.1 w.1 n a.1 in
      (q.0, ap₂ ◌∷◌ a.0 q.1, q.2, q.3)

  -- lines up to where none begins are the same lines
  pub front-unique : (xs ys : List A) (r s : List ℕ) → AllValid Valid xs → AllValid Valid ys → NoLine spell Valid r → NoLine spell Valid s → text spell xs ++ r ≡ text spell ys ++ s
      → (xs ≡ ys) × (r ≡ s)
  unfolding text
  front-unique xs ys r s v w m n e = let q = front_rest xs ys r s v w n (sym e) in go q.0 q.1 q.2 q.3
    where
      go : (zs : List A) → ys ≡ xs ++ zs → r ≡ text spell zs ++ s → AllValid Valid zs → (xs ≡ ys) × (r ≡ s)
      go [] a b c = (sym (a ∙ append-nil xs), b)
      go (z ∷ zs) a b c = absurd (m z (text spell zs ++ s) c.0 (b ∙ append_assoc (spell z) (10 ∷ text spell zs) s))

  -- a text is the lines of one list of valid xs only
  pub text-unique : (xs ys : List A) → AllValid Valid xs → AllValid Valid ys → text spell xs ≡ text spell ys → xs ≡ ys
  text-unique xs ys v w e =
      let n = no-line-empty spell Valid in
      (front-unique xs ys [] [] v w n n (append-nil (text spell xs) ∙ e ∙ sym (append-nil (text spell ys)))).0

  pub spells-unique : {t : List ℕ} {xs ys : List A} → Spells spell Valid t xs → Spells spell Valid t ys → xs ≡ ys
  spells-unique {xs = xs} {ys = ys} a b = text-unique xs ys a.valid b.valid (sym a.lines ∙ b.lines)
