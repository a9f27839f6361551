-- Reading a text line by line. A reader gives its spelling, which values are valid, and that their lines are unambiguous; its loop goes from
-- `none_yet` by `one_more` to `whole` or to `no_lines`, and the list is the only one by `spells-unique`. Assumes nothing.
use mathlib.Core.Path.{◌≡◌, refl, ap, sym, ◌∙◌}
use mathlib.Core.List.{List, [], ◌∷◌, ◌++◌, append_assoc, append-nil}
use Prim.Native.Nat.{ℕ, ◌+◌, ◌≤◌, ◌<◌}
use native.Mathlib.Omega.{arith}
use lib.ListN.{length, drop, length-append, drop_of_length-le}
use lib.Seq.{drop-append_seam}
use Rattle.lines.specs.Lines.{text, AllValid, Spells, LineOf, NoLine}
use Rattle.lines.proofs.Texts.{text-append, valid-append, Unambiguous, no-line-empty, front_rest}
use Rattle.lines.proofs.Walk.{Begins, line-ends, text-line, line-found}

module _ {A : Type 0} (spell : A → List ℕ) (Valid : A → Type 0) where
  -- the text t up to the position is the lines of n valid values
  pub record SoFar (t : List ℕ) (n at : ℕ) : Type 0 where
    pub read : List A
    pub front : t ≡ text spell read ++ drop at t
    pub valid : AllValid Valid read
    pub counted : n ≡ length read
    pub paid : n ≤ at
    pub within : at ≤ length t

  unfoldable pub none_yet : (t : List ℕ) → SoFar t 0 0
  unfolding text
  none_yet t = record { read = []; front = refl; valid = tt; counted = refl; paid = omega arith; within = omega arith }

module _ {A : Type 0} {spell : A → List ℕ} {Valid : A → Type 0} {t : List ℕ} {n at : ℕ} (i : SoFar spell Valid t n at) where
  -- one line more
  unfoldable pub one_more : {x : A} {k : ℕ} → LineOf spell Valid t at x k → SoFar spell Valid t (n + 1) k
  unfolding text
  one_more {x = x} l =
      record {
        read = i.read ++ x ∷ [];
        front = i.front ∙ ap (λ (u : List ℕ). text spell i.read ++ u) l.stands ∙ rw (text-append spell i.read (x ∷ [])) (simp append_assoc);
        valid = valid-append Valid i.read (x ∷ []) i.valid (l.valid, tt);
        counted = omega (arith, i.counted, length-append i.read (x ∷ []));
        paid = omega (arith, i.paid, line-ends l);
        within = l.within;
      }

  -- at the text's end it is read whole
  pub whole : length t ≤ at → Spells spell Valid t i.read
  whole h = record { lines = i.front ∙ rw (drop_of_length-le t h) (append-nil (text spell i.read)); valid = i.valid }

  module _ (u : Unambiguous spell Valid) where
    -- whatever list the text spells, its line n begins at the position
    pub begins-here : {xs : List A} → Spells spell Valid t xs → Begins spell Valid t xs n at
    begins-here {xs = xs} s =
        let e : text spell xs ++ [] ≡ text spell i.read ++ drop at t = append-nil (text spell xs) ∙ sym s.lines ∙ i.front in
        let q = front_rest u i.read xs (drop at t) [] i.valid s.valid (no-line-empty spell Valid) e in
        go q.0 q.1 q.2
      where
        go : (zs : List A) → xs ≡ i.read ++ zs → drop at t ≡ text spell zs ++ [] → Begins spell Valid t xs n at
        go zs a b =
            let c : drop n xs ≡ zs = rw (a, i.counted) (drop-append_seam i.read zs) in
            record { spells = s; rest = b ∙ rw c (append-nil (text spell zs)); upto = omega (arith, ap length a, i.counted, length-append i.read zs); within = i.within }

    -- no line stands there though text is left: it spells no list
    pub no_lines : NoLine spell Valid (drop at t) → at < length t → (xs : List A) → Spells spell Valid t xs → ⊥
    no_lines m h xs s = let b = begins-here s in line-found b m (text-line b h)
