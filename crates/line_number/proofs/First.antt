-- From the line at which the reading stops to the first that isn't spelled, which is one line only. Assumes nothing.
use mathlib.Core.Path.{◌≡◌, ap, sym, ◌∙◌}
use mathlib.Core.List.{List, [], append-nil}
use Prim.Native.Nat.{ℕ, ◌<◌}
use native.Mathlib.Omega.{arith}
use lib.ListN.{length, drop, length-drop}
use Rattle.lines.specs.Lines.{text, Spells, NoLine}
use Rattle.lines.proofs.Texts.{Unambiguous, no-line-empty, front-unique}
use Rattle.lines.proofs.Reading.{SoFar}
use Rattle.line_number.specs.First.{line_at, FirstMisspelled}

module _ {A : Type 0} {spell : A → List ℕ} {Valid : A → Type 0} {t : List ℕ} where
  -- no line stands there though text is left: it is the first that isn't spelled
  pub first-misspelled : {s p : ℕ} (so : SoFar spell Valid t s p) → NoLine spell Valid (drop p t) → p < length t → {k : ℕ} → k ≡ line_at s → FirstMisspelled spell Valid t k
  first-misspelled {s} {p} so m h e =
      record {
        xs = so.read;
        rest = drop p t;
        lines = so.front;
        valid = so.valid;
        more = omega (arith, length-drop p t);
        misspelled = m;
        line = e ∙ ap line_at so.counted;
      }

  module _ (u : Unambiguous spell Valid) where
    -- a text with a line that isn't spelled is that of no values
    pub not-spelled : {n : ℕ} → FirstMisspelled spell Valid t n → (ys : List A) → Spells spell Valid t ys → ⊥
    not-spelled m ys q =
        let e = sym m.lines ∙ q.lines ∙ sym (append-nil (text spell ys)) in
        let f = front-unique u m.xs ys m.rest [] m.valid q.valid m.misspelled (no-line-empty spell Valid) e in
        omega (arith, m.more, ap length f.1)

    -- it is one line only
    pub misspelled-unique : {m n : ℕ} → FirstMisspelled spell Valid t m → FirstMisspelled spell Valid t n → m ≡ n
    misspelled-unique a b =
        let e = (front-unique u a.xs b.xs a.rest b.rest a.valid b.valid a.misspelled b.misspelled (sym a.lines ∙ b.lines)).0 in
        a.line ∙ ap (λ (xs : List A). line_at (length xs)) e ∙ sym b.line
