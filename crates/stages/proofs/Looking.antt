-- What the code finds place by place. Assumes nothing.
use mathlib.Core.Path.{◌≡◌, sym, ap, ◌∙◌}
use mathlib.Core.List.{List}
use Prim.Native.Nat.{ℕ, ◌+◌, ◌-◌, ◌<◌}
use native.Mathlib.Omega.{arith}
use borrow.Author.Count.{below_more}
use lib.ListN.{take, drop}
use Rattle.program.specs.Reading.{Refused}
use Rattle.program.specs.declared.Refusal.{Refusal}
use Rattle.program.proofs.Unique.{taken_refused}
use Rattle.stage_names.specs.Names.{name_bytes, ValidName, filled, Named}
use Rattle.stage_names.proofs.Names.{filled-unique}
use Rattle.stages.specs.Stages.{places, head_bytes, place, length_in, text_in, Stands, Empty}
use Rattle.stages.specs.Choice.{Unknown, Occupied}
use Rattle.stages.specs.Looking.{TextTaken, Repeated, StandsNowhere}
use Rattle.stages.proofs.Places.{stands_of, stands-taken}

-- ---- the text of a place

module _ (b : List ℕ) (n : ℕ) (is : n ≡ length_in b) where
  -- the part that is read is the text
  abbrev Part : List ℕ
  Part = take (head_bytes + n - head_bytes) (drop head_bytes b)

  pub part-text : Part ≡ text_in b
  part-text = let e : head_bytes + n - head_bytes ≡ length_in b = omega arith in ap (λ (i : ℕ). take i (drop head_bytes b)) e

  pub text-refused : (r : Refusal) → Refused Part r → TextTaken b → ⊥
  text-refused r f (short, P, taken) = taken_refused (text_in b) taken r (rw part-text at f)

-- ---- the place of a name

module _ (mem n key : List ℕ) (v : ValidName n) (is : key ≡ filled n) (k : ℕ) where
  abbrev Here : Type 0
  Here = (take name_bytes (place mem k) ≡ key) × TextTaken (place mem k)

  pub name-not : StandsNowhere mem n k → (Here → ⊥) → StandsNowhere mem n (k + 1)
  name-not before f = below_more (λ j. (t : List ℕ) → Stands (place mem j) n t → ⊥) k before (λ t s. f (s.named ∙ sym is, stands-taken s))

  -- under a name that no place holds the place is empty
  pub known-empty : Unknown mem n → take name_bytes (place mem k) ≡ key → Empty mem k
  known-empty f e m t h =
      let s = h.stands in
      f k (t, rw (← filled-unique s.valid v (sym s.named ∙ e ∙ is)) h)

-- ---- whether a place holds a stage, where all before it do

module _ (mem : List ℕ) (k : ℕ) where
  pub occupied-taken : Occupied mem k → TextTaken (place mem k)
  occupied-taken (n, (t, h)) = stands-taken h.stands

  pub repeats : ((j : ℕ) → j < k → Occupied mem j) → Repeated mem k → Occupied mem k → ⊥
  repeats full (j, l, e) (n, (t, h)) = go (full j l)
    where
      go : Occupied mem j → ⊥
      go (m, (u, g)) =
          let same : m ≡ n = filled-unique g.stands.valid h.stands.valid (sym g.stands.named ∙ e ∙ h.stands.named) in
          h.first j l u (rw same at g.stands)

  pub occupies : k < places → Named (take name_bytes (place mem k)) → (Repeated mem k → ⊥) → TextTaken (place mem k) → Occupied mem k
  occupies inside (n, v, e) f taken =
      (n, (text_in (place mem k), record { inside = inside; stands = stands_of v e taken; first = λ j l u s. f (j, l, s.named ∙ sym e) }))

  pub full-more : ((j : ℕ) → j < k → Occupied mem j) → Occupied mem k → (j : ℕ) → j < k + 1 → Occupied mem j
  full-more f o = below_more (Occupied mem) k f o
