-- A call of `keep` has one answer, and leaves one content of the lent bytes. Assumes nothing.
use mathlib.Core.Path.{◌≡◌, refl, sym, ap, ◌∙◌}
use mathlib.Core.Logic.{inl, inr}
use mathlib.Core.List.{List, [], ◌∷◌}
use Prim.Native.Nat.{ℕ, ◌+◌, ◌*◌, ◌≤◌, ◌<◌}
use native.Mathlib.Decide.{dec_lt}
use native.Mathlib.Omega.{arith}
use lib.Dec.{eqb}
use lib.ListN.{length, get_or}
use lib.Seq.{sets}
use Rattle.std.specs.Prelude.{Result, Ok, Err}
use Rattle.base.specs.Pick.{pick}
use Rattle.program.specs.declared.Refusal.TheVariants as program
use Rattle.calls.specs.Refusals.{number_of}
use Rattle.calls.specs.declared.Refusal as call
use Rattle.calls.specs.declared.Refusal.TheVariants as refusal
use Rattle.calls.proofs.Unique.{refuses-unique, refuses-not}
use Rattle.stages.specs.Stages.{stage_bytes, place_room, written}
use Rattle.stages.specs.Choice.{FirstEmpty, Chosen, Full}
use Rattle.stages.proofs.Places.{holds-place}
use Rattle.keep.specs.Keep.{Refused, number, KeepRefused, KeepFinished, KeepAnswers}
use Rattle.keep.specs.declared.Refusal.{Refusal}
use Rattle.keep.specs.declared.Refusal.TheVariants.{Misnamed, Full as NoPlace}

-- the refusal with number n
abbrev named : ℕ → call.Refusal Refusal
named n =
    get_or
    (refusal.Room ∷ refusal.Room ∷ refusal.Program program.Misspelled ∷ refusal.Program program.LineCount ∷ refusal.Program program.Placement ∷ refusal.Program program.Target ∷ [])
    n (pick (eqb n 24) (refusal.Text NoPlace) (refusal.Text Misnamed))

named-number : (r : call.Refusal Refusal) → named (number_of number r) ≡ r
named-number refusal.Room = refl
named-number (refusal.Program program.Misspelled) = refl
named-number (refusal.Program program.LineCount) = refl
named-number (refusal.Program program.Placement) = refl
named-number (refusal.Program program.Target) = refl
named-number (refusal.Text Misnamed) = refl
named-number (refusal.Text NoPlace) = refl

module _ {mem : List ℕ} where
  empty-unique : {k j : ℕ} → FirstEmpty mem k → FirstEmpty mem j → k ≡ j
  empty-unique {k} {j} e f = go (dec_lt k j) (dec_lt j k)
    where
      go : Dec (k < j) → Dec (j < k) → k ≡ j
      go (yes l) d = let o = f.before k l in absurd (e.empty o.0 o.1.0 o.1.1)
      go (no l) (yes m) = let o = e.before j m in absurd (f.empty o.0 o.1.0 o.1.1)
      go (no l) (no m) = omega arith

  chosen-unique : {n : List ℕ} {k j : ℕ} → Chosen mem n k → Chosen mem n j → k ≡ j
  chosen-unique (inl (t, h)) (inl (u, g)) = holds-place h g
  chosen-unique {k = k} (inl h) (inr (f, e)) = absurd (f k h)
  chosen-unique {j = j} (inr (f, e)) (inl g) = absurd (f j g)
  chosen-unique (inr (f, e)) (inr (g, d)) = empty-unique e d

  chosen-not : {n : List ℕ} {k : ℕ} → Chosen mem n k → Full mem n → ⊥
  chosen-not {k = k} (inl h) (f, all) = f k h
  chosen-not {k = k} (inr (g, e)) (f, all) = let o = all k e.inside in e.empty o.0 o.1.0 o.1.1

module _ (mem n t : List ℕ) where
  lent-apart : length mem < stage_bytes → stage_bytes ≤ length mem → ⊥
  lent-apart s e = omega arith

  second-unique : (r s : Refusal) → Refused mem n r → Refused mem n s → r ≡ s
  second-unique Misnamed Misnamed a b = refl
  second-unique Misnamed NoPlace a b = absurd (a b.0)
  second-unique NoPlace Misnamed a b = absurd (b a.0)
  second-unique NoPlace NoPlace a b = refl

  second-not : {q : List ℕ} {k : ℕ} → KeepFinished mem n t q k → (r : Refusal) → Refused mem n r → ⊥
  second-not f Misnamed a = a f.valid
  second-not f NoPlace a = chosen-not f.chosen a.1

  keep-not : (r : ℕ) {q : List ℕ} {k : ℕ} → KeepRefused mem n t r → KeepFinished mem n t q k → ⊥
  keep-not r a f = refuses-not lent-apart t (Refused mem n) number r a f.room f.taken (second-not f)

  keep-finished : {k j : ℕ} {q r : List ℕ} → KeepFinished mem n t q k → KeepFinished mem n t r j → (k ≡ j) × (q ≡ r)
  keep-finished a b =
      let same : a.k ≡ b.k = chosen-unique a.chosen b.chosen in
      (a.place ∙ ap (λ (i : ℕ). i + 1) same ∙ sym b.place, a.kept ∙ ap (λ (i : ℕ). sets mem (place_room * i) (written n t)) same ∙ sym b.kept)

  -- a call of `keep` has one answer, and leaves one content of the lent bytes
  pub keep-unique : (a b : Result ℕ (call.Refusal Refusal)) (q r : List ℕ) → KeepAnswers mem n t q a → KeepAnswers mem n t r b → (a ≡ b) × (q ≡ r)
  keep-unique (Err k) (Err j) q r x y =
      let same = refuses-unique lent-apart t (Refused mem n) number second-unique (number_of number k) (number_of number j) x.0 y.0 in
      (ap Err (sym (named-number k) ∙ ap named same ∙ named-number j), x.1 ∙ sym y.1)
  keep-unique (Err k) (Ok j) q r x y = absurd (keep-not (number_of number k) x.0 y)
  keep-unique (Ok k) (Err j) q r x y = absurd (keep-not (number_of number j) y.0 x)
  keep-unique (Ok k) (Ok j) q r x y = let f = keep-finished x y in (ap Ok f.0, f.1)
