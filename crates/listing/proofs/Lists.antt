-- The list of a program, and the list after a program became another. Assumes nothing.
use mathlib.Core.Path.{◌≡◌, refl, sym, ap, ◌∙◌, subst}
use mathlib.Core.Bool.{Bool, true, false, not}
use mathlib.Core.Logic.{◌↔◌, ⊎_elim}
use mathlib.Core.List.{List, ◌++◌}
use Prim.Native.Nat.{ℕ, ◌+◌, ◌*◌, ◌≤◌, ◌<◌}
use native.Mathlib.Decide.{dec_lt}
use native.Mathlib.Omega.{arith}
use lib.ListN.{length, drop, get_or-eq_default}
use Rattle.base.proofs.Bools.{split, clash}
use Rattle.base.proofs.Decides.{decides-same}
use Rattle.base.specs.Decides.{Decides}
use Rattle.base.specs.Pick.{pick}
use Rattle.language.specs.declared.Statement.TheVariants.{Skip}
use Rattle.language.specs.declared.Statement.{Statement}
use Rattle.program.proofs.Held.{held, at_held}
use Rattle.program.specs.Program.{at, row_words}
use Rattle.program.specs.Reading.{statements, Held}
use Rattle.program.specs.declared.Program.{Program}
use Rattle.bits.specs.Row.{member, row_of}
use Rattle.labelling.specs.Labels.{Labelled}
use Rattle.truth.specs.Truth.{Defines, Uses}
use Rattle.atoms.proofs.Found.{noted-defined, noted-used, noted-set, count-size}
use Rattle.atoms.specs.Facts.{fact_rows, placed, noted, Found}
use Rattle.listing.specs.Listing.{list_words, SetUpdated, Updated}
use Rattle.listing.specs.Writing.{Beyond, Merged, Made}
use Rattle.listing.proofs.Sets.{front-beyond, placed-front, beyond-both}

-- a test of equality, turned
differs-iff : {X : Type 0} (b : Bool) → Decides b X → (not b ≡ true) ↔ (X → ⊥)
differs-iff true d = (λ e. clash e refl, λ f. absurd (f d))
differs-iff false d = (λ e. d, λ f. refl)

-- the statements of two programs at one place, compared
module _ (p q : Program) (f : Held p) (g : Held q) (same : q.count ≡ p.count) (s : ℕ) (l : s < p.count) where
  of-given : at (statements p) s ≡ held p.entries s
  of-given = at_held p.entries p.count s (omega (arith, count-size p f))

  of-new : at (statements q) s ≡ held q.entries s
  of-new = at_held q.entries q.count s (omega (arith, count-size q g))

  pub place-differs : (b : Bool) → Decides b (held q.entries s ≡ held p.entries s) → (not b ≡ true) ↔ (at (statements q) s ≡ at (statements p) s → ⊥)
  place-differs b d = differs-iff b (decides-same b (λ e. of-new ∙ e ∙ sym of-given) (λ e. sym of-new ∙ e ∙ of-given) d)

-- ---- the list made afresh

-- the front of the lent words was cleared, and what is found of P is put there
pub made : (P : List Statement) (old mid front : List ℕ) {room : ℕ} {codes : List (List ℕ)} → list_words ≤ length old → Beyond old mid → Found P front room codes
    → Made P old (front ++ drop list_words mid)
made P old mid front room b f = record {
  beyond = beyond-both b beyond;
  listed = record {
    room = omega (arith, b.same, beyond.same);
    defined = λ v l. noted-set P whole bits (2 * v) (omega arith) (λ i. Defines i v) (λ i. noted-defined i v);
    used = λ v l. noted-set P whole bits (2 * v + 1) (omega arith) (λ i. Uses i v) (λ i. noted-used i v);
  };
}
  where
    whole : List ℕ
    whole = front ++ drop list_words mid

    wide : list_words ≤ length mid
    wide = omega (arith, b.same)

    beyond : Beyond mid whole
    beyond = front-beyond mid front wide f.many

    bits : (r j : ℕ) → r < fact_rows → placed whole r j ≡ noted (at P j) r
    bits r j h = placed-front mid front wide f.many r j h ∙ f.bits r j h

-- ---- the places of changed statements written

module _ (Q : List Statement) (places fresh old new : List ℕ) (w : Merged places fresh old new) {room : ℕ} {codes : List (List ℕ)} (f : Found Q fresh room codes) where
  module _ (P : List Statement) (n : ℕ) (given : length P ≡ n) (same : length Q ≡ n) (differ : Labelled n (member places) (λ s. at Q s ≡ at P s → ⊥)) where
    -- past the last line both have nothing
    past_same : (s : ℕ) → n ≤ s → at Q s ≡ at P s
    past_same s l = get_or-eq_default Q Skip (omega arith) ∙ sym (get_or-eq_default P Skip (omega arith))

    changed-place : (s : ℕ) → (at Q s ≡ at P s → ⊥) → member places s ≡ true
    changed-place s d = go (dec_lt s n)
      where
        go : Dec (s < n) → member places s ≡ true
        go (yes l) = (differ.exact s l).1 d
        go (no l) = absurd (d (past_same s (omega arith)))

    kept-place : (s : ℕ) → at Q s ≡ at P s → member places s ≡ false
    kept-place s e = go (dec_lt s n)
      where
        go : Dec (s < n) → member places s ≡ false
        go (yes l) = ⊎_elim (λ t. absurd ((differ.exact s l).0 t e)) (λ f. f) (split (member places s))
        go (no l) = differ.beyond s (omega arith)

    set-updated : (r : ℕ) → r < fact_rows → (Has : Statement → Type 0) → ((i : Statement) → (noted i r ≡ true) ↔ Has i)
        → SetUpdated P Q Has (row_of row_words old r) (row_of row_words new r)
    set-updated r h Has iff = record {
      changed = λ s d.
          let e : placed new r s ≡ noted (at Q s) r = w.bits r s h ∙ ap (λ (b : Bool). pick b (placed fresh r s) (placed old r s)) (changed-place s d) ∙ f.bits r s h in
          subst (λ (b : Bool). (b ≡ true) ↔ Has (at Q s)) (sym e) (iff (at Q s));
      kept = λ s e. w.bits r s h ∙ ap (λ (b : Bool). pick b (placed fresh r s) (placed old r s)) (kept-place s e);
    }

    pub updated : Updated P Q old new
    updated = record {
      same = w.beyond.same;
      defined = λ v l. set-updated (2 * v) (omega arith) (λ i. Defines i v) (λ i. noted-defined i v);
      used = λ v l. set-updated (2 * v + 1) (omega arith) (λ i. Uses i v) (λ i. noted-used i v);
      past = w.beyond.past;
    }
