-- The ones of each set, variable by variable. Assumes nothing.
use mathlib.Core.Path.{◌≡◌, sym, ap, ◌∙◌}
use mathlib.Core.List.{List}
use Prim.Native.Nat.{ℕ, ◌+◌, ◌*◌, ◌≤◌, ◌<◌}
use native.Mathlib.Omega.{arith}
use lib.ListN.{length, get_or}
use lib.Seq.{ext_get_or}
use Rattle.language.specs.Spelling.{variables}
use Rattle.program.specs.Program.{row_words}
use Rattle.bits.proofs.Counts.{count-ext}
use Rattle.bits.specs.Row.{row_of}
use Rattle.atoms.specs.Facts.{fact_rows, placed}
use Rattle.listing.specs.Listing.{list_words, ones, Counted}
use Rattle.listing.specs.Writing.{OnesFrom}
use Rattle.listing.proofs.Sets.{placed_same}

-- the sets of the variables below v are counted
pub record OnesBelow (k : ℕ) (l counts : List ℕ) (v : ℕ) : Type 0 where
  pub size : length counts ≡ variables
  pub each : (u : ℕ) → u < v → get_or counts u 0 ≡ ones (row_of row_words l (2 * u + k))

-- both kinds of sets
pub both-counted : (l defined used : List ℕ) → OnesFrom 0 l defined → OnesFrom 1 l used → Counted l defined used
both-counted l defined used d u = record {
  sizes = (d.size, u.size);
  of_defined = λ v h. let e : 2 * v + 0 ≡ 2 * v = omega arith in d.each v h ∙ ap (λ (k : ℕ). ones (row_of row_words l k)) e;
  of_used = u.each;
}

-- ---- one content of both arrays

module _ {d u e v : List ℕ} where
  pub counted-unique : {l : List ℕ} → Counted l d u → Counted l e v → (d ≡ e) × (u ≡ v)
  counted-unique a b = (
    ext_get_or 0 d e (a.sizes.0 ∙ sym b.sizes.0) (λ i h. let k : i < variables = omega (arith, a.sizes.0) in a.of_defined i k ∙ sym (b.of_defined i k)),
    ext_get_or 0 u v (a.sizes.1 ∙ sym b.sizes.1) (λ i h. let k : i < variables = omega (arith, a.sizes.1) in a.of_used i k ∙ sym (b.of_used i k)),
  )

-- lists with the same words have the same counts
pub counted_same : {a b d u : List ℕ} → list_words ≤ length a → list_words ≤ length b → ((m : ℕ) → m < list_words → get_or a m 0 ≡ get_or b m 0) → Counted b d u → Counted a d u
counted_same {a = a} {b = b} f g same c = record {
  sizes = c.sizes;
  of_defined = λ v h. c.of_defined v h ∙ sym (ones-same (2 * v) (omega arith));
  of_used = λ v h. c.of_used v h ∙ sym (ones-same (2 * v + 1) (omega arith));
}
  where
    ones-same : (r : ℕ) → r < fact_rows → ones (row_of row_words a r) ≡ ones (row_of row_words b r)
    ones-same r h = count-ext (placed a r) (placed b r) (row_words * 64) (λ j _. placed_same a b f g same r j h)
