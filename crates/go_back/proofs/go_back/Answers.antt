-- `go_back` meets its contract. Assumes nothing.
use mathlib.Core.Path.{◌≡◌, sym, ap, ◌∙◌}
use mathlib.Core.List.{List}
use Prim.Native.Nat.{ℕ, ◌+◌, ◌-◌, ◌≤◌}
use native.Mathlib.Omega.{arith}
use lib.ListN.{length, take, drop}
use Rattle.base.proofs.Decides.{decided-true}
use Rattle.stages.specs.Stages.{head_bytes, most_text, length_in, text_in, place}
use Rattle.stages.specs.Choice.{HasName}
use Rattle.stages.proofs.Places.{taken-short}
use Rattle.stages.proofs.Looking.{part-text}
use Rattle.go_back.proofs.go_back.Goals as goal

-- ---- the text of the place that was found
within : {stages name part : List ℕ} {k n : ℕ} (h : HasName stages name k) → n ≡ length_in part → part ≡ place stages k → n ≤ most_text
within h n p = rw (n ∙ ap length_in p) h.1.stands.short

lent : {stages name : List ℕ} {k : ℕ} (part : List ℕ) (n : ℕ) (h : HasName stages name k) → n ≡ length_in part → part ≡ place stages k → take (head_bytes + n - head_bytes) (drop head_bytes part) ≡ h.0
lent part n h e p = part-text part n e ∙ ap text_in p ∙ sym h.1.stands.text

-- ---- what is left of what the calls and the return owe
pub slice_bounds-word-end : goal.slice_bounds-word-end
slice_bounds-word-end c = omega (arith, within c.in-Some.ensures c.length_of-end.ensures c.part-place.ensures.0, c.part-place.ensures.1)

pub word-bytes-requires : goal.word-bytes-requires
word-bytes-requires c =
    omega (arith, ap length (lent c.part-place.result.now _ c.in-Some.ensures c.length_of-end.ensures c.part-place.ensures.0), taken-short c.in-Some.ensures.1.stands.taken, c.if-text-lt-TEXT_BYTES.false)

pub overflow_cast-result : goal.overflow_cast-result
overflow_cast-result c =
    omega (arith, c.word-bytes.ensures.after, ap length (lent c.part-place.result.now _ c.in-Some.ensures c.length_of-end.ensures c.part-place.ensures.0), taken-short c.in-Some.ensures.1.stands.taken)

pub returns : goal.returns
returns c =
    record {
      t = c.in-Some.ensures.0;
      k = c.in-Some.k;
      room = (c.if-stages-lt-STAGE_BYTES.false, c.if-text-lt-TEXT_BYTES.false);
      valid = decided-true c.valid.result c.if-not-valid.false c.valid.ensures;
      holds = c.in-Some.ensures.1;
      fits = omega (arith, taken-short c.in-Some.ensures.1.stands.taken, c.if-text-lt-TEXT_BYTES.false);
      written = rw (lent c.part-place.result.now _ c.in-Some.ensures c.length_of-end.ensures c.part-place.ensures.0) at c.word-bytes.ensures;
    }
