-- The view of a condition over a program is one text only. Assumes nothing.
use mathlib.Core.Path.{◌≡◌, refl, ap, sym, ◌∙◌}
use mathlib.Core.Bool.{Bool, true}
use mathlib.Core.Logic.{◌↔◌}
use mathlib.Core.List.{List, [], ◌∷◌}
use Prim.Native.Nat.{ℕ, zero, suc, ◌-◌, ◌*◌, ◌<◌}
use native.Mathlib.Omega.{arith}
use lib.ListN.{length}
use Rattle.language.specs.declared.Statement.{Statement}
use Rattle.program.specs.Program.{at}
use Rattle.program.proofs.RoundTrip.{taken-unique}
use Rattle.base.proofs.Bools.{tests_agree}
use Rattle.condition.specs.Condition.{parts}
use Rattle.truth.specs.Truth.{Sat}
use Rattle.condition.proofs.Parts.{parts-few}
use Rattle.condition_reader.proofs.Unique as condition
use Rattle.table.specs.Table.{part_words, part_at}
use Rattle.table.proofs.Summaries.{counts-unique}
use Rattle.view.specs.View.{up_to, columns, mark, row, rows, view_text, PrintsView}

upto-agree : (f g : ℕ → List ℕ) (n : ℕ) → ((k : ℕ) → k < n → f k ≡ g k) → up_to n f ≡ up_to n g
unfolding up_to
upto-agree f g zero h = refl
upto-agree f g (suc n) h = rw (upto-agree f g n (λ k l. h k (omega arith)), h n (omega arith))

columns-agree : (f g : ℕ → ℕ) (n : ℕ) → 0 < n → ((k : ℕ) → k < n → f k ≡ g k) → columns f n ≡ columns g n
unfolding columns
columns-agree f g n l h =
    rw (upto-agree (λ k. f k ∷ []) (λ k. g k ∷ []) (n - 1) (λ k i. ap (λ (b : ℕ). b ∷ []) (h k (omega arith))), h (n - 1) (omega arith))

rows_agree : (f g : ℕ → ℕ → Bool) (n : ℕ) (P : List Statement) → 0 < n → ((k : ℕ) → k < n → (s : ℕ) → s < length P → f k s ≡ g k s) → rows f n P ≡ rows g n P
unfolding rows row
rows_agree f g n P l h =
    upto-agree (λ s. row f n s (at P s)) (λ s. row g n s (at P s)) (length P)
    (λ s i. rw (columns-agree (λ k. mark (f k s)) (λ k. mark (g k s)) n l (λ k j. ap mark (h k j s i))))

view-agree : {t u w x : List ℕ} (a : PrintsView t u w) (b : PrintsView t u x) → a.P ≡ b.P → a.c ≡ b.c
    → view_text a.P a.c a.truth a.satisfied a.first ≡ view_text b.P b.c b.truth b.satisfied b.first
unfolding view_text
view-agree a b p c =
    let tells : (k : ℕ) → k < length (parts a.c) → (s : ℕ) → s < length a.P → (b.truth k s ≡ true) ↔ Sat a.P (part_at a.c k) s = rw (p, c) b.tells in
    let decides : (s : ℕ) → (b.whole s ≡ true) ↔ ((s < length a.P) × Sat a.P a.c s) = rw (p, c) b.decides in
    let k = counts-unique a.whole b.whole (part_words * 64) (λ s. tests_agree (a.whole s) (b.whole s) (a.decides s) (decides s)) a.counts b.counts in
    let r = rows_agree a.truth b.truth (length (parts a.c)) a.P (parts-few a.c).0 (λ j l s i. tests_agree (a.truth j s) (b.truth j s) (a.tells j l s i) (tells j l s i)) in
    rw (r, k.0, k.1, p, c)

pub view-unique : {t u w x : List ℕ} → PrintsView t u w → PrintsView t u x → w ≡ x
view-unique a b =
    a.text
    ∙ view-agree a b (taken-unique a.program b.program) (condition.taken-unique a.condition b.condition)
    ∙ sym b.text
