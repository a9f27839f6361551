-- A refusal is about one line only, and one line is told of each text. Assumes nothing.
use mathlib.Core.Path.{◌≡◌, refl, ap, sym, ◌∙◌}
use mathlib.Core.Bool.{Bool, true, false}
use mathlib.Core.List.{List}
use Prim.Native.Nat.{ℕ, ◌<◌}
use native.Mathlib.Omega.{arith}
use lib.Dec.{ltb}
use borrow.Author.Tests.{ltb-true, ltb-false}
use Rattle.lines.proofs.Texts.{spells-unique}
use Rattle.line_number.specs.First.{line_at}
use Rattle.line_number.proofs.First.{not-spelled, misspelled-unique}
use Rattle.language.specs.declared.Statement.{Statement}
use Rattle.program.specs.declared.Refusal.{Refusal}
use Rattle.program.specs.declared.Refusal.TheVariants.{Misspelled, LineCount, Placement, Target}
use Rattle.program.proofs.Texts.{statements-unambiguous}
use Rattle.blame.specs.Blame.{FirstBroken, Blames, LineTold, misspelled, broken, none}
use Rattle.blame.proofs.Blames.{none_of}

-- of two first places neither comes before the other
broken-before : {C : ℕ → ℕ → Statement → Type 0} {t : List ℕ} {m n : ℕ} (a : FirstBroken C t m) (b : FirstBroken C t n) → a.P ≡ b.P → a.s < b.s → ⊥
broken-before {C = C} a b e h = a.broken (rw e (b.before a.s h))

broken-unique : {C : ℕ → ℕ → Statement → Type 0} {t : List ℕ} {m n : ℕ} → FirstBroken C t m → FirstBroken C t n → m ≡ n
broken-unique a b = a.line ∙ ap line_at (go (ltb a.s b.s) refl (ltb b.s a.s) refl) ∙ sym b.line
  where
    e : a.P ≡ b.P
    e = spells-unique statements-unambiguous a.spells b.spells

    go : (p : Bool) → ltb a.s b.s ≡ p → (q : Bool) → ltb b.s a.s ≡ q → a.s ≡ b.s
    go true i q j = absurd (broken-before a b e (ltb-true a.s b.s i))
    go false i true j = absurd (broken-before b a (sym e) (ltb-true b.s a.s j))
    go false i false j = omega (arith, ltb-false a.s b.s i, ltb-false b.s a.s j)

pub blames-unique : (t : List ℕ) (r : Refusal) {m n : ℕ} → Blames t r m → Blames t r n → m ≡ n
blames-unique t Misspelled a b = misspelled-unique statements-unambiguous a b
blames-unique t LineCount a b = a ∙ sym b
blames-unique t Placement a b = broken-unique a b
blames-unique t Target a b = broken-unique a b

-- one line only is told of a text
pub told-unique : {t : List ℕ} {r : Refusal} {m n : ℕ} → LineTold t r m → LineTold t r n → m ≡ n
told-unique (misspelled a) (misspelled b) = misspelled-unique statements-unambiguous a b
told-unique (misspelled a) (broken b) = absurd (not-spelled statements-unambiguous a b.P b.spells)
told-unique (misspelled a) (none b i) = absurd (not-spelled statements-unambiguous a b.P b.spells)
told-unique (broken a) (misspelled b) = absurd (not-spelled statements-unambiguous b a.P a.spells)
told-unique (broken a) (broken b) = broken-unique a b
told-unique (broken a) (none b i) = absurd (a.broken (none_of b a.P a.spells a.s a.inside))
told-unique (none a i) (misspelled b) = absurd (not-spelled statements-unambiguous b a.P a.spells)
told-unique (none a i) (broken b) = absurd (b.broken (none_of a b.P b.spells b.s b.inside))
told-unique (none a i) (none b j) = i ∙ sym j
