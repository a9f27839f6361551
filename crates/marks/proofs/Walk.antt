-- Going over a list's lines as the reader of a line tells them. Assumes nothing.
use mathlib.Core.Path.{◌≡◌, refl, ◌∙◌, sym}
use mathlib.Core.List.{List}
use Prim.Native.Nat.{ℕ, ◌+◌, ◌-◌, ◌≤◌, ◌<◌}
use native.Mathlib.Omega.{arith}
use lib.ListN.{length, drop, get_or}
use Rattle.lines.specs.Lines.{text, LineOf, NoLine}
use Rattle.lines.proofs.Texts.{valid-at}
use Rattle.lines.proofs.Walk as walk
pub use Rattle.lines.proofs.Walk.{begins-first, text-line, text-done}
use Rattle.marks.specs.declared.Mark.{Mark}
use Rattle.std.specs.Prelude.{Option, Some, None}
use Rattle.marks.specs.Marks.{spell_mark, ValidMark, AllValid, Spells}
use Rattle.marks.specs.Reading.{MarkLineRead, begin_of, Lined}
use Rattle.marks.proofs.Spelling.{marks-unambiguous}

pub at-valid : (ms : List Mark) (j : ℕ) (d : Mark) → AllValid ms → j < length ms → ValidMark (get_or ms j d)
at-valid ms j d v h = valid-at ValidMark ms j d v h

-- what the reader of a line told
module _ (t : List ℕ) (at : ℕ) {r : Option (Mark × ℕ)} where
  pub no_line : r ≡ None → MarkLineRead t at r → NoLine spell_mark ValidMark (drop at t)
  no_line is l = rw is at l

  module _ {m : Mark} {k : ℕ} (is : r ≡ Some (m, k)) (l : MarkLineRead t at r) where
    pub line_of : LineOf spell_mark ValidMark t at m k
    line_of = rw is at l

    pub line-further : length t - k < length t - at
    line-further = walk.line-further line_of

-- line j of the list ms, counted from 0, begins at `at` of the text t
abbrev pub Begins : List ℕ → List Mark → ℕ → ℕ → Type 0
Begins t ms j at = walk.Begins spell_mark ValidMark t ms j at

module _ {t : List ℕ} {ms : List Mark} {j at : ℕ} (b : Begins t ms j at) {r : Option (Mark × ℕ)} where
  pub line-found : r ≡ None → MarkLineRead t at r → j < length ms → ⊥
  line-found is l h = walk.line-found b (no_line t at is l) h

  module _ {m : Mark} {k : ℕ} (is : r ≡ Some (m, k)) (l : MarkLineRead t at r) where
    pub line-inside : j < length ms
    line-inside = walk.line-inside b (line_of t at is l)

    pub line-mark : (d : Mark) → m ≡ get_or ms j d
    line-mark d = walk.line-is b (line_of t at is l) marks-unambiguous d

    pub line-next : Begins t ms (j + 1) k
    line-next = walk.line-next b (line_of t at is l) marks-unambiguous

-- ---- where the lines lie

-- the lines of a list follow without a gap
pub lined : {t : List ℕ} {ms : List Mark} → Spells t ms → Lined t ms
unfolding text
lined {ms = ms} s = record { first = refl; line = λ j h. walk.line_at s _ j h; last = walk.lines_end s (length ms) (omega arith) }

module _ {t : List ℕ} {ms : List Mark} {i at : ℕ} (b : Begins t ms i at) where
  pub begins-here : at ≡ begin_of ms i
  begins-here = walk.begins-position b

  -- at the text's end no line is left, so any further one begins there
  pub begins-beyond : length t ≤ at → (j : ℕ) → i ≤ j → at ≡ begin_of ms j
  begins-beyond h j l =
      let n = text-done b h in
      begins-here ∙ walk.lines_end b.spells i (omega (arith, n)) ∙ sym (walk.lines_end b.spells j (omega (arith, n)))
