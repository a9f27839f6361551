-- Proof devices: what the contracts of the functions that judge with widened uses say. No sentence of the documents stands here.
use Rattle.std.specs.Prelude.{◌≡◌, List, ◌⊎◌, ℕ, ◌<◌, take, Option, Some, None}
use Rattle.language.specs.declared.Expression.{Expression}
use Rattle.language.specs.declared.Statement.{Statement}
use Rattle.truth.specs.Truth.{uses_of}
use Rattle.atoms.specs.Facts.{used_in}
use Rattle.table.specs.Known.{KnownBy, Known, KnownIn}
use Rattle.marks.specs.Reading.{Taken}
use Rattle.marks.specs.Marks.{mark_at}
use Rattle.marks.specs.declared.Mark.{Mark}
use Rattle.marks.specs.declared.Mark.TheVariants.{Rm, Rpl, Cse}
use Rattle.rewriting.specs.Verdicts.{number, Judged, Reuses, Widened, VerdictsBy}
use Rattle.rewriting.specs.declared.Verdict.{Verdict}
use Rattle.verdicts.specs.Judging.{VerdictsOf}

-- what a mark with the verdict byte b adds: a use of t where it is an accepted `cse` by t
abbrev pub Adds : Mark → ℕ → Option ℕ → Type 0
Adds m b (Some t) = (n : ℕ) × (e : Expression) × (m ≡ Cse n t e) × (b ≡ 0)
Adds m b None = (n t : ℕ) (e : Expression) → m ≡ Cse n t e → b ≡ 0 → ⊥

-- the uses of P and those that the accepted `cse` lines before line j add: with all lines it is `Widened`
abbrev pub WidenedBelow : List Statement → List Mark → ℕ → ℕ → ℕ → Type 0
WidenedBelow P ms j x s = uses_of P x s ⊎ ((i : ℕ) × (i < j) × Reuses P (take i ms) (mark_at ms i) x s)

-- the facts by P's own uses are now the facts by the widened ones, for every program that the facts and the graph are of, and whose
-- verdicts by its own uses stand in the bytes
abbrev pub Widens : List ℕ → List ℕ → List ℕ → List ℕ → Type 0
Widens t old vs new =
    (P : List Statement) (n : ℕ) (codes : List (List ℕ)) (flow : List ℕ) → Known P n old codes flow
    → (ms : List Mark) → Taken t ms → VerdictsBy (uses_of P) P ms vs → KnownBy (Widened P ms) P n new codes flow

-- an `rm` whose verdict is by its condition
abbrev pub Open : Mark → ℕ → Type 0
Open (Rm n x e) b = (b ≡ 14) ⊎ (b ≡ 0)
Open (Rpl n x a) b = ⊥
Open (Cse n t e) b = ⊥

-- a verdict by P's own uses, whose byte is b, becomes one by the uses that the rows have, whose byte is r
abbrev pub Again : ℕ → List ℕ → List (List ℕ) → List ℕ → Mark → ℕ → ℕ → Type 0
Again n rows codes flow m b r =
    (P : List Statement) → KnownIn P n rows codes flow → (earlier : List Mark) (v : Verdict) → Judged (uses_of P) P earlier m v → b ≡ number v
    → (w : Verdict) × Judged (used_in rows) P earlier m w × (r ≡ number w)

-- the same of all marks of the list; all bytes beyond theirs are kept
abbrev pub JudgesAgain : List ℕ → ℕ → List ℕ → List (List ℕ) → List ℕ → List ℕ → List ℕ → Type 0
JudgesAgain t n rows codes flow old new =
    (P : List Statement) → KnownIn P n rows codes flow → (ms : List Mark) → Taken t ms → VerdictsBy (uses_of P) P ms old
    → VerdictsOf (used_in rows) P ms old new
