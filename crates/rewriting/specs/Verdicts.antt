-- The verdict of each mark of a list, and the program with the accepted marks made: document 01, "Marks" and "Numbers for a refused
-- call or mark".
use Rattle.std.specs.Prelude.{◌≡◌, ◌⊎◌, List, [], ◌∷◌, ℕ, ◌-◌, ◌≤◌, ◌<◌, eqb, length, get_or, take}
use Rattle.language.specs.declared.Statement.{Statement}
use Rattle.program.specs.Program.{at}
use Rattle.bits.specs.Row.{count_below}
use Rattle.truth.specs.Truth.{uses_of, SatBy}
use Rattle.marks.specs.Marks.{names, mark_at}
use Rattle.marks.specs.declared.Mark.{Mark}
use Rattle.marks.specs.declared.Mark.TheVariants.{Rm, Rpl, Cse}
use Rattle.lockstep.specs.Rules.{Fits, Droppable, published, makes}
use Rattle.rewriting.specs.declared.Verdict.{Verdict}
use Rattle.rewriting.specs.declared.Verdict.TheVariants.{Accepted, Missing, Repeated, Unfit, MayFault, Unmet}

-- "(verdict byte; 0 is accepted): 11: n is 0 or above N. 12: an earlier line names n, accepted or not. 13: the mark doesn't fit. 14: its
-- condition is false at n."; document 02: "verdict 18 for one that doesn't [meet it], after 13 and before 14"
abbrev pub number : Verdict → ℕ
number Accepted = 0
number Missing = 11
number Repeated = 12
number Unfit = 13
number MayFault = 18
number Unmet = 14

-- statement n is one of N
abbrev pub Inside : ℕ → ℕ → Type 0
Inside N n = (1 ≤ n) × (n ≤ N)

-- one of the marks names n
abbrev pub Named : List Mark → ℕ → Type 0
Named [] n = ⊥
Named (m ∷ ms) n = (names m ≡ n) ⊎ Named ms n

-- the place of the statement that a mark names
abbrev pub place : Mark → ℕ
place m = names m - 1

-- the mark m, standing after the earlier ones, gets this verdict on P, where variables count as used as U says: it applies, and none before
-- it does
abbrev pub Judged : (ℕ → ℕ → Type 0) → List Statement → List Mark → Mark → Verdict → Type 0
Judged U P earlier m Missing = Inside (length P) (names m) → ⊥
Judged U P earlier m Repeated = Inside (length P) (names m) × Named earlier (names m)
Judged U P earlier m Unfit = Inside (length P) (names m) × (Named earlier (names m) → ⊥) × (Fits m (at P (place m)) → ⊥)
Judged U P earlier m MayFault =
    Inside (length P) (names m) × (Named earlier (names m) → ⊥) × Fits m (at P (place m)) × (Droppable m → ⊥)
Judged U P earlier m Unmet =
    Inside (length P) (names m) × (Named earlier (names m) → ⊥) × Fits m (at P (place m)) × Droppable m × (SatBy U P (published m) (place m) → ⊥)
Judged U P earlier m Accepted =
    Inside (length P) (names m) × (Named earlier (names m) → ⊥) × Fits m (at P (place m)) × Droppable m × SatBy U P (published m) (place m)

-- the verdict is one of a mark whose statement the program has
abbrev pub Stands : Verdict → Type 0
Stands Accepted = Unit
Stands Missing = ⊥
Stands Repeated = Unit
Stands Unfit = Unit
Stands MayFault = Unit
Stands Unmet = Unit

-- the mark is a `cse` by x at place s that is accepted after the earlier ones. Its condition has no `use`, so the program's own uses serve
abbrev pub Reuses : List Statement → List Mark → Mark → ℕ → ℕ → Type 0
Reuses P earlier (Rm n y e) x s = ⊥
Reuses P earlier (Rpl n y a) x s = ⊥
Reuses P earlier (Cse n t e) x s = (t ≡ x) × (place (Cse n t e) ≡ s) × Judged (uses_of P) P earlier (Cse n t e) Accepted

-- document 02: "each `rm` of the same list is judged with `use(T)` holding also at the statements whose `cse` with that T is accepted"
abbrev pub Widened : List Statement → List Mark → ℕ → ℕ → Type 0
Widened P ms x s = uses_of P x s ⊎ ((j : ℕ) × (j < length ms) × Reuses P (take j ms) (mark_at ms j) x s)

-- "Each is judged on the given program, line j's verdict filling byte j, counted from 0."
abbrev pub VerdictsBy : (ℕ → ℕ → Type 0) → List Statement → List Mark → List ℕ → Type 0
VerdictsBy U P ms vs = (j : ℕ) → j < length ms → (v : Verdict) × Judged U P (take j ms) (mark_at ms j) v × (get_or vs j 0 ≡ number v)

-- document 02: "and its published condition is from now on meant so". The other kinds' conditions have no `use`
abbrev pub Verdicts : List Statement → List Mark → List ℕ → Type 0
Verdicts P ms vs = VerdictsBy (Widened P ms) P ms vs

-- "A mark is accepted where its verdict byte is 0"
abbrev pub Accepts : List Mark → List ℕ → ℕ → Type 0
Accepts ms vs j = (j < length ms) × (get_or vs j 0 ≡ 0)

-- "the number .. of accepted marks"
abbrev pub accepted_count : List Mark → List ℕ → ℕ
accepted_count ms vs = count_below (λ j. eqb (get_or vs j 0) 0) (length ms)

-- "Accepted marks are all made together, refused ones aren't. The result has the same line count."
pub record Rewritten (P : List Statement) (ms : List Mark) (vs : List ℕ) (Q : List Statement) : Type 0 where
  pub same : length Q ≡ length P
  pub made : (j : ℕ) → Accepts ms vs j → at Q (place (mark_at ms j)) ≡ makes (mark_at ms j) (at P (place (mark_at ms j)))
  pub kept : (s : ℕ) → s < length P → ((j : ℕ) → Accepts ms vs j → place (mark_at ms j) ≡ s → ⊥) → at Q s ≡ at P s
