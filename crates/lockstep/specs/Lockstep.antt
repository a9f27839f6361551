-- Two runs side by side: document 01, "What a contract says here".
use Rattle.std.specs.Prelude.{◌≡◌, ◌⊎◌, List, ℕ, ◌<◌, length, get_or}
use Rattle.language.specs.declared.Statement.{Statement}
use Rattle.program.specs.Program.{at}
use Rattle.machine.specs.Machine.{State, before, ended}
use Rattle.machine.specs.declared.Answer.{Answer}
use Rattle.machine.specs.declared.Answer.TheVariants.{Ended, Fault, Spent}
use Rattle.truth.specs.Truth.{uses_of, Sat, SatBy}
use Rattle.marks.specs.Marks.{ValidMark}
use Rattle.marks.specs.declared.Mark.{Mark}
use Rattle.marks.specs.declared.Mark.TheVariants.{Rm, Rpl, Cse}
use Rattle.lockstep.specs.Rules.{Fits, Droppable, live, published, makes}

-- the variable by which a `cse` is made counts as used where it is made
abbrev pub Counted : (ℕ → ℕ → Type 0) → Mark → ℕ → Type 0
Counted U (Rm n x e) s = Unit
Counted U (Rpl n x a) s = Unit
Counted U (Cse n t e) s = U t s

-- the statement at place s becomes i: it is kept, or a mark is made that fits it, can't drop a fault, and whose condition is true there, where
-- variables count as used as U says
abbrev pub Change : (ℕ → ℕ → Type 0) → List Statement → ℕ → Statement → Type 0
Change U P s i =
    (i ≡ at P s) ⊎ ((m : Mark) × ValidMark m × Fits m (at P s) × Droppable m × SatBy U P (published m) s × Counted U m s × (i ≡ makes m (at P s)))

-- Q is P with some changes; what P uses counts as used
pub record Changed (U : ℕ → ℕ → Type 0) (P Q : List Statement) : Type 0 where
  pub same : length Q ≡ length P
  pub wide : (x s : ℕ) → uses_of P x s → U x s
  pub changes : (s : ℕ) → s < length P → Change U P s (at Q s)

-- every variable that P may still use before defining it holds the same value in both
abbrev pub Agree : List Statement → ℕ → List ℕ → List ℕ → Type 0
Agree P s vs ws = (x : ℕ) → Sat P (live x) s → get_or vs x 0 ≡ get_or ws x 0

-- both runs stand before the same statement, and R is true there; or both have ended alike
abbrev pub Side : (ℕ → List ℕ → List ℕ → Type 0) → State → State → Type 0
Side R (before s vs) (before t ws) = (s ≡ t) × R s vs ws
Side R (before s vs) (ended w) = ⊥
Side R (ended v) (before t ws) = ⊥
Side R (ended v) (ended w) = v ≡ w

-- "After k steps .. a run either stands before one statement or has ended with its value": both alike
abbrev pub Together : State → State → Type 0
Together a b = Side (λ s vs ws. Unit) a b

-- "the two runs answer the same value and the same steps, or 'spent' at the same statement; the 32 values [64 now] told with 'spent' may differ"; document 02: "Two runs
-- compared must fault together, at the same statement". Ticks aren't compared: a rewritten statement may cost something else
abbrev pub Alike : Answer → Answer → Type 0
Alike (Ended v k t) (Ended w l u) = (v ≡ w) × (k ≡ l)
Alike (Ended v k t) (Fault m l u) = ⊥
Alike (Ended v k t) (Spent n u) = ⊥
Alike (Fault n k t) (Ended w l u) = ⊥
Alike (Fault n k t) (Fault m l u) = (n ≡ m) × (k ≡ l)
Alike (Fault n k t) (Spent m u) = ⊥
Alike (Spent n t) (Ended w l u) = ⊥
Alike (Spent n t) (Fault m l u) = ⊥
Alike (Spent n t) (Spent m u) = n ≡ m
