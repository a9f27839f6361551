-- Laws of runs: where a run stands, and what a step makes of it.
use mathlib.Core.Path.{◌≡◌, refl, sym, ap, ap₂, ◌∙◌}
use mathlib.Core.Bool.{Bool, true, false}
use mathlib.Core.List.{List}
use Prim.Native.Nat.{ℕ, ◌+◌, ◌-◌, ◌≤◌, ◌<◌}
use native.Mathlib.Numerals.{add-one}
use native.Mathlib.Omega.{arith}
use lib.Dec.{eqb}
use lib.ListN.{length, get_or}
use Rattle.language.specs.declared.Statement.{Statement}
use Rattle.language.specs.declared.Statement.TheVariants.{Read, Write, Assign, Branch, Skip}
use Rattle.program.specs.Program.{at, InPlace, Targets, WellFormed}
use Rattle.program.specs.Reading.{statements}
use Rattle.program.specs.declared.Program.{Program}
use Rattle.program.proofs.Held.{held, at_held}
use Rattle.machine.specs.Machine.{Final, written, faulted, State, before, ended, after, value, stored, perform, step_from}
use Rattle.base.specs.Pick.{pick}
use Rattle.pricing.specs.Prices.{price}
use Rattle.machine.specs.Ticks.{cost, ticks}
use Rattle.machine.specs.Answer.{state_of, Ends}
use Rattle.std.specs.Prelude.{Option, None, Some}
use Rattle.machine.specs.declared.Next.{Next}
use Rattle.machine.specs.declared.Next.TheVariants.{Goto}

-- after k steps the run stands before the statement at place s of the program, with the values ws
pub record Stands (P : List Statement) (vs : List ℕ) (input k s : ℕ) (ws : List ℕ) : Type 0 where
  pub inside : s < length P
  pub state : after P vs input k ≡ before s ws

pub stands-first : (P : List Statement) (vs : List ℕ) (input : ℕ) → WellFormed P → Stands P vs input 0 0 vs
unfolding after
stands-first P vs input w = record { inside = omega (arith, w.counted.0); state = refl }

-- before the first step nothing is paid
pub none-paid : (ps : List ℕ) (P : List Statement) (vs : List ℕ) (input : ℕ) → 0 ≡ ticks ps P vs input 0
unfolding ticks
none-paid ps P vs input = refl

-- a statement in its place leads only to places of the program
pub perform-inside :
    (N s input t : ℕ) (vs us : List ℕ) (x : Statement)
    → 2 ≤ N → InPlace N s x → Targets N x → perform x input s vs ≡ before t us → t < N
perform-inside N s input t vs us (Read x) two p a e = let h : s + 1 ≡ t = cc in omega arith
perform-inside N s input t vs us (Write x) two p a e = let z : ◌≡◌ {A = ℕ} 0 1 = cc in omega arith
perform-inside N s input t vs us (Assign x v) two p a e = go (value vs v) e
  where
    go : (g : Option ℕ) → stored g x s vs ≡ before t us → t < N
    go (Some w) f = let h : s + 1 ≡ t = cc in omega arith
    go None f = absurd (let z : ◌≡◌ {A = ℕ} 0 1 = cc in omega arith)
perform-inside N s input t vs us (Branch x n m) two p a e = go (eqb (get_or vs x 0) 0) e
  where
    go : (w : Bool) → before (pick w m n - 1) vs ≡ before t us → t < N
    go true f = let h : m - 1 ≡ t = cc in omega arith
    go false f = let h : n - 1 ≡ t = cc in omega arith
perform-inside N s input t vs us Skip two p a e = let h : s + 1 ≡ t = cc in omega arith

-- a statement that faults is the one that is performed
pub fault-here : (x : Statement) (input s t : ℕ) (vs : List ℕ) → perform x input s vs ≡ ended (faulted t) → t ≡ s
fault-here (Read y) input s t vs e = absurd (let z : ◌≡◌ {A = ℕ} 0 1 = cc in omega arith)
fault-here (Write y) input s t vs e = absurd (let z : ◌≡◌ {A = ℕ} 0 1 = cc in omega arith)
fault-here (Assign y v) input s t vs e = go (value vs v) e
  where
    go : (g : Option ℕ) → stored g y s vs ≡ ended (faulted t) → t ≡ s
    go (Some w) f = absurd (let z : ◌≡◌ {A = ℕ} 0 1 = cc in omega arith)
    go None f = cc
fault-here (Branch y n m) input s t vs e = absurd (let z : ◌≡◌ {A = ℕ} 0 1 = cc in omega arith)
fault-here Skip input s t vs e = absurd (let z : ◌≡◌ {A = ℕ} 0 1 = cc in omega arith)

-- the ticks of one step more: with the price q of the statement before which the run stands
pub step-paid :
    {P : List Statement} {vs : List ℕ} {input k s : ℕ} {ws : List ℕ} → Stands P vs input k s ws
    → (ps : List ℕ) {q t : ℕ} → q ≡ price ps (at P s) → t ≡ ticks ps P vs input k → t + q ≡ ticks ps P vs input (k + 1)
unfolding ticks
step-paid {P = P} here ps e paid = rw add-one (ap₂ ◌+◌ paid (e ∙ sym (ap (cost ps P) here.state)))

-- one step more, where `told` is what `step` says of its answer n and the values us that it leaves
module _ (p : Program) (vs : List ℕ) (input k s : ℕ) (ws us : List ℕ) (n : Next)
    (here : Stands (statements p) vs input k s ws) (told : state_of n us ≡ perform (held p.entries s) input s ws) where
  step-performs : perform (at (statements p) s) input s ws ≡ state_of n us
  step-performs = rw (at_held p.entries p.count s here.inside) (sym told)

  pub step_after : after (statements p) vs input (k + 1) ≡ state_of n us
  unfolding after
  step_after = rw add-one (ap (step_from (statements p) input) here.state ∙ step-performs)

  pub step-inside : (t : ℕ) → WellFormed (statements p) → n ≡ Goto t → Stands (statements p) vs input (k + 1) t us
  step-inside t w e =
      let goes : state_of n us ≡ before t us = ap (λ (x : Next). state_of x us) e in
      record {
        inside = perform-inside (length (statements p)) s input t ws us (at (statements p) s) w.counted.0
            (w.placed s here.inside)
            (w.aimed s here.inside)
            (step-performs ∙ goes);
        state = step_after ∙ goes;
      }

  -- a fault is told with this place
  pub step-fault : (t : ℕ) → state_of n us ≡ ended (faulted t) → t ≡ s
  step-fault t e = fault-here (at (statements p) s) input s t ws (step-performs ∙ e)

  pub step-over : (v : Final) → state_of n us ≡ ended v → Ends (statements p) vs input (k + 1) v
  step-over v e = record {
    last = s;
    left = ws;
    steps = k;
    counted = add-one k;
    stands = here.state;
    over = step_after ∙ e;
  }
