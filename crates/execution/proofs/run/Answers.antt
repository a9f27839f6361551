-- `run` meets its contract. The invariant: after `steps` steps, which the budget allows, the run stands before the statement at `at`, and took `ticks` under
-- every table by which the prices are those of the program.
use Rattle.language.specs.declared.Statement.{Statement}
use mathlib.Core.Path.{◌≡◌, refl, ap, sym, ◌∙◌}
use mathlib.Core.List.{List}
use Prim.Native.Nat.{ℕ, ◌≤◌, ◌<◌, ◌-◌}
use native.Mathlib.Omega.{arith}
use mir.Syntax.{w32}
use mir.Val.{Fits}
use borrow.Author.Rules.{rules}
use lib.ListN.{length, get_or}
use Rattle.program.specs.Program.{at, WellFormed}
use Rattle.program.specs.Reading.{statements}
use Rattle.program.proofs.Held.{held-valid, held-targets}
use Rattle.pricing.specs.Prices.{AtMost, price, column}
use Rattle.pricing.proofs.Columns.{column-length, column-at}
use Rattle.pricing.proofs.Fair.{column-most}
use Rattle.machine.specs.Machine.{written, ended}
use Rattle.machine.specs.Ticks as spec
use Rattle.machine.specs.Answer.{state_of}
use Rattle.machine.specs.declared.Next.{Next}
use Rattle.machine.proofs.Runs.{stands-first, step-inside, step-fault, step-over, step-paid, none-paid}
use Rattle.arithmetic.proofs.Words.{stored_same}
use Rattle.execution.proofs.run.Goals as goal
use Rattle.execution.proofs.run.Invariants.{Paid}
use Rattle.execution.proofs.run.Goals.{After-prices_of-prices}

priced : (ps : List ℕ) {P : List Statement} {prices : List ℕ} {s : ℕ} → WellFormed P → s < length P → prices ≡ column ps P → get_or prices s 0 ≡ price ps (at P s)
priced ps {P = P} {s = s} w h e = ap (λ (l : List ℕ). get_or l s 0) e ∙ column-at ps P w.counted.1 s h

pub loop-steps-init : goal.loop-steps-init
loop-steps-init c = (stands-first _ _ _ c.requires.well_formed, omega arith, omega arith, λ ps e. none-paid ps _ _ _)

pub step-next-requires : goal.step-next-requires
step-next-requires c =
    let p = c.args.program in
    let inside = c.loop-steps.invariant.0.inside in
    let w = c.requires.well_formed in
    record { valid = held-valid p.entries p.count _ inside w; targets = held-targets p.entries p.count _ inside w; at_lt_most = omega (arith, inside, w.counted.1) }

pub bounds-prices-i : goal.bounds-prices-i
bounds-prices-i c =
    let found = ap length c.prices_of-prices.ensures ∙ column-length _ _ in
    omega (arith, found, c.loop-steps.invariant.0.inside, c.requires.well_formed.counted.1)

-- a price has 32 bits
price-most : (c : After-prices_of-prices) (k : ℕ) → get_or c.prices_of-prices.result k 0 ≤ 4294967295
price-most c k =
    let table : AtMost 4294967295 c.args.table = λ j. let h : Fits w32 (get_or c.args.table j 0) = search rules in omega (arith, h.fits) in
    rw c.prices_of-prices.ensures (column-most 4294967295 c.args.table (statements c.args.program) table k)

pub overflow_add-ticks : goal.overflow_add-ticks
overflow_add-ticks c = omega (arith, price-most (goal.at.overflow_add-ticks c).After-prices_of-prices c.loop-steps.at, c.loop-steps.invariant.2)

pub loop-steps-preserved : goal.loop-steps-preserved
loop-steps-preserved c =
    let w = c.requires.well_formed in (
      step-inside c.args.program _ _ _ _ _ _ _ c.loop-steps.invariant.0 c.step-next.ensures _ w c.in-Goto.is,
      omega arith,
      omega (arith, price-most (goal.at.loop-steps-preserved c).After-prices_of-prices c.loop-steps.at, c.loop-steps.invariant.2),
      λ ps e. step-paid c.loop-steps.invariant.0 ps (priced ps w c.loop-steps.invariant.0.inside e) (c.loop-steps.invariant.3 ps e),
    )

pub returns-in-Finish : goal.returns-in-Finish
returns-in-Finish c =
    let us = c.step-next.new.values in
    let ends = ap (λ (x : Next). state_of x us) c.in-Finish.is ∙ ap (λ (ks : List ℕ). ended (written c.in-Finish.v ks)) (sym c.kept_of.ensures) in (
      c.in-Finish.v,
      step-over c.args.program _ _ _ _ _ us c.step-next.result c.loop-steps.invariant.0 c.step-next.ensures _ ends,
      omega (arith, c.loop-steps-test.true),
      stored_same c.in-Finish.v (search rules) c.cast_signed.ensures,
      refl,
      step-paid c.loop-steps.invariant.0 _ (priced _ c.requires.well_formed c.loop-steps.invariant.0.inside c.prices_of-prices.ensures) (c.loop-steps.invariant.3 _ c.prices_of-prices.ensures),
    )

pub overflow_add-number : goal.overflow_add-number
overflow_add-number c =
    let us = c.step-next.new.values in
    let here = step-fault c.args.program _ _ _ _ _ us c.step-next.result c.loop-steps.invariant.0 c.step-next.ensures _ (ap (λ (x : Next). state_of x us) c.in-Fault.is) in
    omega (arith, here, c.loop-steps.invariant.0.inside, c.requires.well_formed.counted.1)

pub returns-in-Fault : goal.returns-in-Fault
returns-in-Fault c =
    let us = c.step-next.new.values in (
      c.in-Fault.t,
      step-over c.args.program _ _ _ _ _ us c.step-next.result c.loop-steps.invariant.0 c.step-next.ensures _ (ap (λ (x : Next). state_of x us) c.in-Fault.is),
      omega arith,
      refl,
      refl,
      c.kept_of-in-Fault.ensures,
      step-paid c.loop-steps.invariant.0 _ (priced _ c.requires.well_formed c.loop-steps.invariant.0.inside c.prices_of-prices.ensures) (c.loop-steps.invariant.3 _ c.prices_of-prices.ensures),
    )

pub returns : goal.returns
returns c =
    let h : c.loop-steps.steps ≡ c.args.budget = omega arith in
    (c.loop-steps.at, refl, rw (← h) c.loop-steps.invariant.0.state, c.kept_of-2.ensures, rw (← h) (c.loop-steps.invariant.3 _ c.prices_of-prices.ensures))
