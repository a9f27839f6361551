-- `step` meets its contract: each kind is its clause of `perform`, and what it names lies in range, since the statement is valid. Assumes nothing.
use Prim.Native.Nat.{◌-◌, ◌%◌, ◌<◌}
use native.Mathlib.Omega.{arith}
use borrow.Author.Tests.{eq-eqb, ne_eqb}
use Rattle.language.specs.declared.Operator.TheVariants.{Add, Subtract, Multiply, Less, Equal, Divide}
use Rattle.encoding.specs.Encoding.{statement_in}
use Rattle.encoding.proofs.Entries.{operator-high}
use Rattle.dispatch.proofs.Performed.{in-range, performed}
use Rattle.dispatch.proofs.step.Goals as goal
use Rattle.dispatch.proofs.step.Goals.{In_default}

pub bounds-values-x : goal.bounds-values-x
unfolding statement_in
bounds-values-x c = rw c.in-0.is at c.requires.valid

pub bounds-values-x-in-1 : goal.bounds-values-x-in-1
unfolding statement_in
bounds-values-x-in-1 c = rw c.in-1.is at c.requires.valid

pub bounds-values-x-in-3 : goal.bounds-values-x-in-3
unfolding statement_in
bounds-values-x-in-3 c = (rw c.in-3.is at c.requires.valid).0

pub overflow_sub-result : goal.overflow_sub-result
unfolding statement_in
overflow_sub-result c = let t = rw c.in-3.is at c.requires.targets in omega (arith, t.1.0)

pub overflow_sub-result-else-values-x-eq0 : goal.overflow_sub-result-else-values-x-eq0
unfolding statement_in
overflow_sub-result-else-values-x-eq0 c = let t = rw c.in-3.is at c.requires.targets in omega (arith, t.0.0)

pub left-a-requires : goal.left-a-requires
unfolding statement_in
left-a-requires c = (rw c.in-4.is at c.requires.valid).1

pub bounds-values-x-in-4 : goal.bounds-values-x-in-4
unfolding statement_in
bounds-values-x-in-4 c = (rw c.in-4.is at c.requires.valid).0

pub operate-requires : goal.operate-requires
operate-requires c = in-range _ (omega (arith, c.in-5.is)) c.requires.valid c.requires.at_lt_most

pub operate-requires-in-6 : goal.operate-requires-in-6
operate-requires-in-6 c = in-range _ (omega (arith, c.in-6.is)) c.requires.valid c.requires.at_lt_most

pub operate-requires-in-7 : goal.operate-requires-in-7
operate-requires-in-7 c = in-range _ (omega (arith, c.in-7.is)) c.requires.valid c.requires.at_lt_most

pub operate-requires-in-8 : goal.operate-requires-in-8
operate-requires-in-8 c = in-range _ (omega (arith, c.in-8.is)) c.requires.valid c.requires.at_lt_most

pub operate-requires-in-9 : goal.operate-requires-in-9
operate-requires-in-9 c = in-range _ (omega (arith, c.in-9.is)) c.requires.valid c.requires.at_lt_most

-- all other kinds are above
high : (c : In_default) → 9 < c.args.e.head % 16
high c =
    let r = c.in_default.in_default-own.rest in
    let low : 4 < c.args.e.head % 16 = omega (arith, r.0.0.0.0.0.0.0.0.0, r.0.0.0.0.0.0.0.0.1, r.0.0.0.0.0.0.0.1, r.0.0.0.0.0.0.1, r.0.0.0.0.0.1) in
    omega (arith, low, r.0.0.0.0.1, r.0.0.0.1, r.0.0.1, r.0.1, r.1)

pub operate-requires-in_default : goal.operate-requires-in_default
operate-requires-in_default c = in-range _ (omega (arith, high (goal.at.operate-requires-in_default c).In_default)) c.requires.valid c.requires.at_lt_most

pub returns-in-0 : goal.returns-in-0
unfolding statement_in
returns-in-0 c = rw c.in-0.is

pub returns-in-1 : goal.returns-in-1
unfolding statement_in
returns-in-1 c = rw c.in-1.is

pub returns-in-2 : goal.returns-in-2
unfolding statement_in
returns-in-2 c = rw c.in-2.is

pub returns-then-values-x-eq0 : goal.returns-then-values-x-eq0
unfolding statement_in
returns-then-values-x-eq0 c = rw (c.in-3.is, eq-eqb _ _ c.if-values-x-eq0.true)

pub returns-else-values-x-eq0 : goal.returns-else-values-x-eq0
unfolding statement_in
returns-else-values-x-eq0 c = rw (c.in-3.is, ne_eqb _ _ c.if-values-x-eq0.false)

pub returns-in-4 : goal.returns-in-4
unfolding statement_in
returns-in-4 c = rw (c.in-4.is, ← c.left-a.ensures)

pub returns-in-5 : goal.returns-in-5
returns-in-5 c =
    let k = c.in-5.is in
    performed _ (omega (arith, k)) Add (rw k) _ _ _ c.operate.ensures

pub returns-in-6 : goal.returns-in-6
returns-in-6 c =
    let k = c.in-6.is in
    performed _ (omega (arith, k)) Subtract (rw k) _ _ _ c.operate-in-6.ensures

pub returns-in-7 : goal.returns-in-7
returns-in-7 c =
    let k = c.in-7.is in
    performed _ (omega (arith, k)) Multiply (rw k) _ _ _ c.operate-in-7.ensures

pub returns-in-8 : goal.returns-in-8
returns-in-8 c =
    let k = c.in-8.is in
    performed _ (omega (arith, k)) Less (rw k) _ _ _ c.operate-in-8.ensures

pub returns-in-9 : goal.returns-in-9
returns-in-9 c =
    let k = c.in-9.is in
    performed _ (omega (arith, k)) Equal (rw k) _ _ _ c.operate-in-9.ensures

pub returns-in_default : goal.returns-in_default
returns-in_default c =
    let e = c.args.e in
    let h = high (goal.at.returns-in_default c).In_default in
    let above : 4 < e.head % 16 - 5 = omega (arith, h) in
    performed _ (omega (arith, h)) Divide (operator-high (e.head % 16 - 5) above) _ _ _ c.operate-in_default.ensures
