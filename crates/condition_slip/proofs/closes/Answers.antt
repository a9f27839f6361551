-- `closes` meets its contract. The invariant: no place before k has the bracket. Assumes nothing.
use Rattle.condition_slip.proofs.Closing.{none_more, none-closes, read_whole, read-part}
use lib.Seq.{length-take-le}
use lib.ListN.{drop, length-drop}
use native.Mathlib.Omega.{arith}
use Prim.Native.Nat.{◌+◌, ◌-◌}
use Rattle.condition_slip.proofs.closes.Goals as goal

pub returns-then-text-end : goal.returns-then-text-end
returns-then-text-end c = λ a. absurd (omega (arith, a.within))

pub returns-then-text-end-ne41 : goal.returns-then-text-end-ne41
returns-then-text-end-ne41 c = λ a. c.if-text-end-ne41.true a.closes

pub loop-k-init : goal.loop-k-init
loop-k-init c = ((λ j h. absurd (omega arith)), omega arith)

pub returns-then-byte-eq0 : goal.returns-then-byte-eq0
returns-then-byte-eq0 c =
    let k = c.loop-k.k in
    let z = length-take-le (c.args.end - (k + 1)) (drop (k + 1) c.args.text.now) (omega (arith, length-drop (k + 1) c.args.text.now)) in
    let r = read_whole (omega arith) c.byte_of-byte.ensures c.if-byte-eq0.true in
    record { within = omega arith; closes = c.if-text-end-ne41.false; k = k; holds = record { before = c.loop-k-test.true; opens = c.if-text-k-eq40.true; c = r.0; spells = r.1 } }

pub loop-k-preserved-then-text-k-eq40 : goal.loop-k-preserved-then-text-k-eq40
loop-k-preserved-then-text-k-eq40 c =
    (none_more c.loop-k.invariant.0 (λ h. read-part c.byte_of-byte.ensures c.if-byte-eq0.false h.c h.spells), omega arith)

pub loop-k-preserved : goal.loop-k-preserved
loop-k-preserved c =
    (none_more c.loop-k.invariant.0 (λ h. c.if-text-k-eq40.false h.opens), omega arith)

pub returns : goal.returns
returns c = none-closes c.loop-k.invariant.0 c.loop-k-test.false
