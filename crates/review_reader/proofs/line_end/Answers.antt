-- `line_end` meets its contract. The invariant: no byte 10 before k. Assumes nothing.
use lib.ListN.{get_or}
use borrow.Author.Count.{below_more}
use native.Mathlib.Omega.{arith}
use Prim.Native.Nat.{◌≤◌}
use mathlib.Core.Path.{◌≡◌}
use Rattle.review_reader.proofs.line_end.Goals as goal

pub loop-k-init : goal.loop-k-init
loop-k-init c = λ i a b. absurd (omega arith)

pub returns-then-s-k-eq10 : goal.returns-then-s-k-eq10
returns-then-s-k-eq10 c = record { from = omega arith; within = omega arith; unbroken = c.loop-k.invariant; ended = λ _. c.if-s-k-eq10.true }

pub loop-k-preserved : goal.loop-k-preserved
loop-k-preserved c =
    let s = c.args.s.now in
    let at = c.args.at in
    λ i a b. below_more (λ j. at ≤ j → get_or s j 0 ≡ 10 → ⊥) c.loop-k.k (λ j d e. c.loop-k.invariant j e d) (λ _. c.if-s-k-eq10.false) i b a

pub returns : goal.returns
returns c = record { from = omega arith; within = omega arith; unbroken = λ i a b. c.loop-k.invariant i a (omega arith); ended = λ b. absurd (omega arith) }
