-- `word` meets its contract: what is copied lies where it is put. Assumes nothing.
use mathlib.Core.Path.{◌≡◌, refl, ap, ◌∙◌}
use native.Mathlib.Omega.{arith}
use lib.ListN.{length}
use lib.Seq.{length-sets, take_all}
use Rattle.statement_writer.proofs.Puts.{sets_more}
use Rattle.statement_writer.proofs.word.Goals as goal

pub loop-i-init : goal.loop-i-init
loop-i-init c = refl

pub bounds-out-at : goal.bounds-out-at
bounds-out-at c =
    let e : length c.loop-i.out ≡ length c.args.out.now = ap length c.loop-i.invariant ∙ simp length-sets in
    omega arith

pub loop-i-preserved : goal.loop-i-preserved
loop-i-preserved c = rw c.loop-i.invariant (sets_more c.args.w.now c.args.out.now c.args.at c.loop-i.i c.loop-i-test.true)

pub shape_of-out : goal.shape_of-out
shape_of-out c = ap length c.loop-i.invariant ∙ simp length-sets

pub returns : goal.returns
returns c =
    record {
      text = c.loop-i.invariant ∙ rw (take_all c.loop-i.i c.args.w.now c.loop-i-test.false);
      after = refl;
    }
