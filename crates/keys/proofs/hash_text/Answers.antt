-- `hash_text` meets its contract. The invariant: the hash of what is left after h is that of the whole. Assumes nothing.
use Rattle.keys.proofs.Told.{hash-step}
use Rattle.keys.specs.Store.{hash_from}
use native.Mathlib.Omega.{arith}
use Prim.Native.Nat.{◌-◌}
use mathlib.Core.Path.{◌≡◌, sym, ◌∙◌}
use Rattle.keys.proofs.hash_text.Goals as goal

pub loop-i-preserved : goal.loop-i-preserved
loop-i-preserved c =
    (omega arith, sym (hash-step c.args.text.now c.loop-i.h c.loop-i.i c.args.end (omega arith) (omega arith)) ∙ c.loop-i.invariant.1)

pub returns : goal.returns
unfolding hash_from
returns c =
    let z : c.args.end - c.loop-i.i ≡ 0 = omega arith in
    rw z at c.loop-i.invariant.1
