-- `spaces` meets its contract: a part of the bytes is filled. Assumes nothing.
use Prim.Native.Nat.{◌+◌, ◌-◌}
use mathlib.Core.Path.{◌≡◌}
use native.Mathlib.Omega.{arith}
use Rattle.desk.proofs.Lengths.{spaces_put}
use Rattle.desk.proofs.columns.spaces.Goals as goal

pub returns : goal.returns
returns c =
    let e : (c.args.at + c.args.n) - c.args.at ≡ c.args.n = omega arith in
    rw e (spaces_put c.args.out.now c.fill.new.self c.args.at c.args.n c.requires (rw e at (c.fill.ensures.after (λ y h. h))))
