-- `line_of` meets its contract: the bytes between begin and end. Assumes nothing.
use Rattle.slips.specs.Slips.{up_to_end}
use Prim.Native.Nat.{◌-◌}
use Rattle.slips.proofs.Steps.{up-to-end, end-within}
use lib.ListN.{drop, length, length-drop}
use native.Mathlib.Omega.{arith}
use mathlib.Core.Path.{◌≡◌, ◌∙◌, ap}
use Rattle.slips.proofs.line_of.Goals as goal

pub returns : goal.returns
returns c =
    let t = c.args.text.now in
    let from = c.begin_of-from.result in
    let e : c.end_of-to.result - from ≡ length (up_to_end (drop from t)) = omega (arith, c.end_of-to.ensures) in
    rw e (up-to-end (drop from t)) ∙ ap up_to_end c.begin_of-from.ensures.text_value

pub slice_bounds-result-end : goal.slice_bounds-result-end
slice_bounds-result-end c =
    let t = c.args.text.now in
    omega (arith, c.end_of-to.ensures, end-within (drop c.begin_of-from.result t), length-drop c.begin_of-from.result t)
