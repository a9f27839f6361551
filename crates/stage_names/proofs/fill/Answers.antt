-- `fill` meets its contract. Assumes nothing.
use mathlib.Core.Path.{ap, ◌∙◌}
use lib.Seq.{sets}
use mathlib.Core.List.{List}
use Prim.Native.Nat.{ℕ}
use Rattle.stage_names.proofs.Names.{fill-zeros}
use Rattle.stage_names.proofs.fill.Goals as goal

pub returns : goal.returns
returns c =
    c.word.ensures.text ∙ ap (λ (x : List ℕ). sets x 0 c.args.name.now) c.blank-out.ensures ∙ fill-zeros c.args.name.now c.requires
