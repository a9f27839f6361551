-- `values_of` meets its contract. Assumes nothing.
use mathlib.Core.Path.{ap, ◌∙◌}
use mathlib.Core.List.{List}
use Prim.Native.Nat.{ℕ}
use lib.ListN.{length, get_or, drop, length-replicate}
use lib.Seq.{get_or-drop, get_or-take}
use Rattle.language.specs.Spelling.{variables}
use Rattle.start.proofs.values_of.Goals as goal

pub returns : goal.returns
returns c = (
  c.copy_from_slice.ensures.len ∙ ap length c.no_values-values.ensures ∙ length-replicate {A = ℕ} variables 0,
  λ x h. ap (λ (ns : List ℕ). get_or ns x 0) c.copy_from_slice.ensures.after ∙ get_or-take variables (drop 2 c.args.numbers) x 0 h ∙ get_or-drop 2 c.args.numbers x 0,
)
