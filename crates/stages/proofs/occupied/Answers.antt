-- `occupied` meets its contract. Assumes nothing.
use mathlib.Core.Path.{◌≡◌, ap, ◌∙◌}
use lib.ListN.{take}
use Rattle.base.proofs.Decides.{decided-true, decided-false, decides-same}
use Rattle.stage_names.specs.Names.{name_bytes}
use Rattle.stages.specs.Stages.{place}
use Rattle.stages.proofs.Looking.{repeats, occupies, occupied-taken}
use Rattle.stages.proofs.occupied.Goals as goal
use Rattle.stages.proofs.occupied.Goals.{After-name_of}

-- the name of place k
name-is : (c : After-name_of) → c.name_of.result.now ≡ take name_bytes (place c.args.stages.now c.args.k)
name-is c = c.name_of.ensures.0 ∙ ap (take name_bytes) c.part-bytes.ensures.0

pub returns-then-repeated : goal.returns-then-repeated
returns-then-repeated c =
    repeats c.args.stages.now c.args.k c.requires.by_index (decided-true c.repeated.result c.if-repeated.true c.repeated.ensures)

pub returns : goal.returns
returns c =
    let right = rw (name-is (goal.at.returns c).After-name_of) at (decided-true c.named.result c.if-not-named.false c.named.ensures) in
    let once = decided-false c.repeated.result c.if-repeated.false c.repeated.ensures in
    decides-same c.text_taken.result (occupies c.args.stages.now c.args.k c.requires.stage_bytes_in_bounds.1 right once)
    (occupied-taken c.args.stages.now c.args.k) (rw c.part-bytes.ensures.0 at c.text_taken.ensures)
