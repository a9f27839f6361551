-- `forcing::number` meets its contract: the lists of the first n places are lent, with room for the search.
-- Assumes nothing.
use mathlib.Core.Path.{◌≡◌, sym, ◌∙◌}
use native.Mathlib.Omega.{arith}
use lib.Seq.{length-take-le, drop_at}
use lib.ListN.{length}
use Rattle.forcing.proofs.Told.{ranks-front}
use Rattle.forcing.proofs.number.Goals as goal

pub returns : goal.returns
returns c =
    let d = c.requires.directions_at.directions in
    let size : length c.rank.new.numbers ≡ c.args.n = c.rank.auto.numbers ∙ sym ((sym (length-take-le _ _ c.requires.n_in_bounds.2))) in
    record { ranks = ranks-front d.graph c.rank.new.numbers _ size (rw (c.of-steps.ensures.head, c.of-steps.ensures.link, c.of-steps.ensures.to, d.head_size) at c.rank.ensures); by_index = λ s. omega (arith, c.slice_known-2-1.given s); numbers_unchanged = drop_at c.rank.new.numbers _ _ size }
