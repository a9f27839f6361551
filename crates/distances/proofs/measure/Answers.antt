-- The lists of the first n places are lent, with room for the search.
use Rattle.distances.proofs.Breadth.{found_front}
use lib.ListN.{length, take}
use lib.Seq.{length-take-le}
use native.Mathlib.Omega.{arith}
use mathlib.Core.Path.{◌≡◌, sym, ◌∙◌}
use Rattle.graph.proofs.Graphs.{heads-size}
use Rattle.distances.proofs.measure.Goals as goal

pub search-requires-clause-space : goal.search-requires-clause-space
search-requires-clause-space c =
    let size = heads-size c.args.opposite.now c.requires.opposite_len.0 _ c.requires.opposite_len.1 in
    let room : length (take c.args.n c.blank-queue.result) ≡ c.args.n = length-take-le _ _ (omega (arith, c.requires.opposite_len.1, c.blank-queue.ensures.size)) in
    rw (c.of-opposite.ensures.head, c.of-opposite.ensures.link, c.of-opposite.ensures.to)
    (record {
      linked = c.requires.linked;
      through_room = rw size c.requires.n_in_bounds.0;
      numbers_size = length-take-le _ _ c.requires.n_in_bounds.2 ∙ sym size;
      queue_room = omega (arith, size, room);
      small = omega (arith, size, c.requires.opposite_len.1);
    })

pub returns-clause-found : goal.returns-clause-found
returns-clause-found c =
    let size = heads-size c.args.opposite.now c.requires.opposite_len.0 _ c.requires.opposite_len.1 in
    let same : length c.search.new.numbers ≡ c.args.n = c.search.auto.numbers ∙ length-take-le _ _ c.requires.n_in_bounds.2 in
    found_front _ _ _ _ c.search.new.numbers _ same (rw (c.of-opposite.ensures.head, c.of-opposite.ensures.link, c.of-opposite.ensures.to, size) at c.search.ensures)
