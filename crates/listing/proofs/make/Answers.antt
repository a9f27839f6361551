-- `listing::make` meets its contract: the front of the lent words is cleared, and what is found of the program is put there. Assumes nothing.
use mathlib.Core.Path.{◌≡◌, sym, ◌∙◌}
use lib.ListN.{length}
use lib.Seq.{length-take-le}
use Rattle.listing.specs.Listing.{list_words}
use Rattle.listing.proofs.Lists.{made}
use Rattle.listing.proofs.Sets.{front-beyond, front-size, front-placeless}
use Rattle.listing.proofs.make.Goals as goal
use Rattle.listing.proofs.make.Goals.{After-clear}

pub slice_bounds-clear-end-2 : goal.slice_bounds-clear-end-2
slice_bounds-clear-end-2 c = sym (length-take-le list_words c.args.list.now c.requires.list_words_in_bounds)

-- the front that was cleared is as long as before
size : (c : After-clear) → length c.clear.new.row ≡ list_words
size c = c.clear.auto.row ∙ sym ((sym (length-take-le list_words c.args.list.now c.requires.list_words_in_bounds)))

pub slice_bounds-find-end-2 : goal.slice_bounds-find-end-2
slice_bounds-find-end-2 c = sym (front-size c.args.list.now c.clear.new.row c.requires.list_words_in_bounds (size (goal.at.slice_bounds-find-end-2 c).After-clear))

pub find-requires : goal.find-requires
find-requires c =
    record { held = c.requires.held; well_formed = c.requires.well_formed; placeless = front-placeless c.args.list.now c.clear.new.row c.requires.list_words_in_bounds (size (goal.at.find-requires c).After-clear) c.clear.ensures }

pub returns : goal.returns
returns c =
    let room = c.requires.list_words_in_bounds in
    made _ _ _ _ room (front-beyond c.args.list.now c.clear.new.row room (size (goal.at.returns c).After-clear)) c.find.ensures
