-- `atoms::mark` meets its contract: one row is replaced by itself with one place more. Assumes nothing.
use Rattle.atoms.proofs.Found.{row_room, marked-one}
use Rattle.bits.proofs.Tables.{part-row, part_length}
use Rattle.program.specs.Program.{row_words}
use mathlib.Core.Path.{◌≡◌}
use native.Mathlib.Omega.{arith}
use lib.ListN.{length}
use Rattle.atoms.proofs.mark.Goals as goal

pub returns : goal.returns
returns c =
    let rows = c.args.rows.now in
    let k = c.args.k in
    let fits = row_room rows k c.requires.0 c.requires.2 in
    let size : length c.insert.new.row ≡ row_words = omega (arith, c.insert.auto, part_length row_words rows k fits) in
    marked-one rows k c.args.s c.requires.0 c.requires.2 _ size
    (λ j. rw (part-row row_words rows k fits) at (c.insert.ensures j))
