-- `fill_atom` meets its contract: the atom is read again at its place. Assumes nothing.
use mathlib.Core.Path.{sym, ◌∙◌}
use lib.ListN.{drop}
use Rattle.atom_reader.proofs.Spelling.{atom-sound}
use Rattle.bits.proofs.Tables.{part_length}
use Rattle.table.specs.Table.{part_words}
use Rattle.table.proofs.Lent.{found-same, part-written}
use Rattle.table.proofs.fill_atom.Goals as goal

pub row-requires-clause-valid_atom : goal.row-requires-clause-valid_atom
row-requires-clause-valid_atom c =
    let read = sym c.in-Some.ensures.result_value in
    ((atom-sound (drop c.args.start c.args.text.now) _ _ read).1, c.requires.n_le_most.1)

pub returns : goal.returns
returns c = λ P a rest size f e.
    let read = sym c.in-Some.ensures.result_value in
    let l = c.row.auto.out ∙ part_length part_words c.args.table.now c.args.k c.requires.part_words_in_bounds in
    part-written part_words c.args.table.now c.args.k c.requires.part_words_in_bounds _ _ _ l (rw (found-same read e) at (c.row.ensures P size f))
