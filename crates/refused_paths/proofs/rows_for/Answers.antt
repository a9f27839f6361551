-- `rows_for` meets its contract, by the kind of the mark. Assumes nothing.
use Rattle.refused_paths.proofs.Rows.{out-row}
use Rattle.refused_paths.proofs.rows_for.Goals as goal

pub row-requires : goal.row-requires
row-requires c = let v = rw c.in-Rm.is at c.requires.valid_mark.0 in let room = c.requires.valid_mark.1 in record { valid_atom = (v.1, room.sized); n_le_most = (room.few, c.blank_row-defined.ensures.size) }

pub row-requires-in-Rm : goal.row-requires-in-Rm
row-requires-in-Rm c = let v = rw c.in-Rm.is at c.requires.valid_mark.0 in let room = c.requires.valid_mark.1 in record { valid_atom = (v.1, room.sized); n_le_most = (room.few, c.requires.through_len.1) }

pub spoilt_rows-requires : goal.spoilt_rows-requires
spoilt_rows-requires c = let v = rw c.in-Rpl.is at c.requires.valid_mark.0 in record { valid_variable = (v.1, v.2, c.requires.valid_mark.1); through_len = c.requires.through_len }

pub spoilt_rows-requires-in-Cse : goal.spoilt_rows-requires-in-Cse
spoilt_rows-requires-in-Cse c = let v = rw c.in-Cse.is at c.requires.valid_mark.0 in record { valid_variable = (v.1, v.2, c.requires.valid_mark.1); through_len = c.requires.through_len }

pub returns-in-Rm : goal.returns-in-Rm
returns-in-Rm c = λ P f. rw c.in-Rm.is (record { passes = out-row (c.row.ensures P f.size f.facts) c.outside.ensures; ends = c.row-in-Rm.ensures P f.size f.facts })

pub returns-in-Rpl : goal.returns-in-Rpl
returns-in-Rpl c = λ P f. let s = c.spoilt_rows.ensures P f in rw c.in-Rpl.is (record { passes = s.passes; ends = s.ends })

pub returns-in-Cse : goal.returns-in-Cse
returns-in-Cse c = λ P f. let s = c.spoilt_rows-in-Cse.ensures P f in rw c.in-Cse.is (record { passes = s.passes; ends = s.ends })
