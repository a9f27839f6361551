use Rattle.published.proofs.write_published.Goals as goal

pub write_unneeded-requires : goal.write_unneeded-requires
write_unneeded-requires c =
    let v = rw c.in-Rm.is at c.requires.0 in (v.1, c.requires.1)

pub write_copied-requires : goal.write_copied-requires
write_copied-requires c =
    let v = rw c.in-Rpl.is at c.requires.0 in (v.1, v.2, c.requires.1)

pub write_computed-requires : goal.write_computed-requires
write_computed-requires c =
    let v = rw c.in-Cse.is at c.requires.0 in (v.1, v.2, c.requires.1)

pub returns-in-Rm : goal.returns-in-Rm
returns-in-Rm c = rw c.in-Rm.is c.write_unneeded.ensures

pub returns-in-Rpl : goal.returns-in-Rpl
returns-in-Rpl c = rw c.in-Rpl.is c.write_copied.ensures

pub returns-in-Cse : goal.returns-in-Cse
returns-in-Cse c = rw c.in-Cse.is c.write_computed.ensures
