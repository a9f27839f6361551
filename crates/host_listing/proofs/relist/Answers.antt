use Rattle.host_listing.proofs.relist.Goals as goal

pub returns : goal.returns
returns c = record { answer = c.relist-relisted.result; answers = c.relist-relisted.ensures; returned = c.tell.ensures }
