use Rattle.host_listing.proofs.list.Goals as goal

pub returns : goal.returns
returns c = record { answer = c.list-listed.result; answers = c.list-listed.ensures; returned = c.tell.ensures }
