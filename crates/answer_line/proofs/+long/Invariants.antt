use Rattle.answer_line.proofs.+long.Given as goal

abbrev pub decreases-long : goal.decreases-long
decreases-long l = l.n
