use Rattle.listing.proofs.Sets.{MergedBelow}
use Rattle.listing.proofs.merge.Given as goal

abbrev pub invariant-loop-m : goal.invariant-loop-m
invariant-loop-m l = MergedBelow l.places l.fresh l.initial.list l.list l.m
