use Rattle.range_sets.proofs.walk.+add_greatest.Given as goal

abbrev pub decreases-add_greatest : goal.decreases-add_greatest
decreases-add_greatest l = l.bits
