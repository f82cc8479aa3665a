use Rattle.yard_core.proofs.opening.equations.+place_up.Given as goal

abbrev pub decreases-place_up : goal.decreases-place_up
decreases-place_up l = l.steps
