use Rattle.speed.proofs.lap.advance_to.Given as goal

abbrev pub decreases-loop-left : goal.decreases-loop-left
decreases-loop-left g l = l.left
