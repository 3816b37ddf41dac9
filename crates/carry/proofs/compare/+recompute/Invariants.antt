-- The proof of the cycle of calls {recompute}: laws of a level for each return. The measure is the size. Assumes nothing.
use Rattle.carry.proofs.compare.+recompute.Given as goal

abbrev pub decreases-recompute : goal.decreases-recompute
decreases-recompute l = l.size
