-- The proof of the cycle of calls {walk}: laws of a level for each return. The measure is the new size. Assumes nothing.
use Rattle.carry.proofs.walk.+walk.Given as goal

abbrev pub decreases-walk : goal.decreases-walk
decreases-walk l = l.n
