-- The proof of the cycle of calls {consistency_roots}: laws of a level for each return. The measure is the size. Assumes nothing.
use Rattle.tree.proofs.yields.+consistency_roots.Given as goal

abbrev pub decreases-consistency_roots : goal.decreases-consistency_roots
decreases-consistency_roots l = l.n
