-- The proof of the cycle of calls {inclusion_root}: one law of a level for each return. The measure is the size. Assumes nothing.
use Rattle.tree.proofs.yields.+inclusion_root.Given as goal

abbrev pub decreases-inclusion_root : goal.decreases-inclusion_root
decreases-inclusion_root l = l.size
