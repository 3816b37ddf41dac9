-- The proof of the cycle of calls {part_root}. The measure is the count of leaves. Assumes nothing.
use Rattle.tree.proofs.parts.+part_root.Given as goal

abbrev pub decreases-part_root : goal.decreases-part_root
decreases-part_root l = l.n
