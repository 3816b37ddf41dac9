-- The proof of the cycle of calls {path_into}: one law for each side of the split. The measure is the count of leaves. Assumes nothing.
use Rattle.tree.proofs.parts.+path_into.Given as goal

abbrev pub decreases-path_into : goal.decreases-path_into
decreases-path_into l = l.n
