-- The proof of the cycle of calls {proof_into}: one law for each side of the split. The measure is the count of leaves. Assumes nothing.
use Rattle.tree.proofs.parts.+proof_into.Given as goal

abbrev pub decreases-proof_into : goal.decreases-proof_into
decreases-proof_into l = l.n
