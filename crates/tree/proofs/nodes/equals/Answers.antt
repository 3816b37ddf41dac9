-- `tree::nodes::equals` meets its contract: the bytes are compared. Assumes nothing.
use Rattle.tree.proofs.nodes.equals.Goals as goal

pub returns : goal.returns
returns c = c.same.ensures
