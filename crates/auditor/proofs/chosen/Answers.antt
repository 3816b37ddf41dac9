-- `auditor::chosen` meets its contract. Assumes nothing.
use Rattle.auditor.specs.Held.{choice}
use Rattle.auditor.proofs.chosen.Goals as goal

pub returns-then-r : goal.returns-then-r
unfolding choice
returns-then-r c = rw c.if-r.true c.algorithm_held.ensures

pub returns : goal.returns
unfolding choice
returns c = rw c.if-r.false c.algorithm_of.ensures
