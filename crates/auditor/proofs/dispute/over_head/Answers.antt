-- `auditor::dispute::over_head` meets its contract. Assumes nothing.
use Rattle.auditor.proofs.dispute.over_head.Goals as goal

pub returns : goal.returns
returns c =
    let b = c in
    let p = b.requires in
    rw (← b.size_of-n.ensures, ← p.2, ← p.3) b.carry.ensures
