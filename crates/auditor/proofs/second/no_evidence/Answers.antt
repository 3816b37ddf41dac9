-- `auditor::second::no_evidence` meets its contract. Assumes nothing.
use Rattle.auditor.specs.Held.{no_evidence}
use Rattle.auditor.proofs.second.no_evidence.Goals as goal

pub returns : goal.returns
unfolding no_evidence
returns c = rw (c.no_id.ensures, c.no_root.ensures)
