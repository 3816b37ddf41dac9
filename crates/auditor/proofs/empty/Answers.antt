-- `auditor::empty` meets its contract. Assumes nothing.
use Rattle.auditor.specs.Held.{empty_record}
use Rattle.auditor.proofs.empty.Goals as goal

pub returns : goal.returns
unfolding empty_record
returns c = rw (c.no_id.ensures, c.no_root.ensures, c.no_evidence.ensures)
