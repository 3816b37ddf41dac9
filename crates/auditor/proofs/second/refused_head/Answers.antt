-- `auditor::second::refused_head` meets its contract. Assumes nothing.
use Rattle.auditor.specs.Second.{evidence_of}
use Rattle.auditor.proofs.second.refused_head.Goals as goal

pub returns : goal.returns
unfolding evidence_of
returns c = rw (c.id_of.ensures, c.root_of.ensures)
