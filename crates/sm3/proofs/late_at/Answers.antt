-- `sm3::late_at` meets its contract: it is the late round of the words there. Assumes nothing.
use Rattle.sm3.proofs.late_at.Goals as goal

pub returns : goal.returns
returns c = c.late.ensures
