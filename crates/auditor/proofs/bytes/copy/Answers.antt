-- `auditor::bytes::copy` meets its contract. Assumes nothing.
use mathlib.Core.Path.{◌∙◌}
use Rattle.octets.proofs.Putting.{put_over}
use Rattle.auditor.proofs.bytes.copy.Goals as goal

pub returns : goal.returns
returns c =
    let start = c in
    c.put.ensures ∙ put_over start.args.out.now start.args.s.now start.requires
