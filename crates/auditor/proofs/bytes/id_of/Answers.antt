-- `auditor::bytes::id_of` meets its contract. Assumes nothing.
use mathlib.Core.Path.{ap, ◌∙◌}
use Rattle.octets.specs.Bytes.{over}
use Rattle.auditor.proofs.bytes.id_of.Goals as goal

pub returns : goal.returns
returns c =
    c.copy.ensures ∙ ap (over c.args.s.now) c.no_id-a.ensures
