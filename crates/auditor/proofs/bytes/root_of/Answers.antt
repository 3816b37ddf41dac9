-- `auditor::bytes::root_of` meets its contract. Assumes nothing.
use mathlib.Core.Path.{sym, ap, ◌∙◌}
use lib.ListN.{length}
use Rattle.octets.proofs.Putting.{over_all}
use Rattle.auditor.proofs.bytes.root_of.Goals as goal

pub returns : goal.returns
returns c =
    let b = c in
    c.copy.ensures ∙ over_all b.args.s.now b.no_root-a.result (b.requires ∙ sym (ap length b.no_root-a.ensures))
