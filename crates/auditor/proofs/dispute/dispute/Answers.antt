-- `auditor::dispute::dispute` meets its contract. Assumes nothing.
use mathlib.Core.Path.{sym, ap, ◌∙◌}
use Rattle.hash.proofs.Algorithms.{by_known, by_unknown}
use Rattle.auditor.specs.Dispute.{Finding, dispute_report, pair_disputed, dispute_by}
use Rattle.auditor.proofs.dispute.dispute.Goals as goal

pub returns-in-By : goal.returns-in-By
unfolding dispute_by
returns-in-By c =
    let named = c in
    let called = named in
    let a = called.args in
    let e = sym named.in-By.is ∙ called.algorithm_of-named.ensures in
    let done = c.dispute_by.ensures in
    (done.0 ∙ ap dispute_report (by_known _ _ _ _ e), done.1 ∙ ap (λ (o : Finding). pair_disputed o a.pair.now) (by_known _ _ _ _ e))

pub returns-in-Unknown : goal.returns-in-Unknown
unfolding dispute_by dispute_report pair_disputed
returns-in-Unknown c =
    let called = c in
    let a = called.args in
    let e = sym c.in-Unknown.is ∙ called.algorithm_of-named.ensures in
    (ap dispute_report (by_unknown _ _ _ e), ap (λ (o : Finding). pair_disputed o a.pair.now) (by_unknown _ _ _ e))
