-- `auditor::dispute::settle` meets its contract: one law for each answer of the comparison. Assumes nothing.
use mathlib.Core.Path.{sym, ap, ◌∙◌}
use Rattle.carry.specs.Compare.{comparing}
use Rattle.auditor.proofs.Reporting.{compared_refused, compared_collision, compared_same, compared_pages}
use Rattle.auditor.proofs.dispute.settle.Goals as goal

-- from the comparison back to the entry
pub returns-in-Refused : goal.returns-in-Refused
returns-in-Refused c =
    let b = c in
    let a = b.args in
    let q = compared_refused a.page1.now a.page2.now a.pair.now _ _ (ap comparing (sym c.in-Refused.is) ∙ b.compare-compared.ensures.0) in
    (q.0, b.compare-compared.ensures.1 ∙ q.1)

pub returns-in-Collision : goal.returns-in-Collision
returns-in-Collision c =
    let b = c in
    let a = b.args in
    let q = compared_collision a.page1.now a.page2.now a.pair.now _ (ap comparing (sym c.in-Collision.is) ∙ b.compare-compared.ensures.0) in
    (q.0, b.compare-compared.ensures.1 ∙ q.1)

pub returns-then-same : goal.returns-then-same
returns-then-same c =
    let b = c in
    let a = b.args in
    let q = compared_same a.page1.now a.page2.now a.pair.now _ (ap comparing (sym c.in-Same.is) ∙ b.compare-compared.ensures.0) (sym c.same.ensures ∙ c.if-same.true) in
    (q.0, b.compare-compared.ensures.1 ∙ q.1)

pub returns : goal.returns
returns c =
    let b = c in
    let a = b.args in
    let q = compared_pages a.page1.now a.page2.now a.pair.now _ (ap comparing (sym c.in-Same.is) ∙ b.compare-compared.ensures.0) (sym c.same.ensures ∙ c.if-same.false) in
    (q.0, b.compare-compared.ensures.1 ∙ q.1)
