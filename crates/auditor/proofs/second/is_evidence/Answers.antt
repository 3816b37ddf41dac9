-- `auditor::second::is_evidence` meets its contract: one law for each number. Assumes nothing.
use mathlib.Core.Path.{sym, ◌∙◌}
use borrow.Author.Tests.{eq-eqb, ne_eqb}
use Rattle.auditor.specs.Second.{is_evidence, other_root}
use Rattle.auditor.proofs.Offering.{view_held, view_empty}
use Rattle.auditor.proofs.second.is_evidence.Goals as goal

pub returns-then-number-eq8 : goal.returns-then-number-eq8
unfolding is_evidence
returns-then-number-eq8 c = simp (eq-eqb _ _ c.if-number-eq8.true)

pub returns-then-number-eq13 : goal.returns-then-number-eq13
unfolding is_evidence
returns-then-number-eq13 c = simp (ne_eqb _ _ c.if-number-eq8.false, eq-eqb _ _ c.if-number-eq13.true)

pub returns-then-number-ne12 : goal.returns-then-number-ne12
unfolding is_evidence
returns-then-number-ne12 c = simp (ne_eqb _ _ c.if-number-eq8.false, ne_eqb _ _ c.if-number-eq13.false, ne_eqb _ _ c.if-number-ne12.true)

pub returns-then-r : goal.returns-then-r
unfolding is_evidence other_root
returns-then-r c =
    let a = c in
    c.other_root.ensures
    ∙ sym (simp (ne_eqb _ _ a.if-number-eq8.false, ne_eqb _ _ a.if-number-eq13.false, eq-eqb _ _ a.if-number-ne12.false, view_held a.args.r c.if-r.true))

pub returns : goal.returns
unfolding is_evidence other_root
returns c =
    let a = c in
    simp (ne_eqb _ _ a.if-number-eq8.false, ne_eqb _ _ a.if-number-eq13.false, eq-eqb _ _ a.if-number-ne12.false, view_empty a.args.r c.if-r.false)
