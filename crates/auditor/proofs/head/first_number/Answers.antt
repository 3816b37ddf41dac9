-- `auditor::head::first_number` meets its contract. Assumes nothing.
use mathlib.Core.Path.{sym, ◌∙◌}
use borrow.Author.Tests.{eq-eqb, ne_eqb}
use Rattle.auditor.specs.Offer.{first}
use Rattle.auditor.proofs.head.first_number.Goals as goal

pub returns-then-no_size : goal.returns-then-no_size
unfolding first
returns-then-no_size c = simp (sym c.no_size.ensures ∙ c.if-no_size.true)

pub returns-then-path-eq0 : goal.returns-then-path-eq0
unfolding first
returns-then-path-eq0 c = simp (sym c.no_size.ensures ∙ c.if-no_size.false, eq-eqb _ _ c.if-path-eq0.true)

pub returns : goal.returns
unfolding first
returns c = simp (sym c.no_size.ensures ∙ c.if-no_size.false, ne_eqb _ _ c.if-path-eq0.false)
