-- `auditor::head::offer` meets its contract. Assumes nothing.
use mathlib.Core.Path.{sym, ◌∙◌}
use Rattle.hash.proofs.Algorithms.{named_known, named_none}
use Rattle.auditor.specs.Offer.{offered}
use Rattle.auditor.proofs.head.offer.Goals as goal

pub returns-in-By : goal.returns-in-By
unfolding offered
returns-in-By c = let named = c in c.offer_by.ensures ∙ named_known _ _ _ _ (sym named.in-By.is ∙ named.chosen-named.ensures)

pub returns-in-Unknown : goal.returns-in-Unknown
unfolding offered
returns-in-Unknown c = let told = c in c.unchanged.ensures ∙ named_none _ _ _ (sym told.in-Unknown.is ∙ told.chosen-named.ensures)
