use mathlib.Core.Path.{sym, ◌∙◌}
use Rattle.hash.proofs.Algorithms.{by_known, by_unknown}
use Rattle.tree.proofs.by_number.consistency_verdict.Goals as goal

pub returns-in-By : goal.returns-in-By
returns-in-By c =
    let named = c in
    c.consistency_verdict.ensures ∙ by_known _ _ _ _ (sym named.in-By.is ∙ named.algorithm_of-named.ensures)

pub returns-in-Unknown : goal.returns-in-Unknown
returns-in-Unknown c = by_unknown _ _ _ (sym c.in-Unknown.is ∙ c.algorithm_of-named.ensures)
