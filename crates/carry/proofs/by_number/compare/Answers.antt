-- `carry::by_number::compare` meets its contract. Assumes nothing.
use mathlib.Core.Path.{sym, ap, ◌∙◌}
use Rattle.hash.proofs.Algorithms.{by_known, by_unknown}
use Rattle.carry.specs.Compare.{Comparison, compare_report, pair_compared}
use Rattle.carry.proofs.by_number.compare.Goals as goal

pub returns-in-By : goal.returns-in-By
returns-in-By c =
    let named = c in
    let called = named in
    let a = called.args in
    let e = sym named.in-By.is ∙ called.algorithm_of-named.ensures in
    let done = c.compare.ensures in
    (done.0 ∙ ap compare_report (by_known _ _ _ _ e), done.1 ∙ ap (λ (o : Comparison). pair_compared o a.pair.now) (by_known _ _ _ _ e))

pub returns-in-Unknown : goal.returns-in-Unknown
unfolding compare_report pair_compared
returns-in-Unknown c =
    let called = c in
    let a = called.args in
    let e = sym c.in-Unknown.is ∙ called.algorithm_of-named.ensures in
    (ap compare_report (by_unknown _ _ _ e), ap (λ (o : Comparison). pair_compared o a.pair.now) (by_unknown _ _ _ e))
