-- `carry::by_number::carry` meets its contract. Assumes nothing.
use mathlib.Core.Path.{sym, ap, ◌∙◌}
use Rattle.hash.proofs.Algorithms.{by_known, by_unknown}
use Rattle.carry.specs.Forward.{Forward, carry_report, path_carried, pair_carried}
use Rattle.carry.proofs.by_number.carry.Goals as goal

pub returns-in-By : goal.returns-in-By
returns-in-By c =
    let named = c in
    let called = named in
    let a = called.args in
    let e = sym named.in-By.is ∙ called.algorithm_of-named.ensures in
    let done = c.carry.ensures in (
      done.0 ∙ ap carry_report (by_known _ _ _ _ e),
      (
        done.1.0 ∙ ap (λ (o : Forward). path_carried o a.out.now) (by_known _ _ _ _ e),
        done.1.1 ∙ ap (λ (o : Forward). pair_carried o a.pair.now) (by_known _ _ _ _ e),
      ),
    )

pub returns-in-Unknown : goal.returns-in-Unknown
unfolding carry_report path_carried pair_carried
returns-in-Unknown c =
    let called = c in
    let a = called.args in
    let e = sym c.in-Unknown.is ∙ called.algorithm_of-named.ensures in (
      ap carry_report (by_unknown _ _ _ e),
      (
        ap (λ (o : Forward). path_carried o a.out.now) (by_unknown _ _ _ e),
        ap (λ (o : Forward). pair_carried o a.pair.now) (by_unknown _ _ _ e),
      ),
    )
