use mathlib.Core.Path.{sym, ap, ◌∙◌}
use Rattle.hash.proofs.Algorithms.{by_known, by_unknown}
use Rattle.tree.specs.Build.{Outcome, build_report, output}
use Rattle.tree.proofs.by_number.consistency_path.Goals as goal

pub returns-in-By : goal.returns-in-By
returns-in-By c =
    let named = c in
    let called = named in
    let out = called.args.out.now in
    let e = sym named.in-By.is ∙ called.algorithm_of-named.ensures in
    let done = c.consistency_path.ensures in
    (done.0 ∙ ap build_report (by_known _ _ _ _ e), done.1 ∙ ap (λ (o : Outcome). output o out) (by_known _ _ _ _ e))

pub returns-in-Unknown : goal.returns-in-Unknown
unfolding build_report output
returns-in-Unknown c =
    let called = c in
    let out = called.args.out.now in
    let e = sym c.in-Unknown.is ∙ called.algorithm_of-named.ensures in
    (ap build_report (by_unknown _ _ _ e), ap (λ (o : Outcome). output o out) (by_unknown _ _ _ e))
