-- `growing::root_into` meets its contract. Assumes nothing.
use mathlib.Core.Path.{sym, ap, ◌∙◌}
use lib.ListN.{length}
use Rattle.tree.specs.Build.{Outcome, build_report, output}
use Rattle.growing.proofs.Numbering.{into_known, into_none}
use Rattle.growing.proofs.root_into.Goals as goal

pub returns-in-By : goal.returns-in-By
returns-in-By c =
    let named = c in
    let held = named in
    let a = held.args in
    let out = a.out.now in
    let e = into_known a.algorithm a.g (length out) _ (sym named.in-By.is ∙ held.algorithm_held-named.ensures) in
    let done = c.into_by.ensures in
    (done.0 ∙ ap build_report e, done.1 ∙ ap (λ (o : Outcome). output o out) e)

pub returns-in-Unknown : goal.returns-in-Unknown
unfolding build_report output
returns-in-Unknown c =
    let held = c in
    let a = held.args in
    let out = a.out.now in
    let e = into_none a.algorithm a.g (length out) (sym c.in-Unknown.is ∙ held.algorithm_held-named.ensures) in
    (ap build_report e, ap (λ (o : Outcome). output o out) e)
