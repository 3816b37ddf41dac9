-- `growing::add::add_leaves` meets its contract. Assumes nothing.
use mathlib.Core.Path.{sym, ◌∙◌}
use Rattle.growing.specs.Calls.{of_leaves}
use Rattle.growing.proofs.Adding.{grown_of}
use Rattle.growing.proofs.Numbering.{grown_known, grown_none}
use Rattle.growing.proofs.add.add_leaves.Goals as goal

pub returns-in-By : goal.returns-in-By
returns-in-By c =
    let named = c in
    let held = named in
    let a = held.args in
    c.leaves_by.ensures ∙ grown_known a.algorithm a.g (of_leaves a.leaves.now) _ (sym named.in-By.is ∙ held.algorithm_held-named.ensures)

pub returns-in-Unknown : goal.returns-in-Unknown
returns-in-Unknown c =
    let held = c in
    let a = held.args in
    grown_of c.refused.result 16 a.g c.refused.ensures.0 c.refused.ensures.1
    ∙ grown_none a.algorithm a.g (of_leaves a.leaves.now) (sym c.in-Unknown.is ∙ held.algorithm_held-named.ensures)
