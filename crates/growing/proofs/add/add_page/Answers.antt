-- `growing::add::add_page` meets its contract. Assumes nothing.
use mathlib.Core.Path.{sym, ◌∙◌}
use Rattle.growing.specs.Calls.{of_page}
use Rattle.growing.proofs.Adding.{grown_of}
use Rattle.growing.proofs.Numbering.{grown_known, grown_none}
use Rattle.growing.proofs.add.add_page.Goals as goal

pub returns-in-By : goal.returns-in-By
returns-in-By c =
    let named = c in
    let held = named in
    let a = held.args in
    c.page_by.ensures ∙ grown_known a.algorithm a.g (of_page a.page.now) _ (sym named.in-By.is ∙ held.algorithm_held-named.ensures)

pub returns-in-Unknown : goal.returns-in-Unknown
returns-in-Unknown c =
    let held = c in
    let a = held.args in
    grown_of c.refused.result 16 a.g c.refused.ensures.0 c.refused.ensures.1
    ∙ grown_none a.algorithm a.g (of_page a.page.now) (sym c.in-Unknown.is ∙ held.algorithm_held-named.ensures)
