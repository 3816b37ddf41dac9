-- `growing::root` meets its contract. Assumes nothing.
use mathlib.Core.Path.{refl, sym, ◌∙◌}
use lib.ListN.{replicate}
use Rattle.growing.proofs.Numbering.{hashed_of, root_known, root_none}
use Rattle.growing.proofs.root.Goals as goal

pub returns-in-By : goal.returns-in-By
returns-in-By c =
    let named = c in
    let held = named in
    let a = held.args in
    hashed_of _ 0 _ refl c.root_of.ensures ∙ root_known a.algorithm a.g _ (sym named.in-By.is ∙ held.algorithm_held-named.ensures)

pub returns-in-Unknown : goal.returns-in-Unknown
returns-in-Unknown c =
    let held = c in
    let a = held.args in
    hashed_of c.unknown.result 16 (replicate 32 0) c.unknown.ensures.0 c.unknown.ensures.1
    ∙ root_none a.algorithm a.g (sym c.in-Unknown.is ∙ held.algorithm_held-named.ensures)
