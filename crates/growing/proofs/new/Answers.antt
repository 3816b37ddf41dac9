-- `growing::new` meets its contract. Assumes nothing.
use mathlib.Core.Path.{refl, sym, ◌∙◌}
use Rattle.growing.specs.Hashes.{fresh}
use Rattle.growing.proofs.Adding.{grown_of}
use Rattle.growing.proofs.Numbering.{made_known, made_none}
use Rattle.growing.proofs.new.Goals as goal

pub returns-in-By : goal.returns-in-By
returns-in-By c =
    let called = c in
    let n = called.args.algorithm in
    grown_of _ 0 (fresh n) refl c.no_leaves.ensures ∙ made_known n _ (sym c.in-By.is ∙ called.algorithm_of-named.ensures)

pub returns-in-Unknown : goal.returns-in-Unknown
returns-in-Unknown c =
    let called = c in
    let n = called.args.algorithm in
    grown_of _ 16 (fresh n) refl c.no_leaves-in-Unknown.ensures ∙ made_none n (sym c.in-Unknown.is ∙ called.algorithm_of-named.ensures)
