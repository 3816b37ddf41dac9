-- `tree::build::bad_leaves` meets its contract. Assumes nothing.
use mathlib.Core.Path.{sym}
use native.Mathlib.Omega.{arith}
use Rattle.tree.proofs.Building.{unfit_part, unfit_rest}
use Rattle.tree.proofs.build.bad_leaves.Goals as goal

pub returns-then-leaves-ne0 : goal.returns-then-leaves-ne0
returns-then-leaves-ne0 c = sym (unfit_part _ (omega arith))

pub returns : goal.returns
returns c = sym (unfit_rest _ (omega arith))
