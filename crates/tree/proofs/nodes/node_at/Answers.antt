-- `tree::nodes::node_at` meets its contract. Assumes nothing.
use mathlib.Core.Path.{refl, sym}
use native.Mathlib.Omega.{arith}
use Rattle.tree.proofs.Joining.{hash_copied, hash_out}
use Rattle.tree.proofs.nodes.node_at.Goals as goal

pub returns-then-s-i : goal.returns-then-s-i
returns-then-s-i c = let a = c.args in sym (hash_out a.i a.s.now (omega arith))

pub returns : goal.returns
returns c =
    let a = c.args in
    hash_copied a.i a.s.now _ _ (omega arith) refl c.copy.ensures
