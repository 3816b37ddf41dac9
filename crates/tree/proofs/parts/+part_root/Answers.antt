-- The proof of the cycle of calls {part_root}. The measure is the count of leaves. Assumes nothing.
use mathlib.Core.Path.{◌∙◌}
use native.Mathlib.Omega.{arith}
use Rattle.hash.specs.Digest.{hash_of}
use Rattle.tree.proofs.Joining.{hash_in}
use Rattle.tree.proofs.Parting.{root_single, root_parts}
use Rattle.tree.proofs.parts.+part_root.Goals as goal

pub returns-then-n-eq1 : goal.returns-then-n-eq1
returns-then-n-eq1 t c =
    let a = c.args in
    root_single (hash_of a.alg) a.from a.n a.leaves.now (omega arith) (c.node_at.ensures ∙ hash_in a.from a.leaves.now (omega arith))

pub returns : goal.returns
returns t c =
    let a = c.args in
    let e = c.split_of-k.ensures.0 in
    root_parts (hash_of a.alg) a.from a.n a.leaves.now c.split_of-k.result (omega arith) e c.node.ensures c.part_root-low.ensures c.part_root-high.ensures
