-- `tree::yields::yielded_root` meets its contract. Assumes nothing.
use native.Mathlib.Omega.{arith}
use Rattle.hash.specs.Digest.{hash_of}
use Rattle.tree.proofs.Yielding.{yielded_short, yielded_by}
use Rattle.tree.proofs.yields.yielded_root.Goals as goal

pub returns-then-path-count : goal.returns-then-path-count
returns-then-path-count c = let a = c.args in yielded_short (hash_of a.alg) a.place a.size a.leaf.bytes a.path.now (omega arith)

pub returns : goal.returns
returns c = let a = c.args in yielded_by (hash_of a.alg) a.place a.size a.leaf.bytes a.path.now _ c.inclusion_count-count.ensures (omega arith) c.inclusion_root.ensures
