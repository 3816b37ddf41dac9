-- `tree::yields::yielded_roots` meets its contract. Assumes nothing.

use Prim.Native.Nat.{◌/◌}
use native.Mathlib.Omega.{arith}
use lib.ListN.{length}
use borrow.Author.Tests.{lt-ltb}
use Rattle.hash.specs.Digest.{hash_of}
use Rattle.tree.proofs.Yielding.{unyielded, none_first, first_past, few_nodes, both_by}
use Rattle.tree.proofs.yields.yielded_roots.Goals as goal
use Rattle.tree.proofs.yields.yielded_roots.Goals.{then-m-eq0-via-then-m-eq0, then-m-eq0-via-else-m-eq0+then-n-m, then-m-eq0-via-else-m-eq0+else-n-m+then-path-count}

pub returns-then-m-eq0 : goal.returns-then-m-eq0
returns-then-m-eq0 c =
    let a = c.args in
    let m = a.m in
    let n = a.n in
    let f = a.first.bytes in
    let s = a.path.now in
    unyielded (hash_of a.alg) m n f s a.known (elim c.then-m-eq0.branch [
      | then-m-eq0-via-then-m-eq0 w ↦ none_first (hash_of a.alg) m n f s a.known w.if-m-eq0.true
      | then-m-eq0-via-else-m-eq0+then-n-m w ↦ first_past (hash_of a.alg) m n f s a.known (lt-ltb n m w.if-n-m.true)
      | then-m-eq0-via-else-m-eq0+else-n-m+then-path-count w ↦ few_nodes (hash_of a.alg) m n f s a.known _ c.subproof_count-count.ensures (lt-ltb (length s / 32) c.subproof_count-count.result w.if-path-count.true)
    ])

pub consistency_roots-requires : goal.consistency_roots-requires
consistency_roots-requires c =
    let a = c.args in
    (omega arith, c.if-n-m.false, c.subproof_count-count.ensures, omega arith)

pub returns : goal.returns
returns c =
    let a = c.args in
    both_by (hash_of a.alg) a.m a.n a.first.bytes a.path.now a.known _ (omega arith) c.if-n-m.false c.subproof_count-count.ensures (omega arith) c.consistency_roots.ensures
