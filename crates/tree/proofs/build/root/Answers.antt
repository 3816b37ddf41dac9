-- `tree::build::root` meets its contract. Assumes nothing.
use mathlib.Core.Path.{sym, ap, ◌∙◌}
use mathlib.Core.List.{List}
use Prim.Native.Nat.{ℕ}
use native.Mathlib.Omega.{arith}
use lib.ListN.{length}
use Rattle.hash.specs.Digest.{hash_of}
use Rattle.hash.proofs.Promises.{hash_length}
use lib.Seq.{paste}
use Rattle.tree.specs.Tree.{root}
use Rattle.tree.specs.Joined.{nodes}
use Rattle.tree.proofs.Joining.{all_nodes}
use Rattle.tree.proofs.Completing.{root_32}
use Rattle.tree.proofs.Building.{bytes_0, root_10, root_in, short, long, reports_refused, reports_wrote, over_whole}
use Rattle.tree.proofs.build.root.Goals as goal

pub returns-then-bad_leaves : goal.returns-then-bad_leaves
returns-then-bad_leaves c =
    let a = c.args in
    reports_refused a.out.now (root_10 (hash_of a.alg) a.leaves.now (length a.out.now) (sym c.bad_leaves.ensures ∙ c.if-bad_leaves.true))

pub returns-then-out-lt32 : goal.returns-then-out-lt32
returns-then-out-lt32 c =
    let a = c.args in
    let s = a.leaves.now in
    let r = length a.out.now in
    let u = sym c.bad_leaves.ensures ∙ c.if-bad_leaves.false in
    let w = root_32 (hash_of a.alg) (hash_length a.alg) (nodes s) (all_nodes s) in
    reports_refused a.out.now (root_in (hash_of a.alg) s r u ∙ short r (root (hash_of a.alg) (nodes s)) (omega arith))

pub returns : goal.returns
returns c =
    let a = c.args in
    let s = a.leaves.now in
    let o = a.out.now in
    let u = sym c.bad_leaves.ensures ∙ c.if-bad_leaves.false in
    let w = root_32 (hash_of a.alg) (hash_length a.alg) (nodes s) (all_nodes s) in
    let y = c.put_node.ensures ∙ ap (λ (h : List ℕ). paste o 0 h 32) (c.root_of-made.ensures.bytes_value ∙ bytes_0 (hash_of a.alg) s u) in
    reports_wrote o (root_in (hash_of a.alg) s (length o) u ∙ long (length o) (root (hash_of a.alg) (nodes s)) (omega arith)) (sym w) (over_whole (root (hash_of a.alg) (nodes s)) o w y)
