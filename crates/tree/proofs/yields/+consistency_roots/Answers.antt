-- The proof of the cycle of calls {consistency_roots}: laws of a level for each return. The measure is the size. Assumes nothing.
use mathlib.Core.Path.{◌≡◌, ◌∙◌}
use mathlib.Core.Bool.{false}
use native.Mathlib.Omega.{arith}
use Rattle.hash.specs.Digest.{hash_of}
use Rattle.tree.proofs.Joining.{hash_in}
use Rattle.tree.proofs.Counting.{sub_all, sub_some, sub_low, sub_high}
use Rattle.tree.proofs.Yielding.{both_known, both_unknown, both_low, both_high}
use Prim.Native.Nat.{ℕ, ◌-◌, ◌<◌}
use Rattle.tree.proofs.yields.+consistency_roots.Goals.{After-split_of-k, Else-known}
use Rattle.tree.proofs.yields.+consistency_roots.Goals as goal

-- what is known where all leaves are old and their root is not known: the path has that one node
module _ (t : ℕ) (c : Else-known t) where
  one_node : c.args.count ≡ 1
  one_node =
      let a = c.args in
      let k : a.known ≡ false = c.if-known.false in
      c.requires.2 ∙ sub_all a.m a.n a.known (omega arith) ∙ rw k

-- what is known where the new size is split: a part is old, and the path has a node
module _ (t : ℕ) (c : After-split_of-k t) where
  old : 0 < c.args.m
  old = omega (arith, c.requires.0)

  part : c.args.m < c.args.n
  part = omega (arith, c.requires.1, c.if-m-n.false)

  some : 0 < c.args.count
  some = let i = sub_some c.args.m c.args.n c.split_of-k.result c.args.known old part c.split_of-k.ensures.0 in omega (arith, i, c.requires.2)

pub returns-then-known : goal.returns-then-known
returns-then-known t c =
    let a = c.args in
    both_known (hash_of a.alg) a.m a.n 0 a.first.bytes a.count a.path.now a.known (omega arith) (omega arith) c.if-known.true

pub returns-then-m-n : goal.returns-then-m-n
returns-then-m-n t c =
    let a = c.args in
    let q = one_node t (goal.at.returns-then-m-n t c).Else-known in
    both_unknown (hash_of a.alg) a.m a.n 0 a.first.bytes a.count a.path.now a.known (omega arith) (omega arith) c.if-known.false c.requires.2 (c.node_at-only.ensures ∙ hash_in 0 a.path.now (omega arith))

pub overflow_sub-c : goal.overflow_sub-c
overflow_sub-c t c = let j = some t (goal.at.overflow_sub-c t c).After-split_of-k in omega arith

pub consistency_roots-low-requires : goal.consistency_roots-low-requires
consistency_roots-low-requires t c =
    let at = c in
    let a = at.args in
    let lt = part t (goal.at.consistency_roots-low-requires t c).After-split_of-k in
    let less = sub_low a.m a.n at.split_of-k.result a.known (old t (goal.at.consistency_roots-low-requires t c).After-split_of-k) lt at.split_of-k.ensures.0 c.if-m-k.true in
    (omega arith, (omega arith, omega arith, omega arith, omega arith))

pub returns-then-m-k : goal.returns-then-m-k
returns-then-m-k t c =
    let at = c in
    let a = at.args in
    both_low (hash_of a.alg) a.m a.n at.split_of-k.result a.first.bytes a.count a.path.now a.known (old t (goal.at.returns-then-m-k t c).After-split_of-k) (some t (goal.at.returns-then-m-k t c).After-split_of-k) (part t (goal.at.returns-then-m-k t c).After-split_of-k) at.split_of-k.ensures.0
    c.if-m-k.true c.consistency_roots-low.ensures (c.node_at-top.ensures ∙ hash_in (a.count - 1) a.path.now (omega (arith, some t (goal.at.returns-then-m-k t c).After-split_of-k))) c.node.ensures

pub consistency_roots-high-requires : goal.consistency_roots-high-requires
consistency_roots-high-requires t c =
    let at = c in
    let a = at.args in
    let lt = part t (goal.at.consistency_roots-high-requires t c).After-split_of-k in
    let less = sub_high a.m a.n at.split_of-k.result a.known (old t (goal.at.consistency_roots-high-requires t c).After-split_of-k) lt at.split_of-k.ensures.0 c.if-m-k.false in
    (omega arith, (omega arith, omega arith, omega arith, omega arith))

pub returns : goal.returns
returns t c =
    let at = c in
    let a = at.args in
    both_high (hash_of a.alg) a.m a.n at.split_of-k.result a.first.bytes a.count a.path.now a.known (old t (goal.at.returns t c).After-split_of-k) (some t (goal.at.returns t c).After-split_of-k) (part t (goal.at.returns t c).After-split_of-k) at.split_of-k.ensures.0
    c.if-m-k.false c.consistency_roots-high.ensures (c.node_at-top-2.ensures ∙ hash_in (a.count - 1) a.path.now (omega (arith, some t (goal.at.returns t c).After-split_of-k))) c.node-2.ensures c.node-3.ensures
