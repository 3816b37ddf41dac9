-- The proof of the cycle of calls {inclusion_root}: one law of a level for each return. The measure is the size. Assumes nothing.
use mathlib.Core.Path.{◌∙◌}
use native.Mathlib.Omega.{arith}
use Rattle.hash.specs.Digest.{hash_of}
use Rattle.tree.proofs.Joining.{hash_in}
use Rattle.tree.proofs.Counting.{count_some, count_low, count_high}
use Rattle.tree.proofs.Yielding.{included_few, included_low, included_high}
use Prim.Native.Nat.{ℕ, ◌-◌, ◌<◌}
use Rattle.tree.proofs.yields.+inclusion_root.Goals.{After-split_of-k}
use Rattle.tree.proofs.yields.+inclusion_root.Goals as goal

-- what is known where the size is split: there are two parts, and the path has a node
module _ (t : ℕ) (c : After-split_of-k t) where
  more : 1 < c.args.size
  more = c.if-size-le1.false

  some : 0 < c.args.count
  some = let i = count_some c.args.place c.args.size c.split_of-k.result more c.split_of-k.ensures.0 in omega (arith, i, c.requires.0)

pub returns-then-size-le1 : goal.returns-then-size-le1
returns-then-size-le1 t c =
    let a = c.args in
    included_few (hash_of a.alg) a.place a.size 0 a.leaf.bytes a.count a.path.now (omega arith)

pub overflow_sub-c : goal.overflow_sub-c
overflow_sub-c t c = let j = some t (goal.at.overflow_sub-c t c).After-split_of-k in omega arith

pub inclusion_root-low-requires : goal.inclusion_root-low-requires
inclusion_root-low-requires t c =
    let at = c in
    let a = at.args in
    let less = count_low a.place a.size at.split_of-k.result (more t (goal.at.inclusion_root-low-requires t c).After-split_of-k) at.split_of-k.ensures.0 c.if-place-k.true in
    (omega arith, (omega arith, omega arith))

pub returns-then-place-k : goal.returns-then-place-k
returns-then-place-k t c =
    let at = c in
    let a = at.args in
    included_low (hash_of a.alg) a.place a.size at.split_of-k.result a.leaf.bytes a.count a.path.now (some t (goal.at.returns-then-place-k t c).After-split_of-k) (more t (goal.at.returns-then-place-k t c).After-split_of-k) at.split_of-k.ensures.0 c.node.ensures c.if-place-k.true c.inclusion_root-low.ensures (c.node_at-top.ensures ∙ hash_in (a.count - 1) a.path.now (omega (arith, some t (goal.at.returns-then-place-k t c).After-split_of-k)))

pub inclusion_root-high-requires : goal.inclusion_root-high-requires
inclusion_root-high-requires t c =
    let at = c in
    let a = at.args in
    let less = count_high a.place a.size at.split_of-k.result (more t (goal.at.inclusion_root-high-requires t c).After-split_of-k) at.split_of-k.ensures.0 c.if-place-k.false in
    (omega arith, (omega arith, omega arith))

pub returns : goal.returns
returns t c =
    let at = c in
    let a = at.args in
    included_high (hash_of a.alg) a.place a.size at.split_of-k.result a.leaf.bytes a.count a.path.now (some t (goal.at.returns t c).After-split_of-k) (more t (goal.at.returns t c).After-split_of-k) at.split_of-k.ensures.0 c.node-2.ensures c.if-place-k.false (c.node_at-top-2.ensures ∙ hash_in (a.count - 1) a.path.now (omega (arith, some t (goal.at.returns t c).After-split_of-k))) c.inclusion_root-high.ensures
