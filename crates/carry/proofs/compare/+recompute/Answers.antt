-- The proof of the cycle of calls {recompute}: laws of a level for each return. The measure is the size. Assumes nothing.
use mathlib.Core.Path.{◌≡◌, sym, ◌∙◌}
use Prim.Native.Nat.{ℕ, ◌-◌, ◌<◌}
use native.Mathlib.Omega.{arith}
use Rattle.hash.specs.Digest.{hash_of}
use Rattle.tree.specs.Joined.{node_at}
use Rattle.tree.proofs.Joining.{hash_in}
use Rattle.tree.proofs.Counting.{count_some, count_low, count_high}
use Rattle.tree.proofs.Yielding.{included_few}
use Rattle.carry.proofs.Stepping.{differ_one}
use Rattle.carry.proofs.Walking.{level_low, level_high}
use Rattle.carry.proofs.compare.+recompute.Goals.{After-node_at-y}
use Rattle.carry.proofs.compare.+recompute.Goals as goal

-- what is known where the nodes of a level are read: there are two parts and a node, and those read are the paths' own
module _ (t : ℕ) (c : After-node_at-y t) where
  more : 1 < c.args.size
  more = omega (arith, c.if-size-le1.false)

  some : 0 < c.args.count
  some =
      let i = count_some c.args.place c.args.size c.split_of-k.result more c.split_of-k.ensures.0 in
      omega (arith, i, c.requires.1)

  first-node : c.node_at-x.result.bytes ≡ node_at (c.args.count - 1) c.args.first.now
  first-node = c.node_at-x.ensures ∙ hash_in (c.args.count - 1) c.args.first.now (omega (arith, some, c.requires.2))

  second-node : c.node_at-y.result.bytes ≡ node_at (c.args.count - 1) c.args.second.now
  second-node = c.node_at-y.ensures ∙ hash_in (c.args.count - 1) c.args.second.now (omega (arith, some, c.requires.3))

pub returns-then-size-le1 : goal.returns-then-size-le1
returns-then-size-le1 t c =
    let a = c.args in
    let e : a.size ≡ 1 = omega arith in
    let s = c.start.ensures in (
      s.bytes_value.0 ∙ included_few (hash_of a.alg) a.place a.size 0 a.one.bytes a.count a.first.now (omega arith),
      (s.bytes_value.1 ∙ included_few (hash_of a.alg) a.place a.size 0 a.two.bytes a.count a.second.now (omega arith), s.result_value ∙ sym (differ_one (hash_of a.alg) a.place a.size a.one.bytes _ a.two.bytes _ e)),
    )

pub overflow_sub-c : goal.overflow_sub-c
overflow_sub-c t c =
    let a = c.args in
    let more : 1 < a.size = omega (arith, c.if-size-le1.false) in
    let e = c.split_of-k.ensures.0 in
    let i = count_some a.place a.size c.split_of-k.result more e in
    let some : 0 < a.count = omega (arith, i, c.requires.1) in
    omega arith

pub recompute-low-requires : goal.recompute-low-requires
recompute-low-requires t c =
    let a = c.args in
    let more : 1 < a.size = omega arith in
    let q = count_low a.place a.size c.split_of-k.result more c.split_of-k.ensures.0 c.if-place-k.true in
    (omega arith, (omega arith, omega arith, omega arith, omega arith))

pub returns-then-place-k : goal.returns-then-place-k
returns-then-place-k t c =
    let here = c in
    let a = here.args in
    level_low (hash_of a.alg) a.place a.size here.split_of-k.result a.one.bytes a.two.bytes a.count a.first.now a.second.now (some t (goal.at.returns-then-place-k t c).After-node_at-y) (more t (goal.at.returns-then-place-k t c).After-node_at-y) here.split_of-k.ensures.0
    c.if-place-k.true (first-node t (goal.at.returns-then-place-k t c).After-node_at-y) (second-node t (goal.at.returns-then-place-k t c).After-node_at-y) c.recompute-low.ensures c.above.ensures.bytes_value c.above.ensures.result_value

pub recompute-high-requires : goal.recompute-high-requires
recompute-high-requires t c =
    let a = c.args in
    let more : 1 < a.size = omega arith in
    let q = count_high a.place a.size c.split_of-k.result more c.split_of-k.ensures.0 c.if-place-k.false in
    (omega arith, (omega arith, omega arith, omega arith, omega arith))

pub returns : goal.returns
returns t c =
    let here = c in
    let a = here.args in
    level_high (hash_of a.alg) a.place a.size here.split_of-k.result a.one.bytes a.two.bytes a.count a.first.now a.second.now (some t (goal.at.returns t c).After-node_at-y) (more t (goal.at.returns t c).After-node_at-y) here.split_of-k.ensures.0
    c.if-place-k.false (first-node t (goal.at.returns t c).After-node_at-y) (second-node t (goal.at.returns t c).After-node_at-y) c.recompute-high.ensures c.above-2.ensures.bytes_value c.above-2.ensures.result_value
