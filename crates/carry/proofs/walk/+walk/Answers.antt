-- The proof of the cycle of calls {walk}: laws of a level for each return. The measure is the new size. Assumes nothing.
use mathlib.Core.Path.{◌≡◌, sym, ap, ◌∙◌}
use mathlib.Core.Bool.{false, false≢true}
use Prim.Native.Nat.{ℕ, ◌-◌, ◌<◌}
use native.Mathlib.Omega.{arith}
use lib.ListN.{length}
use Rattle.hash.specs.Digest.{hash_of}
use Rattle.hash.proofs.Promises.{hash_length}
use Rattle.tree.specs.Split.{split}
use Rattle.tree.specs.Joined.{first_nodes}
use Rattle.tree.proofs.Joining.{All32, all_from, first_length, hash_in}
use Rattle.tree.proofs.Splitting.{split_same}
use Rattle.tree.proofs.Counting.{count_some, count_low, count_high, sub_some, sub_low, sub_high}
use Rattle.tree.proofs.Yielding.{included_low, included_high, yielded_in, both_in}
use Rattle.carry.proofs.Levels.{old_low, new_low, old_high, new_high}
use Rattle.carry.specs.Inner.{path_as}
use Rattle.carry.proofs.Sizing.{new_32}
use Rattle.carry.proofs.Walking.{walked_all, walked_low, walked_here, walked_beyond, path_all, path_low, path_here, path_beyond}
use Rattle.carry.proofs.walk.+walk.Goals.{After-split_of-k, Else-m-k}
use Rattle.carry.proofs.walk.+walk.Goals as goal

-- what is known where the new tree is split: a part of it is old, and the consistency path has a node
module _ (t : ℕ) (c : After-split_of-k t) where
  old : 0 < c.args.m
  old = omega (arith, c.requires.0)

  part : c.args.m < c.args.n
  part = omega (arith, c.requires.1, c.if-m-n.false)

  has-node : 0 < c.args.q
  has-node = let j = sub_some c.args.m c.args.n c.split_of-k.result c.args.known old part c.split_of-k.ensures.0 in omega (arith, j, c.requires.4)

-- where the old tree is split too: its split is the same, and the old path has a node
module _ (t : ℕ) (c : Else-m-k t) where
  two-parts : 1 < c.args.m
  two-parts = omega (arith, c.if-m-k.false, c.split_of-k.ensures.1)

  same_split : c.split_of-k.result ≡ split c.args.m
  same_split =
      let e = c.split_of-k.ensures.0 in
      let lt : c.args.m < c.args.n = omega (arith, c.requires.1, c.if-m-n.false) in
      e ∙ sym (split_same c.args.n c.args.m (omega (arith, two-parts, lt)) (omega (arith, c.if-m-k.false, e)) (omega (arith, lt)))

  has-side : 0 < c.args.p
  has-side = let i = count_some c.args.x c.args.m c.split_of-k.result two-parts same_split in omega (arith, i, c.requires.2)

pub returns-then-m-n : goal.returns-then-m-n
unfolding path_as
returns-then-m-n t c =
    let start = c in
    let a = start.args in
    let e : a.m ≡ a.n = omega arith in
    let z : 0 < a.m = omega arith in
    let k : ℕ = 0 in
    let s = c.start.ensures in
    let y = yielded_in (hash_of a.alg) a.x a.m a.leaf.bytes a.path.now a.p start.requires.2 start.requires.3 c.yielded_root-y.ensures in
    let r = both_in (hash_of a.alg) a.m a.n a.first.bytes a.proof.now a.known a.q z start.requires.1 start.requires.4 start.requires.5 c.yielded_roots-whole.ensures in (
      s.bytes_value.0 ∙ y,
      (s.bytes_value.1 ∙ r.0, (r.1, (walked_all (hash_of a.alg) a.x a.m a.n k a.leaf.bytes a.first.bytes a.p a.q a.path.now a.proof.now z e s.result_value, (path_all (hash_of a.alg) a.x a.m a.n k a.leaf.bytes a.first.bytes a.p a.q a.path.now a.proof.now z c.yielded_roots-whole.result.new.bytes e, (omega arith, omega arith, omega arith))))),
    )

pub overflow_sub-j : goal.overflow_sub-j
overflow_sub-j t c = let q = has-node t (goal.at.overflow_sub-j t c).After-split_of-k in omega arith

pub walk-below-requires : goal.walk-below-requires
walk-below-requires t c =
    let at = c in
    let a = at.args in
    let lt = part t (goal.at.walk-below-requires t c).After-split_of-k in
    let d = sub_low a.m a.n at.split_of-k.result a.known (old t (goal.at.walk-below-requires t c).After-split_of-k) lt at.split_of-k.ensures.0 c.if-m-k.true in
    (omega arith, (omega arith, omega arith, omega arith, omega arith, omega arith, omega arith))

pub returns-then-m-k : goal.returns-then-m-k
unfolding path_as
returns-then-m-k t c =
    let at = c in
    let start = at in
    let a = start.args in
    let k = at.split_of-k.result in
    let e = at.split_of-k.ensures.0 in
    let z = old t (goal.at.returns-then-m-k t c).After-split_of-k in
    let lt = part t (goal.at.returns-then-m-k t c).After-split_of-k in
    let some = has-node t (goal.at.returns-then-m-k t c).After-split_of-k in
    let l = c.if-m-k.true in
    let top = c.node_at-top.ensures ∙ hash_in (a.q - 1) a.proof.now (omega (arith, some, start.requires.5)) in
    let w = c.walk-below.result in
    let b = c.walk-below.ensures in
    let o = b.1.1.1.1.1 in (
      b.0,
      (
        old_low (hash_of a.alg) a.m a.n k a.first.bytes a.q a.proof.now a.known z some lt e l b.1.0,
        (
          new_low (hash_of a.alg) a.m a.n k a.first.bytes a.q a.proof.now a.known z some lt e l c.node.ensures b.1.1.0 top,
          (
            walked_low (hash_of a.alg) a.x a.m a.n k a.leaf.bytes a.first.bytes a.p a.q a.path.now a.proof.now z lt e some l b.1.1.1.0,
            (path_low (hash_of a.alg) a.x a.m a.n k a.leaf.bytes a.first.bytes a.p a.q a.path.now a.proof.now z lt e some w.low w.hashed w.sibling.bytes w.high (omega (arith, o.2, some)) l b.1.1.1.1.0, (omega (arith, o), omega (arith, o), omega (arith, o))),
          ),
        ),
      ),
    )

pub overflow_sub-i : goal.overflow_sub-i
overflow_sub-i t c = let p = has-side t (goal.at.overflow_sub-i t c).Else-m-k in omega arith

pub returns-then-x-k : goal.returns-then-x-k
unfolding path_as
returns-then-x-k t c =
    let here = c in
    let at = here in
    let start = at in
    let a = start.args in
    let k = at.split_of-k.result in
    let e = at.split_of-k.ensures.0 in
    let z = old t (goal.at.returns-then-x-k t c).After-split_of-k in
    let lt = part t (goal.at.returns-then-x-k t c).After-split_of-k in
    let some = has-node t (goal.at.returns-then-x-k t c).After-split_of-k in
    let hi = here.if-m-k.false in
    let more = two-parts t (goal.at.returns-then-x-k t c).Else-m-k in
    let same = same_split t (goal.at.returns-then-x-k t c).Else-m-k in
    let side = has-side t (goal.at.returns-then-x-k t c).Else-m-k in
    let l = c.if-x-k.true in
    let top = here.node_at-top.ensures ∙ hash_in (a.q - 1) a.proof.now (omega (arith, some, start.requires.5)) in
    let beside = c.node_at-side.ensures ∙ hash_in (a.p - 1) a.path.now (omega (arith, side, start.requires.3)) in
    let w = c.yielded_roots-rest.result.new.bytes in
    let d = sub_high a.m a.n k a.known z lt e hi in
    let g = count_low a.x a.m k more same l in
    let y = yielded_in (hash_of a.alg) a.x k a.leaf.bytes a.path.now (a.p - 1) (omega (arith, g, start.requires.2)) (omega (arith, start.requires.3)) c.yielded_root-y-then-x-k.ensures in
    let r = both_in (hash_of a.alg) (a.m - k) (a.n - k) a.first.bytes a.proof.now false (a.q - 1) (omega (arith, hi)) (omega (arith, lt)) (omega (arith, d, start.requires.4)) (omega (arith, start.requires.5)) c.yielded_roots-rest.ensures in
    let nodes = first_nodes (a.q - 1) a.proof.now in
    let all : All32 nodes = all_from 0 (a.q - 1) a.proof.now (omega (arith, some, start.requires.5)) in
    let len = ap length r.1 ∙ new_32 (hash_of a.alg) (hash_length a.alg) (a.m - k) (a.n - k) false a.first.bytes nodes (omega (arith, hi)) (λ t. absurd (false≢true t)) all (first_length (a.q - 1) a.proof.now ∙ omega (arith, d, start.requires.4)) (omega (arith, lt)) in
    let up = c.above.ensures in (
      included_low (hash_of a.alg) a.x a.m k a.leaf.bytes a.p a.path.now side more same up.bytes_value.0 l y beside,
      (
        old_high (hash_of a.alg) a.m a.n k a.first.bytes a.q a.proof.now a.known z some lt e hi up.bytes_value.1 top r.0,
        (
          new_high (hash_of a.alg) a.m a.n k a.first.bytes a.q a.proof.now a.known z some lt e hi c.node-then-x-k.ensures top r.1,
          (
            walked_here (hash_of a.alg) a.x a.m a.n k a.leaf.bytes a.first.bytes a.p a.q a.path.now a.proof.now z lt e some hi side l up.result_value c.start-then-x-k.ensures.result_value y beside top r.0,
            (path_here (hash_of a.alg) a.x a.m a.n k a.leaf.bytes a.first.bytes a.p a.q a.path.now a.proof.now z lt e some w hi side l len r.1, (omega arith, omega arith, omega arith)),
          ),
        ),
      ),
    )

pub walk-below-requires-2 : goal.walk-below-requires-2
walk-below-requires-2 t c =
    let here = c in
    let at = here in
    let a = at.args in
    let lt = part t (goal.at.walk-below-requires-2 t c).After-split_of-k in
    let d = sub_high a.m a.n at.split_of-k.result a.known (old t (goal.at.walk-below-requires-2 t c).After-split_of-k) lt at.split_of-k.ensures.0 here.if-m-k.false in
    let f = count_high a.x a.m at.split_of-k.result (two-parts t (goal.at.walk-below-requires-2 t c).Else-m-k) (same_split t (goal.at.walk-below-requires-2 t c).Else-m-k) c.if-x-k.false in
    (omega arith, (omega arith, omega arith, omega arith, omega arith, omega arith, omega arith))

pub returns : goal.returns
unfolding path_as
returns t c =
    let here = c in
    let at = here in
    let start = at in
    let a = start.args in
    let k = at.split_of-k.result in
    let e = at.split_of-k.ensures.0 in
    let z = old t (goal.at.returns t c).After-split_of-k in
    let lt = part t (goal.at.returns t c).After-split_of-k in
    let some = has-node t (goal.at.returns t c).After-split_of-k in
    let hi = here.if-m-k.false in
    let more = two-parts t (goal.at.returns t c).Else-m-k in
    let same = same_split t (goal.at.returns t c).Else-m-k in
    let side = has-side t (goal.at.returns t c).Else-m-k in
    let l = c.if-x-k.false in
    let top = here.node_at-top.ensures ∙ hash_in (a.q - 1) a.proof.now (omega (arith, some, start.requires.5)) in
    let beside = c.node_at-side.ensures ∙ hash_in (a.p - 1) a.path.now (omega (arith, side, start.requires.3)) in
    let w = c.walk-below-2.result in
    let b = c.walk-below-2.ensures in
    let o = b.1.1.1.1.1 in
    let up = c.above-2.ensures in (
      included_high (hash_of a.alg) a.x a.m k a.leaf.bytes a.p a.path.now side more same up.bytes_value.0 l beside b.0,
      (
        old_high (hash_of a.alg) a.m a.n k a.first.bytes a.q a.proof.now a.known z some lt e hi up.bytes_value.1 top b.1.0,
        (
          new_high (hash_of a.alg) a.m a.n k a.first.bytes a.q a.proof.now a.known z some lt e hi c.node-2.ensures top b.1.1.0,
          (
            walked_beyond (hash_of a.alg) a.x a.m a.n k a.leaf.bytes a.first.bytes a.p a.q a.path.now a.proof.now z lt e some hi side l up.result_value beside b.0 top b.1.0 b.1.1.1.0,
            (
              path_beyond (hash_of a.alg) a.x a.m a.n k a.leaf.bytes a.first.bytes a.p a.q a.path.now a.proof.now z lt e some w.low w.hashed w.sibling.bytes w.high (omega (arith, o.2, some)) hi side l b.1.1.1.1.0,
              (omega (arith, o), omega (arith, o), omega (arith, o)),
            ),
          ),
        ),
      ),
    )
