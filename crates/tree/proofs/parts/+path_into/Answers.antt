-- The proof of the cycle of calls {path_into}: one law for each side of the split. The measure is the count of leaves. Assumes nothing.
use Prim.Native.Nat.{ℕ, ◌+◌, ◌-◌}
use native.Mathlib.Omega.{arith}
use Rattle.hash.specs.Digest.{hash_of}
use Rattle.tree.specs.Tree.{root, path}
use Rattle.tree.specs.Joined.{nodes_from}
use Rattle.hash.proofs.Promises.{hash_length}
use Rattle.tree.proofs.Parting.{Grows, path_single, path_grows_first, path_grows_rest, over_none, over_more}
use Rattle.tree.proofs.parts.+path_into.Goals.{Else-place-k, Then-place-k}
use Rattle.tree.proofs.parts.+path_into.Goals as goal

-- by what the path of a part grows
module _ (t : ℕ) (c : Then-place-k t) where
  abbrev split₁ : ℕ
  split₁ = c.split_of-k.result

  first-grows : Grows (path (hash_of c.args.alg) c.args.place (nodes_from c.args.from split₁ c.args.leaves.now)) (path (hash_of c.args.alg) c.args.place (nodes_from c.args.from c.args.n c.args.leaves.now)) (root (hash_of c.args.alg) (nodes_from (c.args.from + split₁) (c.args.n - split₁) c.args.leaves.now))
  first-grows =
      path_grows_first (hash_of c.args.alg) (hash_length c.args.alg) c.args.from c.args.n c.args.leaves.now (omega arith) split₁ (omega arith) c.split_of-k.ensures.0 c.args.place c.if-place-k.true

module _ (t : ℕ) (c : Else-place-k t) where
  abbrev split₂ : ℕ
  split₂ = c.split_of-k.result

  rest-grows : Grows (path (hash_of c.args.alg) (c.args.place - split₂) (nodes_from (c.args.from + split₂) (c.args.n - split₂) c.args.leaves.now)) (path (hash_of c.args.alg) c.args.place (nodes_from c.args.from c.args.n c.args.leaves.now)) (root (hash_of c.args.alg) (nodes_from c.args.from split₂ c.args.leaves.now))
  rest-grows =
      path_grows_rest (hash_of c.args.alg) (hash_length c.args.alg) c.args.from c.args.n c.args.leaves.now (omega arith) split₂ (omega arith) c.split_of-k.ensures.0 c.args.place c.if-place-k.false

pub returns-then-n-le1 : goal.returns-then-n-le1
returns-then-n-le1 t c =
    let a = c.args in
    over_none _ a.out.now (path_single (hash_of a.alg) a.from a.n a.leaves.now a.place (omega arith))

pub path_into-c-requires : goal.path_into-c-requires
path_into-c-requires t c = let g = first-grows t (goal.at.path_into-c-requires t c).Then-place-k in (omega arith, (omega arith, omega arith, omega arith))

pub put_root-requires : goal.put_root-requires
put_root-requires t c =
    let g = first-grows t (goal.at.put_root-requires t c).Then-place-k in
    let call = c.path_into-c in
    (omega arith, omega arith, omega (arith, call.ensures.0, call.auto.out))

pub returns-then-place-k : goal.returns-then-place-k
returns-then-place-k t c =
    let call = c.path_into-c.ensures in
    let put = c.put_root.ensures in
    over_more c.args.out.now (first-grows t (goal.at.returns-then-place-k t c).Then-place-k) call.0 call.1 put.value put.out_after

pub path_into-c-requires-2 : goal.path_into-c-requires-2
path_into-c-requires-2 t c = let g = rest-grows t (goal.at.path_into-c-requires-2 t c).Else-place-k in (omega arith, (omega arith, omega arith, omega arith))

pub put_root-requires-2 : goal.put_root-requires-2
put_root-requires-2 t c =
    let g = rest-grows t (goal.at.put_root-requires-2 t c).Else-place-k in
    let call = c.path_into-c-2 in
    (omega arith, omega arith, omega (arith, call.ensures.0, call.auto.out))

pub returns : goal.returns
returns t c =
    let call = c.path_into-c-2.ensures in
    let put = c.put_root-2.ensures in
    over_more c.args.out.now (rest-grows t (goal.at.returns t c).Else-place-k) call.0 call.1 put.value put.out_after
