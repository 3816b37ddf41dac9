-- The proof of the cycle of calls {proof_into}: one law for each side of the split. The measure is the count of leaves. Assumes nothing.
use mathlib.Core.Path.{refl}
use mathlib.Core.Bool.{false}
use mathlib.Core.List.{[]}
use Prim.Native.Nat.{ℕ, ◌+◌, ◌-◌}
use native.Mathlib.Omega.{arith}
use Rattle.hash.specs.Digest.{hash_of}
use Rattle.tree.specs.Tree.{root, subproof}
use Rattle.tree.specs.Joined.{nodes_from}
use Rattle.hash.proofs.Promises.{hash_length}
use Rattle.tree.proofs.Parting.{Grows, sub_known, sub_grows_all, sub_grows_first, sub_grows_rest, over_none, over_more}
use Rattle.tree.proofs.parts.+proof_into.Goals.{Else-m-k, Then-m-k}
use Rattle.tree.proofs.parts.+proof_into.Goals as goal

-- by what the path of a part grows
module _ (t : ℕ) (c : Then-m-k t) where
  abbrev split₁ : ℕ
  split₁ = c.split_of-k.result

  first-grows : Grows (subproof (hash_of c.args.alg) c.args.m (nodes_from c.args.from split₁ c.args.leaves.now) c.args.known) (subproof (hash_of c.args.alg) c.args.m (nodes_from c.args.from c.args.n c.args.leaves.now) c.args.known) (root (hash_of c.args.alg) (nodes_from (c.args.from + split₁) (c.args.n - split₁) c.args.leaves.now))
  first-grows =
      sub_grows_first (hash_of c.args.alg) (hash_length c.args.alg) c.args.from c.args.n c.args.leaves.now (omega arith) c.args.m c.args.known (omega arith) split₁ (omega arith) c.split_of-k.ensures.0 c.if-m-k.true

module _ (t : ℕ) (c : Else-m-k t) where
  abbrev split₂ : ℕ
  split₂ = c.split_of-k.result

  rest-grows : Grows (subproof (hash_of c.args.alg) (c.args.m - split₂) (nodes_from (c.args.from + split₂) (c.args.n - split₂) c.args.leaves.now) false) (subproof (hash_of c.args.alg) c.args.m (nodes_from c.args.from c.args.n c.args.leaves.now) c.args.known) (root (hash_of c.args.alg) (nodes_from c.args.from split₂ c.args.leaves.now))
  rest-grows =
      sub_grows_rest (hash_of c.args.alg) (hash_length c.args.alg) c.args.from c.args.n c.args.leaves.now (omega arith) c.args.m c.args.known (omega arith) split₂ (omega arith) c.split_of-k.ensures.0 c.if-m-k.false

pub returns-then-known : goal.returns-then-known
returns-then-known t c =
    let a = c.args in
    over_none _ a.out.now (sub_known (hash_of a.alg) a.from a.n a.leaves.now a.m a.known (omega arith) (omega arith) c.if-known.true)

pub put_root-requires : goal.put_root-requires
put_root-requires t c =
    let a = c.args in
    let g = sub_grows_all (hash_of a.alg) (hash_length a.alg) a.from a.n a.leaves.now (omega arith) a.m a.known (omega arith) (omega arith) c.if-known.false in
    (omega arith, omega arith, omega arith)

pub returns-then-m-n : goal.returns-then-m-n
returns-then-m-n t c =
    let a = c.args in
    let g = sub_grows_all (hash_of a.alg) (hash_length a.alg) a.from a.n a.leaves.now (omega arith) a.m a.known (omega arith) (omega arith) c.if-known.false in
    let none = over_none [] a.out.now refl in
    let put = c.put_root.ensures in
    over_more a.out.now g none.0 none.1 put.value put.out_after

pub proof_into-c-requires : goal.proof_into-c-requires
proof_into-c-requires t c = let g = first-grows t (goal.at.proof_into-c-requires t c).Then-m-k in (omega arith, (omega arith, omega arith, omega arith, omega arith))

pub put_root-requires-then-m-k : goal.put_root-requires-then-m-k
put_root-requires-then-m-k t c =
    let g = first-grows t (goal.at.put_root-requires-then-m-k t c).Then-m-k in
    let call = c.proof_into-c in
    (omega arith, omega arith, omega (arith, call.ensures.0, call.auto.out))

pub returns-then-m-k : goal.returns-then-m-k
returns-then-m-k t c =
    let call = c.proof_into-c.ensures in
    let put = c.put_root-then-m-k.ensures in
    over_more c.args.out.now (first-grows t (goal.at.returns-then-m-k t c).Then-m-k) call.0 call.1 put.value put.out_after

pub proof_into-c-requires-2 : goal.proof_into-c-requires-2
proof_into-c-requires-2 t c = let g = rest-grows t (goal.at.proof_into-c-requires-2 t c).Else-m-k in (omega arith, (omega arith, omega arith, omega arith, omega arith))

pub put_root-requires-2 : goal.put_root-requires-2
put_root-requires-2 t c =
    let g = rest-grows t (goal.at.put_root-requires-2 t c).Else-m-k in
    let call = c.proof_into-c-2 in
    (omega arith, omega arith, omega (arith, call.ensures.0, call.auto.out))

pub returns : goal.returns
returns t c =
    let call = c.proof_into-c-2.ensures in
    let put = c.put_root-2.ensures in
    over_more c.args.out.now (rest-grows t (goal.at.returns t c).Else-m-k) call.0 call.1 put.value put.out_after
