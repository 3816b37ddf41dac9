-- `tree::build::consistency_path` meets its contract: one law for each return. Assumes nothing.
use mathlib.Core.Path.{sym, ap, ◌∙◌}
use mathlib.Core.List.{List}
use Prim.Native.Nat.{ℕ}
use native.Mathlib.Omega.{arith}
use lib.ListN.{length}
use Rattle.hash.specs.Digest.{hash_of}
use Rattle.hash.proofs.Promises.{hash_length}
use mathlib.Core.Bool.{true}
use Rattle.tree.specs.Tree.{subproof, consistency}
use Rattle.tree.specs.Count.{consistency_count}
use Rattle.tree.specs.Joined.{nodes}
use Rattle.octets.specs.Bytes.{joined}
use Rattle.tree.proofs.Building.{proof_10, proof_zero, proof_6, proof_in, proof_bytes, short, long, reports_refused, reports_from, from_start}
use Rattle.tree.proofs.build.consistency_path.Goals as goal

pub returns-then-bad_leaves : goal.returns-then-bad_leaves
returns-then-bad_leaves c =
    let a = c.args in
    reports_refused a.out.now (proof_10 (hash_of a.alg) a.leaves.now a.first (length a.out.now) (sym c.bad_leaves.ensures ∙ c.if-bad_leaves.true))

pub returns-then-first-eq0 : goal.returns-then-first-eq0
returns-then-first-eq0 c =
    let a = c.args in
    reports_refused a.out.now (proof_zero (hash_of a.alg) a.leaves.now a.first (length a.out.now) (sym c.bad_leaves.ensures ∙ c.if-bad_leaves.false) (omega arith))

pub returns-then-n-first : goal.returns-then-n-first
returns-then-n-first c =
    let a = c.args in
    reports_refused a.out.now (proof_6 (hash_of a.alg) a.leaves.now a.first (length a.out.now) (sym c.bad_leaves.ensures ∙ c.if-bad_leaves.false) (omega arith) (omega arith))

pub returns-then-out-subproof_count : goal.returns-then-out-subproof_count
unfolding consistency_count
returns-then-out-subproof_count c =
    let a = c.args in
    let s = a.leaves.now in
    let r = length a.out.now in
    let n = proof_bytes (hash_of a.alg) (hash_length a.alg) a.first s (omega arith) (omega arith) in
    reports_refused a.out.now (proof_in (hash_of a.alg) s a.first r (sym c.bad_leaves.ensures ∙ c.if-bad_leaves.false) (omega arith) (omega arith) ∙ short r (joined (consistency (hash_of a.alg) a.first (nodes s))) (omega arith))

pub proof_into-requires : goal.proof_into-requires
unfolding consistency consistency_count
proof_into-requires c =
    let a = c.args in
    let s = a.leaves.now in
    let n = ap (λ (l : List (List ℕ)). length (joined (subproof (hash_of a.alg) a.first l true))) (from_start s) ∙ proof_bytes (hash_of a.alg) (hash_length a.alg) a.first s (omega arith) (omega arith) in
    (omega arith, omega arith, omega arith, omega arith)

pub returns : goal.returns
unfolding consistency consistency_count
returns c =
    let a = c.args in
    let s = a.leaves.now in
    let o = a.out.now in
    let n = proof_bytes (hash_of a.alg) (hash_length a.alg) a.first s (omega arith) (omega arith) in
    let call = c.proof_into.ensures in
    reports_from (λ (l : List (List ℕ)). subproof (hash_of a.alg) a.first l true) s o (proof_in (hash_of a.alg) s a.first (length o) (sym c.bad_leaves.ensures ∙ c.if-bad_leaves.false) (omega arith) (omega arith) ∙ long (length o) (joined (consistency (hash_of a.alg) a.first (nodes s))) (omega arith)) call.0 call.1
