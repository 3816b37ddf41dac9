-- `tree::build::inclusion_path` meets its contract: one law for each return. Assumes nothing.
use mathlib.Core.Path.{sym, ap, ◌∙◌}
use mathlib.Core.List.{List}
use Prim.Native.Nat.{ℕ}
use native.Mathlib.Omega.{arith}
use lib.ListN.{length}
use Rattle.hash.specs.Digest.{hash_of}
use Rattle.hash.proofs.Promises.{hash_length}
use Rattle.tree.specs.Tree.{path}
use Rattle.tree.specs.Joined.{nodes}
use Rattle.octets.specs.Bytes.{joined}
use Rattle.tree.proofs.Building.{path_10, path_6, path_in, path_bytes, short, long, reports_refused, reports_from, from_start}
use Rattle.tree.proofs.build.inclusion_path.Goals as goal

pub returns-then-bad_leaves : goal.returns-then-bad_leaves
returns-then-bad_leaves c =
    let a = c.args in
    reports_refused a.out.now (path_10 (hash_of a.alg) a.leaves.now a.place (length a.out.now) (sym c.bad_leaves.ensures ∙ c.if-bad_leaves.true))

pub returns-then-n-place : goal.returns-then-n-place
returns-then-n-place c =
    let a = c.args in
    reports_refused a.out.now (path_6 (hash_of a.alg) a.leaves.now a.place (length a.out.now) (sym c.bad_leaves.ensures ∙ c.if-bad_leaves.false) (omega arith))

pub returns-then-out-inclusion_count : goal.returns-then-out-inclusion_count
returns-then-out-inclusion_count c =
    let a = c.args in
    let s = a.leaves.now in
    let r = length a.out.now in
    let n = path_bytes (hash_of a.alg) (hash_length a.alg) a.place s (omega arith) in
    reports_refused a.out.now (path_in (hash_of a.alg) s a.place r (sym c.bad_leaves.ensures ∙ c.if-bad_leaves.false) (omega arith) ∙ short r (joined (path (hash_of a.alg) a.place (nodes s))) (omega arith))

pub path_into-requires : goal.path_into-requires
path_into-requires c =
    let a = c.args in
    let s = a.leaves.now in
    let n = ap (λ (l : List (List ℕ)). length (joined (path (hash_of a.alg) a.place l))) (from_start s) ∙ path_bytes (hash_of a.alg) (hash_length a.alg) a.place s (omega arith) in
    (omega arith, omega arith, omega arith)

pub returns : goal.returns
returns c =
    let a = c.args in
    let s = a.leaves.now in
    let o = a.out.now in
    let n = path_bytes (hash_of a.alg) (hash_length a.alg) a.place s (omega arith) in
    let call = c.path_into.ensures in
    reports_from (path (hash_of a.alg) a.place) s o (path_in (hash_of a.alg) s a.place (length o) (sym c.bad_leaves.ensures ∙ c.if-bad_leaves.false) (omega arith) ∙ long (length o) (joined (path (hash_of a.alg) a.place (nodes s))) (omega arith)) call.0 call.1
