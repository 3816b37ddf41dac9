-- `growing::levels::with_leaves` meets its contract: so far the tree has the first i; and what is carried in at the first level is what is carried in here,
-- behind the levels passed. Assumes nothing.
use mathlib.Core.Path.{◌≡◌}
use mathlib.Core.List.{◌++◌}
use Prim.Native.Nat.{◌+◌, ◌-◌, ◌≤◌}
use lib.ListN.{length, take, drop}
use Rattle.hash.specs.Digest.{hash_of}
use Rattle.tree.specs.Joined.{first_nodes}
use Rattle.growing.specs.Limits.{most_hashes}
use Rattle.growing.specs.Hashes.{merged, with_leaves}
use Rattle.growing.proofs.Stepping.{grown}
use Rattle.growing.proofs.levels.with_leaves.Given as goal

abbrev pub invariant-loop-level : goal.invariant-loop-level
invariant-loop-level l =
    (l.level ≤ most_hashes) × (length l.hashes ≡ most_hashes) × (merged (hash_of l.alg) l.initial.hashes l.count l.initial.h ≡ take l.level l.hashes ++ merged (hash_of l.alg) (drop l.level l.hashes) l.m l.h)

abbrev pub decreases-loop-level : goal.decreases-loop-level
decreases-loop-level l = most_hashes - l.level

abbrev pub invariant-loop-i : goal.invariant-loop-i
invariant-loop-i l =
    (l.i ≤ l.n) × (length l.hashes ≡ most_hashes) × (l.count ≡ l.initial.count + l.i) × (grown l.algorithm l.hashes l.count ≡ with_leaves (hash_of l.alg) (grown l.algorithm l.initial.hashes l.initial.count) (first_nodes l.i l.leaves))

abbrev pub decreases-loop-i : goal.decreases-loop-i
decreases-loop-i l = l.n - l.i
