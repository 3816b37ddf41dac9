-- `growing::levels::root_above` meets its contract: the root from the first level is the root from here. Assumes nothing.
use mathlib.Core.Path.{◌≡◌}
use Prim.Native.Nat.{◌-◌, ◌≤◌}
use lib.ListN.{length}
use Rattle.hash.specs.Digest.{hash_of}
use Rattle.growing.specs.Limits.{most_hashes}
use Rattle.growing.proofs.Stepping.{above}
use Rattle.growing.proofs.levels.root_above.Given as goal

abbrev pub invariant-loop-i : goal.invariant-loop-i
invariant-loop-i l =
    (l.i ≤ most_hashes) × (length l.hashes ≡ most_hashes) × (above (hash_of l.alg) l.hashes l.level l.count l.initial.right.bytes ≡ above (hash_of l.alg) l.hashes l.i l.n l.right.bytes)

abbrev pub decreases-loop-i : goal.decreases-loop-i
decreases-loop-i l = most_hashes - l.i
