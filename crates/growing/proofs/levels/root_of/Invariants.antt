-- `growing::levels::root_of` meets its contract: those that count from the first level on are those that count from here. Assumes nothing.
use mathlib.Core.Path.{◌≡◌}
use Prim.Native.Nat.{◌-◌, ◌≤◌}
use lib.ListN.{length, drop}
use Rattle.growing.specs.Limits.{most_hashes}
use Rattle.growing.specs.Hashes.{counting}
use Rattle.growing.proofs.levels.root_of.Given as goal

abbrev pub invariant-loop-i : goal.invariant-loop-i
invariant-loop-i l = (l.i ≤ most_hashes) × (length l.hashes ≡ most_hashes) × (counting l.hashes l.initial.n ≡ counting (drop l.i l.hashes) l.n)

abbrev pub decreases-loop-i : goal.decreases-loop-i
decreases-loop-i l = most_hashes - l.i
