use Rattle.std.proofs.Common.{length, ◌-◌, ◌≡◌}
use Rattle.cases.proofs.growth.tree_from.Given as goal

abbrev pub invariant-loop-i : goal.invariant-loop-i
invariant-loop-i l = length l.hashes ≡ length l.initial.hashes

abbrev pub decreases-loop-i : goal.decreases-loop-i
decreases-loop-i l = 64 - l.i
