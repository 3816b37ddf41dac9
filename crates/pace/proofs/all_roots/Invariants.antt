use Rattle.std.proofs.Common.{length, ◌-◌, ◌≤◌}
use Rattle.pace.proofs.all_roots.Given as goal

abbrev pub invariant-loop-i : goal.invariant-loop-i
invariant-loop-i l = l.i ≤ length l.leaves

abbrev pub decreases-loop-i : goal.decreases-loop-i
decreases-loop-i l = length l.leaves - l.i
