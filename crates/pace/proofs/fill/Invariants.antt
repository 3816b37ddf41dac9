use Rattle.std.proofs.Common.{length, ◌-◌, ◌≡◌}
use Rattle.pace.proofs.fill.Given as goal

abbrev pub invariant-loop-i : goal.invariant-loop-i
invariant-loop-i l = length l.leaves ≡ length l.initial.leaves

abbrev pub decreases-loop-i : goal.decreases-loop-i
decreases-loop-i l = length l.initial.leaves - l.i
