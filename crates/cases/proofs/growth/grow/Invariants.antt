use Rattle.std.proofs.Common.{length, ◌-◌, ◌≡◌, ◌≤◌}
use Rattle.cases.proofs.growth.grow.Given as goal

abbrev pub invariant-loop-made : goal.invariant-loop-made
invariant-loop-made l = (l.made ≤ 1000) × (length l.lent ≡ length l.initial.lent)

abbrev pub decreases-loop-made : goal.decreases-loop-made
decreases-loop-made l = 1000 - l.made
