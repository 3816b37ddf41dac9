use Rattle.std.proofs.Common.{length, ◌-◌, ◌/◌}
use Rattle.cases.proofs.value.hex.Given as goal

abbrev pub decreases-loop-i : goal.decreases-loop-i
decreases-loop-i l = length l.digits / 2 - l.i
