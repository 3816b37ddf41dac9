use Rattle.std.proofs.Common.{length, ◌-◌}
use Rattle.cases.proofs.value.decimal.Given as goal

abbrev pub decreases-loop-i : goal.decreases-loop-i
decreases-loop-i l = length l.word - l.i
