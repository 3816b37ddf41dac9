use Rattle.std.proofs.Common.{length, ◌-◌, ◌≡◌}
use Rattle.cases.proofs.hashing.words_from.Given as goal

abbrev pub invariant-loop-t : goal.invariant-loop-t
invariant-loop-t l = length l.w ≡ 256

abbrev pub decreases-loop-t : goal.decreases-loop-t
decreases-loop-t l = 256 - l.t
