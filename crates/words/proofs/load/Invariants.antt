use Rattle.std.proofs.Common.{◌≡◌, ◌+◌, ◌-◌, ◌≤◌, ◌++◌, length, drop}
use Rattle.words.specs.Words.{word_from}
use Rattle.words.specs.Known.{listed}
use Rattle.words.proofs.load.Given as goal

abbrev pub invariant-loop-t : goal.invariant-loop-t
invariant-loop-t l = (l.t ≤ 16) × (l.p + 64 ≤ length l.m) × (16 ≤ length l.initial.w) × (length l.w ≡ length l.initial.w) × (l.w ≡ listed (word_from l.m l.p) l.t ++ drop l.t l.initial.w)

abbrev pub decreases-loop-t : goal.decreases-loop-t
decreases-loop-t l = 16 - l.t
