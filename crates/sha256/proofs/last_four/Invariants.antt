use Prim.Native.Nat.{◌+◌, ◌-◌, ◌≤◌, ◌<◌}
use mathlib.Core.Path.{◌≡◌}
use lib.ListN.{length}
use Rattle.words.specs.Going.{Goes}
use Rattle.sha256.specs.Sha256.{constants}
use Rattle.sha256.specs.Inner.{Scheduled, rounds_over}
use Rattle.sha256.proofs.last_four.Given as goal

abbrev pub invariant-loop-j : goal.invariant-loop-j
invariant-loop-j l = (l.j ≤ 4) × (l.t < 61) × (length l.w ≡ 64) × (l.k ≡ constants) × Goes rounds_over Scheduled l.initial.v l.w l.t 64 l.v l.w (l.t + l.j) 64

abbrev pub decreases-loop-j : goal.decreases-loop-j
decreases-loop-j l = 4 - l.j
