use Prim.Native.Nat.{◌+◌, ◌-◌, ◌≤◌, ◌<◌}
use mathlib.Core.Path.{◌≡◌}
use lib.ListN.{length}
use Rattle.words.specs.Going.{Goes}
use Rattle.sha256.specs.Sha256.{constants}
use Rattle.sha256.specs.Inner.{Scheduled, rounds_over}
use Rattle.sha256.proofs.four.Given as goal

abbrev pub invariant-loop-j : goal.invariant-loop-j
invariant-loop-j l = (l.j ≤ 4) × (l.t < 45) × (length l.w ≡ 64) × (l.k ≡ constants) × Goes rounds_over Scheduled l.initial.v l.initial.w l.t (l.t + 16) l.v l.w (l.t + l.j) (l.t + l.j + 16)

abbrev pub decreases-loop-j : goal.decreases-loop-j
decreases-loop-j l = 4 - l.j
