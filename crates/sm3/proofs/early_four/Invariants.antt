use Prim.Native.Nat.{◌+◌, ◌-◌, ◌≤◌, ◌<◌}
use mathlib.Core.Path.{◌≡◌}
use lib.ListN.{length}
use Rattle.words.specs.Known.{listed}
use Rattle.words.specs.Going.{Goes}
use Rattle.sm3.specs.Sm3.{constant}
use Rattle.sm3.specs.Inner.{Expanded, rounds_over}
use Rattle.sm3.proofs.early_four.Given as goal

abbrev pub invariant-loop-j : goal.invariant-loop-j
invariant-loop-j l = (l.j ≤ 4) × (l.t < 13) × (length l.w ≡ 132) × (l.k ≡ listed constant 64) × Goes rounds_over Expanded l.initial.v l.initial.w l.t (l.t + 16) l.v l.w (l.t + l.j) (l.t + l.j + 16)

abbrev pub decreases-loop-j : goal.decreases-loop-j
decreases-loop-j l = 4 - l.j
