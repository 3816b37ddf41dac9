use Prim.Native.Nat.{◌+◌, ◌-◌, ◌≤◌, ◌<◌}
use mathlib.Core.Path.{◌≡◌}
use lib.ListN.{length}
use Rattle.words.specs.Known.{listed}
use Rattle.words.specs.Going.{Goes}
use Rattle.sm3.specs.Sm3.{constant}
use Rattle.sm3.specs.Inner.{Expanded, rounds_over}
use Rattle.sm3.proofs.last_four.Given as goal

abbrev pub invariant-loop-j : goal.invariant-loop-j
invariant-loop-j l = (l.j ≤ 4) × (15 < l.t) × (l.t < 61) × (length l.w ≡ 132) × (l.k ≡ listed constant 64) × Goes rounds_over Expanded l.initial.v l.w l.t 68 l.v l.w (l.t + l.j) 68

abbrev pub decreases-loop-j : goal.decreases-loop-j
decreases-loop-j l = 4 - l.j
