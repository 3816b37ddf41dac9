use Prim.Native.Nat.{◌+◌, ◌-◌, ◌*◌, ◌≤◌}
use mathlib.Core.Path.{◌≡◌}
use lib.ListN.{length}
use Rattle.words.specs.Known.{listed}
use Rattle.words.specs.Going.{Goes}
use Rattle.sm3.specs.Sm3.{constant}
use Rattle.sm3.specs.Inner.{Expanded, rounds_over}
use Rattle.sm3.proofs.run.Given as goal

abbrev pub invariant-loop-t : goal.invariant-loop-t
invariant-loop-t l = (l.t ≤ 4) × (length l.w ≡ 132) × (l.k ≡ listed constant 64) × Goes rounds_over Expanded l.initial.v l.initial.w 0 16 l.v l.w (4 * l.t) (4 * l.t + 16)

abbrev pub decreases-loop-t : goal.decreases-loop-t
decreases-loop-t l = 4 - l.t

abbrev pub invariant-loop-i : goal.invariant-loop-i
invariant-loop-i l = (4 ≤ l.i) × (l.i ≤ 13) × (length l.w ≡ 132) × (l.k ≡ listed constant 64) × Goes rounds_over Expanded l.initial.u l.initial.w 16 32 l.u l.w (4 * l.i) (4 * l.i + 16)

abbrev pub decreases-loop-i : goal.decreases-loop-i
decreases-loop-i l = 13 - l.i

abbrev pub invariant-loop-j : goal.invariant-loop-j
invariant-loop-j l = (13 ≤ l.j) × (l.j ≤ 16) × (length l.w ≡ 132) × (l.k ≡ listed constant 64) × Goes rounds_over Expanded l.initial.r l.w 52 68 l.r l.w (4 * l.j) 68

abbrev pub decreases-loop-j : goal.decreases-loop-j
decreases-loop-j l = 16 - l.j
