use Prim.Native.Nat.{◌+◌, ◌-◌, ◌*◌, ◌≤◌}
use mathlib.Core.Path.{◌≡◌}
use lib.ListN.{length}
use Rattle.words.specs.Going.{Goes}
use Rattle.sha256.specs.Sha256.{constants}
use Rattle.sha256.specs.Inner.{Scheduled, rounds_over}
use Rattle.sha256.proofs.run.Given as goal

abbrev pub invariant-loop-t : goal.invariant-loop-t
invariant-loop-t l = (l.t ≤ 12) × (length l.w ≡ 64) × (l.k ≡ constants) × Goes rounds_over Scheduled l.initial.v l.initial.w 0 16 l.v l.w (4 * l.t) (4 * l.t + 16)

abbrev pub decreases-loop-t : goal.decreases-loop-t
decreases-loop-t l = 12 - l.t

abbrev pub invariant-loop-i : goal.invariant-loop-i
invariant-loop-i l = (l.i ≤ 16) × (length l.w ≡ 64) × (l.k ≡ constants) × Goes rounds_over Scheduled l.initial.u l.w 48 64 l.u l.w (4 * l.i) 64

abbrev pub decreases-loop-i : goal.decreases-loop-i
decreases-loop-i l = 16 - l.i
