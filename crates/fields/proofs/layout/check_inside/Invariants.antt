use mathlib.Core.Path.{◌≡◌}
use Prim.Native.Nat.{◌-◌, ◌≤◌}
use Rattle.fields.specs.Layout.{inside_from, inside}
use Rattle.fields.specs.Inner.{part}
use Rattle.fields.proofs.layout.check_inside.Given as goal

abbrev pub invariant-loop-at : goal.invariant-loop-at
invariant-loop-at l = (l.at ≤ l.end) × (inside l.inner (part l.s l.start l.end) l.start ≡ inside_from l.inner l.last (part l.s l.at l.end) l.at)

abbrev pub decreases-loop-at : goal.decreases-loop-at
decreases-loop-at l = l.end - l.at
