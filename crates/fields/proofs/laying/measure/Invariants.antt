use mathlib.Core.Path.{◌≡◌}
use Prim.Native.Nat.{◌≤◌}
use lib.ListN.{length, take, drop}
use Rattle.fields.specs.Write.{write, behind, filled_by}
use Rattle.fields.specs.Inner.{ends, reached}
use Rattle.fields.proofs.laying.measure.Given as goal

abbrev pub invariant-loop-i : goal.invariant-loop-i
invariant-loop-i l =
    (l.at ≤ 9223372036854775807) × (length l.layout ≡ 8)
    × (reached (ends 0 (write (filled_by (take l.n l.layout) l.numbers (behind l.values)) 0)) ≡ reached (ends l.at (write (drop l.i (filled_by (take l.n l.layout) l.numbers (behind l.values))) l.at)))
