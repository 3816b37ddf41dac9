use mathlib.Core.Path.{◌≡◌}
use Prim.Native.Nat.{◌^◌, ◌<◌}
use lib.ListN.{length, take}
use Rattle.fields.proofs.Resuming.{Held}
use Rattle.fields.proofs.reading.read_layout.Given as goal

abbrev pub invariant-loop-i : goal.invariant-loop-i
invariant-loop-i l = (length l.layout ≡ 8) × (l.here < 2 ^ 64) × Held (take l.n l.layout) l.s l.at l.parts l.here l.i
