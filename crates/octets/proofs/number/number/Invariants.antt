-- `octets::number::number` meets its contract. Assumes nothing.
use mathlib.Core.Path.{◌≡◌}
use Prim.Native.Nat.{◌-◌, ◌≤◌, ◌<◌, ◌^◌}
use lib.ListN.{take, drop}
use Rattle.octets.specs.Numbers.{unbe}
use Rattle.octets.proofs.number.number.Given as goal

abbrev pub invariant-loop-i : goal.invariant-loop-i
invariant-loop-i l = (l.i ≤ l.width) × (l.n ≡ unbe (take l.i (drop l.at l.s))) × (l.n < 256 ^ l.i)

abbrev pub decreases-loop-i : goal.decreases-loop-i
decreases-loop-i l = l.width - l.i
