use Prim.Native.Nat.{ℕ, ◌-◌, ◌≤◌}
use mathlib.Core.Path.{◌≡◌}
use lib.ListN.{length}
use Rattle.words.specs.Known.{Known}
use Rattle.sm3.specs.Inner.{Paired}
use Rattle.sm3.proofs.pair_up.Given as goal

abbrev pub invariant-loop-j : goal.invariant-loop-j
invariant-loop-j l = (l.j ≤ 12) × (length l.w ≡ 132) × ((x : ℕ → ℕ) → Known l.initial.w x 16 → Paired l.w x 16 l.j)

abbrev pub decreases-loop-j : goal.decreases-loop-j
decreases-loop-j l = 12 - l.j
