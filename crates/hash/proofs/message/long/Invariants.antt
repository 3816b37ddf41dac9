use mathlib.Core.Path.{◌≡◌}
use mathlib.Core.List.{◌++◌}
use Prim.Native.Nat.{◌+◌, ◌-◌, ◌/◌, ◌%◌, ◌≤◌}
use lib.ListN.{length}
use Rattle.hash.specs.Algorithm.{start_of, step_of, words_of}
use Rattle.hash.specs.Message.{absorbed}
use Rattle.hash.proofs.message.long.Given as goal

abbrev pub invariant-loop-p : goal.invariant-loop-p
invariant-loop-p l = (l.p ≤ length l.m) × (length l.w ≡ words_of l.alg) × ((length l.head + l.p) % 64 ≡ 0) × (l.v ≡ absorbed (step_of l.alg) (start_of l.alg) (l.head ++ l.m) ((length l.head + l.p) / 64))

abbrev pub decreases-loop-p : goal.decreases-loop-p
decreases-loop-p l = length l.m - l.p
