-- `auditor::dispute::work` meets its contract. The loop keeps what is left of the work equal to the whole. Assumes nothing.
use mathlib.Core.Path.{◌≡◌}
use Prim.Native.Nat.{◌-◌, ◌≤◌}
use lib.ListN.{length, take}
use Rattle.hash.specs.Digest.{hash_of}
use Rattle.auditor.specs.Dispute.{longest_path}
use Rattle.auditor.proofs.Following.{Left}
use Rattle.auditor.proofs.dispute.work.Given as goal

abbrev pub invariant-loop-at : goal.invariant-loop-at
invariant-loop-at l =
    (l.at ≤ length l.heads) × (l.len ≤ longest_path) × (length l.path ≡ longest_path) × (length l.held ≡ 32) × (length l.pair ≡ length l.initial.pair) × (l.pair ≡ l.initial.pair)
    × (Left (hash_of l.alg) l.place l.page1 l.page2 l.path2 l.heads (length l.initial.pair) l.at l.m l.held (take l.len l.path) ≡ Left (hash_of l.alg) l.place l.page1 l.page2 l.path2 l.heads (length l.initial.pair) 0 l.size l.root l.path1)

abbrev pub decreases-loop-at : goal.decreases-loop-at
decreases-loop-at l =
    length l.heads - l.at
