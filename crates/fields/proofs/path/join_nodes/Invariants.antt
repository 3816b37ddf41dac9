use mathlib.Core.Path.{◌≡◌}
use Prim.Native.Nat.{◌*◌}
use lib.ListN.{take, drop}
use Rattle.fields.specs.Write.{stripped}
use Rattle.octets.specs.Bytes.{put}
use Rattle.fields.proofs.path.join_nodes.Given as goal

abbrev pub invariant-loop-k : goal.invariant-loop-k
invariant-loop-k l = l.out ≡ put l.initial.out 0 (take (l.k * 32) (stripped l.n (drop l.start l.s)))
