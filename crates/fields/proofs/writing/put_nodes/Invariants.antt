use mathlib.Core.Path.{◌≡◌}
use Prim.Native.Nat.{◌*◌}
use lib.ListN.{take}
use Rattle.fields.specs.Write.{prefixed}
use Rattle.octets.specs.Bytes.{put}
use Rattle.fields.proofs.writing.put_nodes.Given as goal

abbrev pub invariant-loop-k : goal.invariant-loop-k
invariant-loop-k l = l.out ≡ put l.initial.out l.at (take (l.k * 33) (prefixed l.n l.v))
