-- `tree::nodes::put_node` meets its contract. Assumes nothing.
use mathlib.Core.Path.{◌≡◌, ap, ◌∙◌}
use Prim.Native.Nat.{ℕ}
use native.Mathlib.Omega.{arith}
use lib.ListN.{length}
use lib.Seq.{paste}
use borrow.Author.Rules.{rules}
use Rattle.octets.proofs.Putting.{pasted}
use Rattle.tree.proofs.nodes.put_node.Goals as goal

pub returns : goal.returns
returns c =
    let start = c in
    let a = start.args in
    let k : length a.h.bytes ≡ 32 = search rules in
    pasted a.out.now a.h.bytes a.at (omega (arith, k, start.requires)) c.put.ensures
    ∙ ap (λ (n : ℕ). paste a.out.now a.at a.h.bytes n) k
