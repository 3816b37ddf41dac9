use mathlib.Core.Path.{ap, ◌∙◌}
use mathlib.Core.List.{List}
use Prim.Native.Nat.{ℕ}
use native.Mathlib.Omega.{arith}
use lib.ListN.{length}
use lib.Seq.{paste}
use Rattle.octets.proofs.Putting.{pasted}
use Rattle.hash.proofs.Padding.{joined}
use Rattle.hash.proofs.message.join.Goals as goal

pub returns : goal.returns
returns c =
    let first = c in
    let start = first in
    let h = start.args.head.now in
    let t = start.args.rest.now in
    let a = start.args.a.now in
    let p = start.requires in
    pasted first.put.new.out t (length h) (omega (arith, p.0, first.put.auto.out)) c.put-2.ensures
    ∙ ap (λ (q : List ℕ). paste q (length h) t (length t)) (pasted a h 0 (omega (arith, p.0)) first.put.ensures)
    ∙ joined h t a p.1 p.0
