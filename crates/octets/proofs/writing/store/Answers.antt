-- `octets::writing::store` meets its contract. The invariant: the buffer is what it was with the first i bytes put in. Assumes nothing.
use mathlib.Core.Path.{refl, ◌∙◌}
use native.Mathlib.Omega.{arith}
use lib.ListN.{length-set}
use Rattle.octets.proofs.Putting.{put_none, put_turn, put_all}
use Rattle.octets.proofs.writing.store.Goals as goal

pub loop-i-init : goal.loop-i-init
loop-i-init c = (omega arith, refl, put_none c.args.out.now c.args.s.now c.args.at)

pub loop-i-preserved : goal.loop-i-preserved
loop-i-preserved c =
    let l = c in
    let a = l.args in
    (omega arith, simp length-set (omega arith), put_turn a.out.now l.loop-i.out a.s.now a.at l.loop-i.i (omega arith) (omega arith) (omega arith) l.loop-i.invariant.2)

pub returns : goal.returns
returns c =
    let l = c in
    let a = l.args in
    l.loop-i.invariant.2 ∙ put_all a.out.now a.s.now a.at l.loop-i.i (omega arith)
