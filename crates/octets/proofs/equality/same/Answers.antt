-- `octets::same` meets its contract. The invariant: the strings are the same exactly if what is left of them is. Assumes nothing.
use mathlib.Core.Path.{refl, sym, ◌∙◌}
use native.Mathlib.Omega.{arith}
use Rattle.octets.proofs.Sameness.{other_length, differ, agree, end}
use Rattle.octets.proofs.equality.same.Goals as goal

pub returns-then-a-b : goal.returns-then-a-b
returns-then-a-b c = sym (other_length _ _ c.if-a-b.true)

pub loop-i-init : goal.loop-i-init
loop-i-init c = (omega arith, omega arith, refl)

pub returns-then-a-i : goal.returns-then-a-i
returns-then-a-i c =
    let l = c in
    let a = l.args in
    sym (l.loop-i.invariant.2 ∙ differ a.a.now a.b.now l.loop-i.i (omega arith) (omega arith) c.if-a-i.true)

pub loop-i-preserved : goal.loop-i-preserved
loop-i-preserved c =
    let l = c in
    let a = l.args in
    (omega arith, l.loop-i.invariant.1, l.loop-i.invariant.2 ∙ agree a.a.now a.b.now l.loop-i.i (omega arith) (omega arith) c.if-a-i.false)

pub returns : goal.returns
returns c =
    let l = c in
    let a = l.args in
    sym (l.loop-i.invariant.2 ∙ end a.a.now a.b.now l.loop-i.i (omega arith) (omega arith))
