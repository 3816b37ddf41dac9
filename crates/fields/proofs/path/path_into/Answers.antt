use mathlib.Core.Path.{refl}
use native.Mathlib.Omega.{arith}
use Rattle.fields.proofs.Stripping.{outside, wrong, short, copied}
use Rattle.fields.proofs.path.path_into.Goals as goal

pub returns-then-s-start : goal.returns-then-s-start
returns-then-s-start c = let a = c.args in rw (outside a.s.now a.out.now a.part (omega arith)) (refl, refl)

pub returns-in-Err : goal.returns-in-Err
returns-in-Err c =
    let a = c.args in
    rw (wrong a.s.now a.out.now a.part (omega arith) _ _ c.in-Err.ensures) (refl, refl)

pub returns-then-out-n : goal.returns-then-out-n
returns-then-out-n c =
    let a = c.args in
    rw (short a.s.now a.out.now a.part (omega arith) c.in-Ok.ensures c.if-out-n.true) (refl, refl)

pub returns : goal.returns
returns c =
    let a = c.args in
    copied a.s.now a.out.now a.part (omega arith) c.in-Ok.ensures c.if-out-n.false _ c.join_nodes.ensures
