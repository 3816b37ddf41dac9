use borrow.Author.Rules.{rules}
use Prim.Native.Nat.{◌+◌, ◌*◌}
use mathlib.Core.Path.{◌≡◌}
use native.Mathlib.Omega.{arith}
use Rattle.sm3.proofs.run.Goals as goal

pub loop-t-init : goal.loop-t-init
loop-t-init c = (omega arith, search rules, search rules, (λ x s e k. (e, k)))

pub loop-t-preserved : goal.loop-t-preserved
loop-t-preserved c =
    let l = c.loop-t in
    let n : 4 * (l.t + 1) ≡ 4 * l.t + 4 = omega arith in
    let m : 4 * l.t + 4 + 16 ≡ 4 * l.t + 20 = omega arith in
    (omega arith, search rules, l.invariant.2, (λ x s e k. let i = l.invariant.3 x s e k in rw (n, m) (c.early_four-v.ensures x s i.0 i.1)))

pub loop-i-init : goal.loop-i-init
loop-i-init c = (omega arith, omega arith, search rules, search rules, (λ x s e k. (e, k)))

pub loop-i-preserved : goal.loop-i-preserved
loop-i-preserved c =
    let l = c.loop-i in
    let n : 4 * (l.i + 1) ≡ 4 * l.i + 4 = omega arith in
    let m : 4 * l.i + 4 + 16 ≡ 4 * l.i + 20 = omega arith in
    (omega arith, omega arith, search rules, l.invariant.3, (λ x s e k. let i = l.invariant.4 x s e k in rw (n, m) (c.late_four-u.ensures x s i.0 i.1)))

pub loop-j-init : goal.loop-j-init
loop-j-init c = (omega arith, omega arith, search rules, search rules, (λ x s e k. (e, k)))

pub loop-j-preserved : goal.loop-j-preserved
loop-j-preserved c =
    let l = c.loop-j in
    let n : 4 * (l.j + 1) ≡ 4 * l.j + 4 = omega arith in
    (omega arith, omega arith, search rules, l.invariant.3, (λ x s e k. let i = l.invariant.4 x s e k in rw n (c.last_four-r.ensures x s i.0 i.1)))

pub returns : goal.returns
returns c =
    let l = c.loop-t in
    let m = c.loop-i in
    let n = c.loop-j in
    let e : l.t ≡ 4 = omega arith in
    let f : m.i ≡ 13 = omega arith in
    let g : n.j ≡ 16 = omega arith in
    λ x s a k.
    let i = rw e at l.invariant.3 x s a k in
    let o = rw f at m.invariant.4 x s i.0 i.1 in
    rw g at n.invariant.4 x s o.0 o.1

pub early_four-v-requires : goal.early_four-v-requires
early_four-v-requires c = (omega arith, search rules, search rules)

pub late_four-u-requires : goal.late_four-u-requires
late_four-u-requires c = (omega arith, omega arith, search rules, search rules)

pub last_four-r-requires : goal.last_four-r-requires
last_four-r-requires c = (omega arith, omega arith, search rules, search rules)
