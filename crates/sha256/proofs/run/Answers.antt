use borrow.Author.Rules.{rules}
use Prim.Native.Nat.{◌+◌, ◌*◌}
use mathlib.Core.Path.{◌≡◌}
use native.Mathlib.Omega.{arith}
use Rattle.sha256.proofs.run.Goals as goal

pub loop-t-init : goal.loop-t-init
loop-t-init c = (search rules, search rules, search rules, (λ x s e k. (e, k)))

pub loop-t-preserved : goal.loop-t-preserved
loop-t-preserved c =
    let l = c.loop-t in
    let n : 4 * (l.t + 1) ≡ 4 * l.t + 4 = omega arith in
    let m : 4 * l.t + 4 + 16 ≡ 4 * l.t + 20 = omega arith in
    (search rules, search rules, l.invariant.2, (λ x s e k. let i = l.invariant.3 x s e k in rw (n, m) (c.four-v.ensures x s i.0 i.1)))

pub loop-i-init : goal.loop-i-init
loop-i-init c = (search rules, search rules, search rules, (λ x s e k. (e, k)))

pub loop-i-preserved : goal.loop-i-preserved
loop-i-preserved c =
    let l = c.loop-i in
    let n : 4 * (l.i + 1) ≡ 4 * l.i + 4 = omega arith in
    (search rules, search rules, l.invariant.2, (λ x s e k. let i = l.invariant.3 x s e k in rw n (c.last_four-u.ensures x s i.0 i.1)))

pub returns : goal.returns
returns c =
    let l = c.loop-t in
    let m = c.loop-i in
    let f : l.t ≡ 12 = omega arith in
    let e : m.i ≡ 16 = omega arith in
    λ x s a k. let i = rw f at l.invariant.3 x s a k in rw e at m.invariant.3 x s i.0 i.1

pub four-v-requires : goal.four-v-requires
four-v-requires c = (omega arith, search rules, search rules)

pub last_four-u-requires : goal.last_four-u-requires
last_four-u-requires c = (omega arith, search rules, search rules)
