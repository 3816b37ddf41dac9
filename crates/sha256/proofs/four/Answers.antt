use borrow.Author.Rules.{rules}
use Prim.Native.Nat.{◌+◌}
use mathlib.Core.Path.{◌≡◌}
use native.Mathlib.Omega.{arith}
use Rattle.sha256.proofs.Schedule.{round_more}
use Rattle.sha256.proofs.four.Goals as goal

pub loop-j-init : goal.loop-j-init
loop-j-init c = let z : c.args.t + 0 ≡ c.args.t = omega arith in (search rules, search rules, search rules, search rules, (λ x s e k. rw z (e, k)))

pub loop-j-preserved : goal.loop-j-preserved
loop-j-preserved c =
    let l = c.loop-j in
    let t = c.args.t in
    let n : t + (l.j + 1) ≡ t + l.j + 1 = omega arith in
    let m : t + l.j + 1 + 16 ≡ t + l.j + 16 + 1 = omega arith in (
      search rules,
      search rules,
      search rules,
      l.invariant.3,
      (λ x s e k.
          let i = l.invariant.4 x s e k in
          let r = round_more _ l.w (t + l.j + 16) (t + l.j) l.v _ c.round_at-v.ensures l.invariant.3 (omega arith) x s i.0 i.1 in
          rw (n, m) (r, c.lengthen.ensures x i.1)),
    )

pub returns : goal.returns
returns c =
    let l = c.loop-j in
    let t = c.args.t in
    let m : t + l.j + 16 ≡ t + 20 = omega arith in
    let n : t + l.j ≡ t + 4 = omega arith in
    rw (m, n) at l.invariant.4

pub round_at-v-requires : goal.round_at-v-requires
round_at-v-requires c = (omega arith, search rules)

pub lengthen-requires : goal.lengthen-requires
lengthen-requires c = (omega arith, omega arith, search rules)
