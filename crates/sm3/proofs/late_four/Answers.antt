use borrow.Author.Rules.{rules}
use Prim.Native.Nat.{◌+◌}
use mathlib.Core.Path.{◌≡◌}
use native.Mathlib.Omega.{arith}
use Rattle.sm3.proofs.Expansion.{late_more}
use Rattle.sm3.proofs.late_four.Goals as goal

pub loop-j-init : goal.loop-j-init
loop-j-init c = let z : c.args.t + 0 ≡ c.args.t = omega arith in (search rules, search rules, search rules, search rules, search rules, (λ x s e k. rw z (e, k)))

pub loop-j-preserved : goal.loop-j-preserved
loop-j-preserved c =
    let l = c.loop-j in
    let t = c.args.t in
    let n : t + (l.j + 1) ≡ t + l.j + 1 = omega arith in
    let m : t + l.j + 1 + 16 ≡ t + l.j + 16 + 1 = omega arith in (
      search rules,
      search rules,
      search rules,
      search rules,
      l.invariant.4,
      (λ x s e k.
          let i = l.invariant.5 x s e k in
          let r = late_more _ l.w (t + l.j + 16) (t + l.j) l.v _ l.invariant.4 (omega arith) (omega arith) x s i.0 i.1 (omega arith) c.late_at-v.ensures in
          rw (n, m) (r, c.expand.ensures x i.1)),
    )

pub returns : goal.returns
returns c =
    let l = c.loop-j in
    let t = c.args.t in
    let m : t + l.j + 16 ≡ t + 20 = omega arith in
    let n : t + l.j ≡ t + 4 = omega arith in
    rw (m, n) at l.invariant.5

pub late_at-v-requires : goal.late_at-v-requires
late_at-v-requires c = (omega arith, search rules)

pub expand-requires : goal.expand-requires
expand-requires c = (omega arith, omega arith, search rules)
