use borrow.Author.Rules.{rules}
use Prim.Native.Nat.{◌+◌}
use mathlib.Core.Path.{◌≡◌}
use native.Mathlib.Omega.{arith}
use Rattle.sm3.proofs.Expansion.{late_more}
use Rattle.sm3.proofs.last_four.Goals as goal

pub loop-j-init : goal.loop-j-init
loop-j-init c = let z : c.args.t + 0 ≡ c.args.t = omega arith in (search rules, search rules, search rules, search rules, search rules, (λ x s e k. rw z (e, k)))

pub loop-j-preserved : goal.loop-j-preserved
loop-j-preserved c =
    let l = c.loop-j in
    let a = c.args in
    let n : a.t + (l.j + 1) ≡ a.t + l.j + 1 = omega arith in (
      search rules,
      search rules,
      search rules,
      search rules,
      l.invariant.4,
      (λ x s e k.
          let i = l.invariant.5 x s e k in
          let r = late_more _ a.w.now 68 (a.t + l.j) l.v _ l.invariant.4 (omega arith) (omega arith) x s i.0 i.1 (omega arith) c.late_at-v.ensures in
          rw n (r, i.1)),
    )

pub returns : goal.returns
returns c =
    let l = c.loop-j in
    let n : c.args.t + l.j ≡ c.args.t + 4 = omega arith in
    rw n at l.invariant.5

pub late_at-v-requires : goal.late_at-v-requires
late_at-v-requires c = (omega arith, search rules)
