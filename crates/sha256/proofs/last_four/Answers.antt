use borrow.Author.Rules.{rules}
use Prim.Native.Nat.{◌+◌}
use mathlib.Core.Path.{◌≡◌}
use native.Mathlib.Omega.{arith}
use Rattle.sha256.proofs.Schedule.{round_more}
use Rattle.sha256.proofs.last_four.Goals as goal

pub loop-j-init : goal.loop-j-init
loop-j-init c = let z : c.args.t + 0 ≡ c.args.t = omega arith in (search rules, search rules, search rules, search rules, (λ x s e k. rw z (e, k)))

pub loop-j-preserved : goal.loop-j-preserved
loop-j-preserved c =
    let l = c.loop-j in
    let a = c.args in
    let n : a.t + (l.j + 1) ≡ a.t + l.j + 1 = omega arith in (
      search rules,
      search rules,
      search rules,
      l.invariant.3,
      (λ x s e k.
          let i = l.invariant.4 x s e k in
          let r = round_more _ a.w.now 64 (a.t + l.j) l.v _ c.round_at-v.ensures l.invariant.3 (omega arith) x s i.0 i.1 in
          rw n (r, i.1)),
    )

pub returns : goal.returns
returns c =
    let l = c.loop-j in
    let n : c.args.t + l.j ≡ c.args.t + 4 = omega arith in
    rw n at l.invariant.4

pub round_at-v-requires : goal.round_at-v-requires
round_at-v-requires c = (omega arith, search rules)
