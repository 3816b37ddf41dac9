use borrow.Author.Rules.{rules}
use mathlib.Core.Path.{◌≡◌, refl, ◌∙◌}
use Prim.Native.Nat.{◌+◌, ◌-◌, ◌/◌}
use native.Mathlib.Nat.{le_refl}
use native.Mathlib.Omega.{arith}
use lib.ListN.{length, drop, length-drop}
use lib.Seq.{take_all, length-take-le}
use Rattle.hash.specs.Algorithm.{start_of, step_of}
use Rattle.hash.proofs.Algorithms.{step_same}
use Rattle.hash.proofs.Padding.{next_block, long_ends}
use Rattle.hash.proofs.message.long.Goals as goal

pub loop-p-init : goal.loop-p-init
loop-p-init c =
    let a = c.args in
    let e : (length a.head.now + (64 - length a.head.now)) / 64 ≡ 1 = omega arith in
    (omega arith, search rules, omega arith, rw e c.first-v.ensures)

pub loop-p-preserved : goal.loop-p-preserved
loop-p-preserved c =
    let k = c in
    let a = k.args in
    let l = k.loop-p in
    let i = (length a.head.now + l.p) / 64 in
    let e : (length a.head.now + (l.p + 64)) / 64 ≡ i + 1 = omega arith in (
      search rules,
      search rules,
      omega arith,
      rw e (c.compress-v.ensures ∙ rw l.invariant.3 (next_block (step_of a.alg) (step_same a.alg) (start_of a.alg) a.head.now a.m.now l.p i (omega arith) (omega arith))),
    )

pub finish-requires : goal.finish-requires
finish-requires c =
    let k = c in
    let l = k.loop-p in
    let m = k.args.m.now in
    let r = length-take-le (length m - l.p) (drop l.p m) (rw length-drop (le_refl _)) in
    (omega arith, omega arith, omega arith, search rules)

pub returns : goal.returns
returns c =
    let k = c in
    let a = k.args in
    let l = k.loop-p in
    let m = a.m.now in
    c.finish.ensures
    ∙ long_ends (step_of a.alg) (step_same a.alg) (start_of a.alg) l.v a.head.now m _ _ l.p ((length a.head.now + l.p) / 64) _ l.invariant.0 (omega arith) refl l.invariant.3 refl (take_all (length m - l.p) (drop l.p m) (rw length-drop (le_refl _)))
