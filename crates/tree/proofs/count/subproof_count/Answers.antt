-- `tree::count::subproof_count` meets its contract, by the laws of the counts and the digits. Assumes nothing.
use mathlib.Core.Path.{◌≡◌, sym, ap, ◌∙◌}
use mathlib.Core.Bool.{Bool, cond}
use Prim.Native.Nat.{ℕ, ◌+◌, ◌-◌, ◌<◌, ◌≤◌, ◌^◌}
use native.Mathlib.Omega.{arith}
use mir.Syntax.{w64}
use mir.Val.{Fits}
use lib.Count.{ones, count_trailing_zeros, trailing_le}
use Rattle.tree.specs.Count.{inclusion_count, subproof_count}
use Rattle.tree.proofs.Counting.{sub_all, sub_few}
use Rattle.tree.proofs.Digits.{count_most, sub_none, sub_past, sub_power, sub_other, trailing_few}
use Rattle.tree.proofs.count.subproof_count.Goals as goal

-- all sums are small, whatever is counted
small : {n : ℕ} → n ≤ 65 → Fits w64 n
small h = omega arith

most : (m n : ℕ) {way : ℕ} → way ≡ inclusion_count m n → n < 2 ^ 64 → way ≤ 64
most m n e h = let l = count_most 64 n m (omega arith) in omega arith

zeros : (n : ℕ) → count_trailing_zeros 64 n ≤ 65
zeros n = omega (arith, trailing_le 64 n)

module _ (first second way root : ℕ) (known : Bool) (fits : second < 2 ^ 64) (last : root ≡ cond known 0 1) where
  none : first ≡ 0 → 1 < second → way ≡ inclusion_count 0 second → way + root ≡ subproof_count first second known
  none z more e =
      let s = sub_none known second (omega arith) in
      let f = ap (λ (x : ℕ). subproof_count x second known) z in
      omega arith

  power : 0 < first → first < second → way ≡ inclusion_count (first - 1) second → ones first ≡ 1 → way - count_trailing_zeros 64 first + root ≡ subproof_count first second known
  power some less e o =
      let t = trailing_few 64 second first (omega arith) some less in
      let s = sub_power 64 second first (omega arith) some less known o in
      omega arith

pub returns-then-first-second : goal.returns-then-first-second
returns-then-first-second c = let a = c.args in c.last_root.ensures.0 ∙ sym (sub_all a.first a.second a.known (omega arith))

pub returns-then-second-le1 : goal.returns-then-second-le1
returns-then-second-le1 c = let a = c.args in c.last_root-then-second-le1.ensures.0 ∙ sym (sub_few a.first a.second a.known (omega arith))

pub overflow_add-result : goal.overflow_add-result
overflow_add-result c =
    let w = most _ _ c.inclusion_count.ensures (omega arith) in
    let r = c.last_root-then-first-eq0.ensures.1 in
    small (omega arith)

pub returns-then-first-eq0 : goal.returns-then-first-eq0
returns-then-first-eq0 c =
    let a = c.args in
    let w = c.inclusion_count in
    let r = c.last_root-then-first-eq0 in
    none a.first a.second w.result r.result a.known (omega arith) r.ensures.0 (omega arith) (omega arith) w.ensures

pub overflow_add-result-then-second-first : goal.overflow_add-result-then-second-first
overflow_add-result-then-second-first c = let w = most _ _ c.inclusion_count-then-second-first.ensures (omega arith) in small (omega arith)

pub returns-then-second-first : goal.returns-then-second-first
returns-then-second-first c =
    let a = c.args in
    let e = sub_past a.second a.first a.known (omega arith) (omega arith) in
    omega arith

pub overflow_cast-way : goal.overflow_cast-way
overflow_cast-way c = small (zeros _)

pub overflow_sub-way : goal.overflow_sub-way
overflow_sub-way c =
    let a = c.args in
    let t = trailing_few 64 a.second a.first (omega arith) (omega arith) (omega arith) in
    let e = c.inclusion_count-2.ensures in
    omega arith

pub overflow_add-result-then-first-eq1 : goal.overflow_add-result-then-first-eq1
overflow_add-result-then-first-eq1 c =
    let w = most _ _ c.inclusion_count-2.ensures (omega arith) in
    let r = c.last_root-then-first-eq1.ensures.1 in
    small (omega arith)

pub returns-then-first-eq1 : goal.returns-then-first-eq1
returns-then-first-eq1 c =
    let a = c.args in
    let w = c.inclusion_count-2 in
    let r = c.last_root-then-first-eq1 in
    power a.first a.second w.result r.result a.known (omega arith) r.ensures.0 (omega arith) (omega arith) w.ensures c.if-first-eq1.true

pub overflow_add-result-2 : goal.overflow_add-result-2
overflow_add-result-2 c = let w = most _ _ c.inclusion_count-2.ensures (omega arith) in small (omega arith)

pub returns : goal.returns
returns c =
    let a = c.args in
    let e = c.inclusion_count-2.ensures in
    let t = trailing_few 64 a.second a.first (omega arith) (omega arith) (omega arith) in
    let s = sub_other 64 a.second a.first (omega arith) (omega arith) (omega arith) a.known c.if-first-eq1.false in
    omega arith
