-- `tree::count::inclusion_count` meets its contract, by the laws of the counts and the digits. Assumes nothing.
use mathlib.Core.Path.{sym}
use Prim.Native.Nat.{ℕ, ◌+◌, ◌-◌, ◌/◌, ◌^◌, ◌≤◌, ◌<◌}
use native.Mathlib.Omega.{arith}
use mir.Syntax.{w32, w64}
use mir.Val.{Fits}
use lib.Count.{ones, ones-le, leading_le}
use lib.Pow.{shr_le}
use Rattle.tree.proofs.Counting.{count_few}
use Rattle.tree.proofs.Digits.{count_last, count_zeros}
use Rattle.tree.proofs.count.inclusion_count.Goals as goal

-- all sums are small, whatever is counted
total : (d y k : ℕ) → y < 2 ^ 64 → 64 - d + ones (y / 2 ^ k) ≤ 128
total d y k h = let l = shr_le y k in let o = ones-le 64 (y / 2 ^ k) (omega arith) in omega arith

narrow : {n : ℕ} → n ≤ 128 → Fits w32 n
narrow h = omega arith

wide : {n : ℕ} → n ≤ 128 → Fits w64 n
wide h = omega arith

pub returns-then-size-eq0 : goal.returns-then-size-eq0
returns-then-size-eq0 c = let a = c.args in sym (count_few a.place a.size (omega arith))

pub overflow_cast-result : goal.overflow_cast-result
overflow_cast-result c = omega (arith, ones-le 64 (c.args.size - 1) (omega arith))

pub returns-then-last-place : goal.returns-then-last-place
returns-then-last-place c = let a = c.args in sym (count_last a.size (omega arith) a.place (omega arith))

pub overflow_sub-levels : goal.overflow_sub-levels
overflow_sub-levels c = leading_le 64 _

pub overflow_sub-result : goal.overflow_sub-result
overflow_sub-result c = let a = c.args in omega (arith, (count_zeros 64 a.size a.place (omega arith) (omega arith)).0)

pub overflow_add-result : goal.overflow_add-result
overflow_add-result c = narrow (total _ _ _ (omega arith))

pub overflow_cast-result-3 : goal.overflow_cast-result-3
overflow_cast-result-3 c = wide (total _ _ _ (omega arith))

pub returns : goal.returns
returns c = let a = c.args in (count_zeros 64 a.size a.place (omega arith) (omega arith)).1
