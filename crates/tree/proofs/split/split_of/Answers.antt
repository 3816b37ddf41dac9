-- `tree::split::split_of` meets its contract, by the law of the split and leading zeros. Assumes nothing.
use mathlib.Core.Path.{◌≡◌, sym, ap, ◌∙◌}
use Prim.Native.Nat.{ℕ, suc, ◌+◌, ◌-◌, ◌*◌, ◌%◌, ◌^◌, ◌≤◌, ◌<◌}
use native.Mathlib.Omega.{arith}
use lib.Count.{count_leading_zeros, leading_top}
use Rattle.tree.specs.Split.{split}
use Rattle.tree.proofs.Splitting.{split_ends, split_few, split_zeros}
use Rattle.tree.proofs.split.split_of.Goals as goal

pub returns-then-n-le1 : goal.returns-then-n-le1
returns-then-n-le1 c = (sym (split_few c.args.n c.if-n-le1.true), omega arith, omega arith)

pub overflow_sub-result : goal.overflow_sub-result
overflow_sub-result c =
    let t = leading_top 64 (c.args.n - 1) (omega arith) (omega arith) in
    omega (arith, t.1)

-- what is the split of two parts or more is bounded so
bounded : (r n : ℕ) → 1 < n → r ≡ split n → (r ≡ split n) × (0 < r) × (r ≤ 1 + (n - 2))
bounded r n more e = let s = split_ends n more in (e, omega arith, omega arith)

pub returns : goal.returns
returns c =
    let n = c.args.n in
    let more = c.if-n-le1.false in
    let s = split_ends n more in
    let x : 63 - count_leading_zeros 64 (n - 1) ≡ 64 - suc (count_leading_zeros 64 (n - 1)) = omega arith in
    let e : 2 ^ (63 - count_leading_zeros 64 (n - 1)) ≡ split n = ap (λ (i : ℕ). 2 ^ i) x ∙ sym (split_zeros 64 n more (omega arith)) in
    let w : 1 * split n % 18446744073709551616 ≡ split n = omega arith in
    bounded _ n more (ap (λ (k : ℕ). 1 * k % 18446744073709551616) e ∙ w)
