use mathlib.Core.Path.{◌≡◌, refl}
use mathlib.Core.Bool.{Bool, true, false}
use Prim.Native.Nat.{ℕ, suc, ◌≤◌}
use native.Mathlib.Omega.{arith}
use lib.Dec.{eqb}
use borrow.Author.Tests.{ne_eqb, eqb-true, eqb-false}
use Rattle.std.proofs.Common.{◌⊎◌, inl, inr}
use Rattle.fields.specs.Checked.{good, bad}
use Rattle.item.specs.declared.table.Case.TheVariants.{Entry, Receipt}
use Rattle.item.specs.Table.{types, find}
use Rattle.item.proofs.table.case_of.Goals as goal

-- one of two numbers in a row
two : (k n : ℕ) → n ≤ k → k ≤ suc n → (k ≡ n) ⊎ (k ≡ suc n)
two k n low high = go (eqb k n) refl
  where
    go : (b : Bool) → eqb k n ≡ b → (k ≡ n) ⊎ (k ≡ suc n)
    go true e = inl (eqb-true k n e)
    go false e = let h = eqb-false k n e in inr (omega arith)

entry : (k : ℕ) → (k ≡ 0x100) ⊎ (k ≡ 0x101) → good Entry ≡ find types k
unfolding find
entry k (inl e) = rw e
entry k (inr e) = rw e

receipt : (k : ℕ) → (k ≡ 0x102) ⊎ (k ≡ 0x103) → good Receipt ≡ find types k
unfolding find
receipt k (inl e) = rw e
receipt k (inr e) = rw e

none : (k : ℕ) → (k ≡ 0x100 → ⊥) → (k ≡ 0x101 → ⊥) → (k ≡ 0x102 → ⊥) → (k ≡ 0x103 → ⊥) → (k ≡ 0x104 → ⊥) → (k ≡ 0x105 → ⊥) → (k ≡ 0x106 → ⊥) → (k ≡ 0xF001 → ⊥) → bad 4 0 ≡ find types k
unfolding find
none k n₀ n₁ n₂ n₃ n₄ n₅ n₆ n₇ =
    rw (ne_eqb _ _ n₀, ne_eqb _ _ n₁, ne_eqb _ _ n₂, ne_eqb _ _ n₃, ne_eqb _ _ n₄, ne_eqb _ _ n₅, ne_eqb _ _ n₆, ne_eqb _ _ n₇)

pub returns-in-256 : goal.returns-in-256
returns-in-256 c = entry _ (two c.args.kind 0x100 (omega arith) (omega arith))

pub returns-in-258 : goal.returns-in-258
returns-in-258 c = receipt _ (two c.args.kind 0x102 (omega arith) (omega arith))

pub returns-in-260 : goal.returns-in-260
unfolding find
returns-in-260 c = rw c.in-260.is

pub returns-in-261 : goal.returns-in-261
unfolding find
returns-in-261 c = rw c.in-261.is

pub returns-in-262 : goal.returns-in-262
unfolding find
returns-in-262 c = rw c.in-262.is

pub returns-in-61441 : goal.returns-in-61441
unfolding find
returns-in-61441 c = rw c.in-61441.is

pub returns-in_default : goal.returns-in_default
returns-in_default c =
    none c.args.kind (λ e. omega arith) (λ e. omega arith) (λ e. omega arith) (λ e. omega arith) (λ e. omega arith) (λ e. omega arith) (λ e. omega arith) (λ e. omega arith)

pub returns-in_default-2 : goal.returns-in_default-2
returns-in_default-2 c =
    none c.args.kind (λ e. omega arith) (λ e. omega arith) (λ e. omega arith) (λ e. omega arith) (λ e. omega arith) (λ e. omega arith) (λ e. omega arith) (λ e. omega arith)
