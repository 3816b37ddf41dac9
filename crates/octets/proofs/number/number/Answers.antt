-- `octets::number::number` meets its contract. Assumes nothing.
use mathlib.Core.Path.{◌≡◌, refl, ap₂, sym, ◌∙◌}
use Prim.Native.Nat.{ℕ, ◌+◌, ◌*◌}
use native.Mathlib.Omega.{arith}
use native.Mathlib.Nat.{pow-suc}
use native.Mathlib.Numerals.{add-one}
use Rattle.octets.specs.Numbers.{unbe}
use Rattle.octets.proofs.Numbers.{unbe_more, pow_small}
use Rattle.octets.proofs.number.number.Goals as goal

pub loop-i-init : goal.loop-i-init
unfolding unbe
loop-i-init c = (omega arith, refl, omega arith)

pub overflow_mul-n : goal.overflow_mul-n
overflow_mul-n c = let p = pow_small c.loop-i.i (omega arith) in omega arith

pub overflow_add-n : goal.overflow_add-n
overflow_add-n c = let p = pow_small c.loop-i.i (omega arith) in omega (arith, c.wide.ensures.1)

pub loop-i-preserved : goal.loop-i-preserved
loop-i-preserved c =
    let l = c in
    let s = l.args.s.now in
    let at = l.args.at in (
      omega arith,
      ap₂ (λ (x y : ℕ). x * 256 + y) l.loop-i.invariant.1 c.wide.ensures.0 ∙ sym (unbe_more s at l.loop-i.i (omega arith)),
      rw (add-one, pow-suc) (omega (arith, c.wide.ensures.1)),
    )

pub returns : goal.returns
returns c =
    let done : c.loop-i.i ≡ c.args.width = omega arith in
    rw (← done) (c.loop-i.invariant.1, c.loop-i.invariant.2)
