-- `octets::number_at` meets its contract. Assumes nothing.
use mathlib.Core.Path.{refl}
use native.Mathlib.Omega.{arith}
use Rattle.octets.specs.Numbers.{width_of}
use Rattle.octets.proofs.Numbers.{none_there, fewer_there}
use Rattle.octets.proofs.number.number_at.Goals as goal

pub returns-then-s-at : goal.returns-then-s-at
returns-then-s-at c = let a = c.args in none_there a.s.now a.at (width_of a.w) (omega arith)

pub returns-then-s-at-2 : goal.returns-then-s-at-2
returns-then-s-at-2 c =
    let a = c.args in
    fewer_there a.s.now a.at (width_of a.w) _ _ refl (omega (arith, c.width_of-n.ensures.0)) c.number.ensures.0 c.number.ensures.1

pub returns : goal.returns
returns c = rw (← c.width_of-n.ensures.0) c.number-2.ensures
