-- `octets::be8` meets its contract. Assumes nothing.
use native.Mathlib.Nat.{div-one}
use Rattle.octets.specs.Numbers.{be}
use Rattle.octets.proofs.number.be8.Goals as goal

pub returns : goal.returns
unfolding be
returns c = simp div-one
