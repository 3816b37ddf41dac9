use mathlib.Core.Path.{refl}
use Rattle.sm3.specs.Sm3.{xor_state}
use Rattle.sm3.proofs.xor_state.Goals as goal

pub returns : goal.returns
unfolding xor_state
returns c = refl
