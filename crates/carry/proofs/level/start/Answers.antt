-- `carry::level::start` meets its contract. Assumes nothing.
use mathlib.Core.Path.{refl}
use Rattle.carry.specs.Inner.{difference_of}
use Rattle.carry.proofs.level.start.Goals as goal

pub returns : goal.returns
unfolding difference_of
returns c = record {
  bytes_value = (refl, refl);
  result_value = refl;
}
