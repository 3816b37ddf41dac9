use Rattle.words.proofs.Promises.{rotations_agree, loaded_known, every_step, stepping_faithful}
use Rattle.words.proofs.claims.Goals as goal

pub returns : goal.returns
returns c = record {
  rotations_agree = rotations_agree;
  loaded_is_known = loaded_known;
  every_step = every_step;
  step_loses_nothing = stepping_faithful;
}
