use Rattle.sha256.specs.Sha256.{add_state}
use Rattle.sha256.proofs.add_state.Goals as goal

pub returns : goal.returns
unfolding add_state
returns c = cc
