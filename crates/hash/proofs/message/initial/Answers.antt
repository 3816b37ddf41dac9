use Rattle.hash.specs.Algorithm.{start_of}
use Rattle.hash.proofs.message.initial.Goals as goal

pub returns-in-Sha256 : goal.returns-in-Sha256
unfolding start_of
returns-in-Sha256 c = rw c.in-Sha256.is c.initial.ensures

pub returns-in-Sm3 : goal.returns-in-Sm3
unfolding start_of
returns-in-Sm3 c = rw c.in-Sm3.is c.initial-in-Sm3.ensures
