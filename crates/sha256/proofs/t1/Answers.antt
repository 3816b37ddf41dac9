use Rattle.sha256.proofs.t1.Goals as goal

pub returns : goal.returns
returns c = cc
