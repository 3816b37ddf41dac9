use Rattle.sm3.proofs.ss1.Goals as goal

pub returns : goal.returns
returns c = cc
