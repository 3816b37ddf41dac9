use Rattle.sm3.proofs.tt2.Goals as goal

pub returns : goal.returns
returns c = cc
