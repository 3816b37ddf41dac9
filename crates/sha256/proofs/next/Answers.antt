use Rattle.sha256.proofs.next.Goals as goal

pub returns : goal.returns
returns c = cc
