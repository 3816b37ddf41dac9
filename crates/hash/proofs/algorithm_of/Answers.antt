use Rattle.hash.proofs.Algorithms.{names_sha256, names_sm3, names_none}
use Rattle.hash.proofs.algorithm_of.Goals as goal

pub returns-then-number-eq0 : goal.returns-then-number-eq0
returns-then-number-eq0 c = names_sha256 _ c.if-number-eq0.true

pub returns-then-number-eq240 : goal.returns-then-number-eq240
returns-then-number-eq240 c = names_sm3 _ c.if-number-eq240.true

pub returns : goal.returns
returns c = names_none _ c.if-number-eq0.false c.if-number-eq240.false
