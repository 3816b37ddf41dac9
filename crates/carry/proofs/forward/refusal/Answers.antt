-- `carry::forward::refusal` meets its contract. Assumes nothing.
use Rattle.carry.proofs.Carrying.{refusal_first, refusal_second}
use Rattle.carry.proofs.forward.refusal.Goals as goal

pub returns-then-inclusion-ne0 : goal.returns-then-inclusion-ne0
returns-then-inclusion-ne0 c = refusal_first _ c.inclusion_verdict-inclusion.ensures c.if-inclusion-ne0.true

pub returns : goal.returns
returns c = refusal_second c.inclusion_verdict-inclusion.ensures c.if-inclusion-ne0.false c.consistency_verdict.ensures
