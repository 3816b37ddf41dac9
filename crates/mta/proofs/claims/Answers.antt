use Rattle.mta.proofs.Judging.{items_are_judged}
use Rattle.mta.proofs.claims.Goals as goal

pub returns : goal.returns
returns c = record { items_are_judged = items_are_judged }
