use borrow.Author.Rules.{rules}
use Rattle.sha256.proofs.Schedule.{scheduled_more}
use Rattle.sha256.proofs.lengthen.Goals as goal

pub returns : goal.returns
returns c =
    let a = c.args in
    scheduled_more a.w.now a.n _ (search rules) (search rules) c.next.ensures
