use borrow.Author.Rules.{rules}
use Rattle.sm3.proofs.Bitwise.{majority_by_lem}
use Rattle.sm3.proofs.maj.Goals as goal

pub returns : goal.returns
returns c = majority_by_lem c.args.x c.args.y c.args.z (search rules) (search rules) (search rules)
