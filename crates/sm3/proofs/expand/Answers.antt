use borrow.Author.Rules.{rules}
use mathlib.Core.Path.{refl}
use native.Mathlib.Omega.{arith}
use lib.ListN.{length-set}
use Rattle.sm3.proofs.Expansion.{expanded_more}
use Rattle.sm3.proofs.expand.Goals as goal

pub bounds-w-n-8 : goal.bounds-w-n-8
bounds-w-n-8 c = simp length-set (omega arith)

pub returns : goal.returns
returns c =
    let a = c.args in
    expanded_more a.w.now (search rules) a.n _ _ (search rules) (search rules) c.next-x.ensures refl
