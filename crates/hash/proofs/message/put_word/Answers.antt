use borrow.Author.Rules.{rules}
use native.Mathlib.Omega.{arith}
use Rattle.hash.proofs.Padding.{word_put}
use lib.ListN.{length-set}
use Rattle.hash.proofs.message.put_word.Goals as goal

pub bounds-out-at-2 : goal.bounds-out-at-2
bounds-out-at-2 c = simp length-set (omega arith)

pub bounds-out-at-3 : goal.bounds-out-at-3
bounds-out-at-3 c = simp length-set (omega arith)

pub returns : goal.returns
returns c = let a = c.args in word_put a.out.now a.at a.x (search rules)
