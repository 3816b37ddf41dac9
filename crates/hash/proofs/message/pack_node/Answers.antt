use borrow.Author.Rules.{rules}
use mathlib.Core.Path.{◌≡◌, ◌∙◌}
use native.Mathlib.Omega.{arith}
use lib.ListN.{length, length-set}
use Rattle.hash.proofs.Padding.{node_packed}
use Rattle.hash.proofs.message.pack_node.Goals.{After-put-2}
use Rattle.hash.proofs.message.pack_node.Goals as goal

-- the entry, and what was known after the hash; the array keeps its length
long : (q : After-put-2) → length q.put-2.new.out ≡ length q.args.a.now
long q = q.put-2.auto.out ∙ q.put.auto.out ∙ length-set q.args.a.now 0 1

pub bounds-a-65 : goal.bounds-a-65
bounds-a-65 c = omega (arith, long (goal.at.bounds-a-65 c).After-put-2, c.requires.1)

pub shape_of-a : goal.shape_of-a
shape_of-a c = let q = c in c.put-3.auto.out ∙ length-set q.put-2.new.out 65 0x80 ∙ long (goal.at.shape_of-a c).After-put-2

pub returns : goal.returns
returns c =
    let q = c in
    let p = q in
    let s = p in
    let b = p in
    node_packed s.args.left.now s.args.right.now s.args.a.now p.put.new.out q.put-2.new.out c.put-3.new.out b.be8-b.result
    (search rules) (search rules) s.requires.0 s.requires.1 p.put.ensures q.put-2.ensures b.be8-b.ensures c.put-3.ensures
