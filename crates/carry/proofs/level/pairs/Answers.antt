-- `carry::level::pairs` meets its contract: one law for each return. Assumes nothing.
use mathlib.Core.Path.{◌≡◌}
use lib.ListN.{length}
use borrow.Author.Rules.{rules}
use Rattle.carry.proofs.Pairing.{pairs_left, pairs_right}
use Rattle.carry.proofs.level.pairs.Goals as goal

pub returns-then-not-equals : goal.returns-then-not-equals
returns-then-not-equals c =
    let g = c.args in
    let u : length g.a.bytes ≡ 32 = search rules in
    let v : length g.c.bytes ≡ 32 = search rules in
    pairs_left g.a.bytes g.b.bytes g.c.bytes g.d.bytes u v c.equals.ensures (c.if-not-equals.true)

pub returns : goal.returns
returns c =
    let g = c.args in
    let u : length g.a.bytes ≡ 32 = search rules in
    let v : length g.c.bytes ≡ 32 = search rules in
    pairs_right g.a.bytes g.b.bytes g.c.bytes g.d.bytes u v c.equals.ensures (c.if-not-equals.false) c.equals-2.ensures
