-- `octets::put` meets its contract. Assumes nothing.
use mathlib.Core.Path.{sym, ◌∙◌}
use Rattle.octets.proofs.Putting.{beyond, within, put_in, put_out}
use Rattle.octets.proofs.writing.put.Goals as goal

pub returns-then-not-reaches : goal.returns-then-not-reaches
returns-then-not-reaches c =
    let a = c.args in
    sym (put_out a.out.now a.s.now a.at (beyond _ _ _ c.reaches.ensures c.if-not-reaches.true))

pub store-requires : goal.store-requires
store-requires c = within _ _ _ c.reaches.ensures c.if-not-reaches.false

pub returns : goal.returns
returns c =
    let t = c in
    let a = t.args in
    c.store.ensures
    ∙ sym (put_in a.out.now a.s.now a.at (within _ _ _ t.reaches.ensures c.if-not-reaches.false))
