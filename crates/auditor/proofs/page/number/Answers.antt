-- `auditor::page::number` meets its contract. Assumes nothing.
use Rattle.hash.specs.Digest.{hash_of}
use Rattle.auditor.specs.Held.{view}
use Rattle.auditor.specs.Page.{page_number}
use Rattle.auditor.proofs.Asking.{refused_1, taken_0}
use Rattle.auditor.proofs.page.number.Goals as goal

pub returns-then-leaf-ne0 : goal.returns-then-leaf-ne0
unfolding page_number view
returns-then-leaf-ne0 c =
    let a = c.args in
    let e = refused_1 a.page.now _ c.leaf-leaf.ensures.number_value c.if-leaf-ne0.true in
    simp (c.if-r.true, e.0, e.1)

pub returns-then-r : goal.returns-then-r
unfolding page_number view
returns-then-r c =
    let b = c in
    let a = b.args in
    let e = taken_0 (hash_of a.alg) a.page.now _ _ b.leaf-leaf.ensures.number_value b.if-leaf-ne0.false b.leaf-leaf.ensures.bytes_value in
    simp (b.if-r.true, e.0, ← e.1, c.inclusion_verdict.ensures)

pub returns : goal.returns
unfolding page_number view
returns c = simp c.if-r.false
