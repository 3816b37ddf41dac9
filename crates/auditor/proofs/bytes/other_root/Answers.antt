-- `auditor::bytes::other_root` meets its contract. Assumes nothing.
use borrow.Author.Tests.{eq-eqb, ne_eqb}
use Rattle.auditor.proofs.bytes.other_root.Goals as goal

pub returns-then-size-r : goal.returns-then-size-r
returns-then-size-r c = simp (ne_eqb _ _ c.if-size-r.true)

pub returns : goal.returns
returns c = simp (eq-eqb _ _ c.if-size-r.false, ← c.same.ensures)
