-- `auditor::head::number` meets its contract: each return by the tests that led to it. Assumes nothing.
use mathlib.Core.Path.{sym, ◌∙◌}
use borrow.Author.Tests.{eq-eqb, ne_eqb, lt-ltb, le-ltb}
use Rattle.hash.specs.Digest.{hash_of}
use Rattle.auditor.specs.Held.{view}
use Rattle.auditor.specs.Offer.{by_record, offer_number}
use Rattle.auditor.proofs.Offering.{view_held, view_empty, passes}
use Rattle.auditor.proofs.head.number.Goals as goal

pub returns-then-root-ne32 : goal.returns-then-root-ne32
unfolding offer_number
returns-then-root-ne32 c = simp (ne_eqb _ _ c.if-root-ne32.true)

pub returns-then-id-lt2 : goal.returns-then-id-lt2
unfolding offer_number
returns-then-id-lt2 c = simp (eq-eqb _ _ c.if-root-ne32.false, lt-ltb _ _ c.if-id-lt2.true)

pub returns-then-id-gt127 : goal.returns-then-id-gt127
unfolding offer_number
returns-then-id-gt127 c = simp (eq-eqb _ _ c.if-root-ne32.false, le-ltb _ _ c.if-id-lt2.false, lt-ltb _ _ c.if-id-gt127.true)

pub returns-then-path-ne0 : goal.returns-then-path-ne0
unfolding offer_number
returns-then-path-ne0 c = simp (eq-eqb _ _ c.if-root-ne32.false, le-ltb _ _ c.if-id-lt2.false, le-ltb _ _ c.if-id-gt127.false, ne_eqb _ _ c.if-path-ne0.true)

pub returns-then-r : goal.returns-then-r
unfolding by_record
returns-then-r c =
    let a = c.args in
    let b = c in
    c.later_number.ensures ∙ sym (passes (hash_of a.alg) (view a.r) a.id.now a.timestamp a.size a.root.now a.path.now b.if-root-ne32.false b.if-id-lt2.false b.if-id-gt127.false b.if-path-ne0.false ∙ rw (view_held a.r c.if-r.true))

pub returns : goal.returns
unfolding by_record
returns c =
    let a = c.args in
    let b = c in
    c.first_number.ensures ∙ sym (passes (hash_of a.alg) (view a.r) a.id.now a.timestamp a.size a.root.now a.path.now b.if-root-ne32.false b.if-id-lt2.false b.if-id-gt127.false b.if-path-ne0.false ∙ rw (view_empty a.r c.if-r.false))
