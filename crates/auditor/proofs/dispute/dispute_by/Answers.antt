-- `auditor::dispute::dispute_by` meets its contract. Assumes nothing.
use mathlib.Core.Path.{sym, ap, ◌∙◌}
use lib.ListN.{length}
use Rattle.hash.specs.Digest.{hash_of}
use Rattle.auditor.specs.Heads.{heads_of}
use Rattle.auditor.specs.Dispute.{refused}
use Rattle.auditor.proofs.Asking.{refused_1, taken_0}
use Rattle.auditor.proofs.Reporting.{reports_refused}
use Rattle.auditor.proofs.Disputing.{first_long, second_long, first_refused, followed, lengths}
use Rattle.auditor.proofs.dispute.dispute_by.Goals as goal

-- from the first page's leaf hash back to the entry
pub returns-then-first-ne0 : goal.returns-then-first-ne0
returns-then-first-ne0 c =
    let h = c in
    let a = h.args in
    let r = refused_1 a.page1.now _ h.leaf-first.ensures.number_value c.if-first-ne0.true in
    reports_refused _ _ a.pair.now (first_long (hash_of a.alg) a.page1.now a.place a.path1.now a.size a.root.now (heads_of a.heads.now) a.page2.now a.path2.now (length a.pair.now) r.0 ∙ ap refused (sym r.1))

pub returns-then-second-ne0 : goal.returns-then-second-ne0
returns-then-second-ne0 c =
    let g = c in
    let h = g in
    let a = h.args in
    let f = taken_0 (hash_of a.alg) a.page1.now _ _ h.leaf-first.ensures.number_value g.if-first-ne0.false h.leaf-first.ensures.bytes_value in
    let r = refused_1 a.page2.now _ c.leaf-second.ensures.number_value c.if-second-ne0.true in
    reports_refused _ _ a.pair.now (second_long (hash_of a.alg) a.page1.now a.place a.path1.now a.size a.root.now (heads_of a.heads.now) a.page2.now a.path2.now (length a.pair.now) f.0 r.0 ∙ ap refused (sym r.1))

pub returns-then-verdict-ne0 : goal.returns-then-verdict-ne0
returns-then-verdict-ne0 c =
    let e = c in
    let g = e in
    let h = g in
    let a = h.args in
    let f = taken_0 (hash_of a.alg) a.page1.now _ _ h.leaf-first.ensures.number_value g.if-first-ne0.false h.leaf-first.ensures.bytes_value in
    let l = e.leaf-second.ensures in
    let s = taken_0 (hash_of a.alg) a.page2.now _ _ l.number_value e.if-second-ne0.false l.bytes_value in
    reports_refused _ _ a.pair.now (first_refused (hash_of a.alg) a.page1.now a.place a.path1.now a.size a.root.now (heads_of a.heads.now) a.page2.now a.path2.now (length a.pair.now) f.0 s.0 _ f.1 _ c.inclusion_verdict-verdict.ensures c.if-verdict-ne0.true)

pub work-requires : goal.work-requires
work-requires c =
    let e = c in
    let g = e in
    let h = g in
    let a = h.args in
    let f = taken_0 (hash_of a.alg) a.page1.now _ _ h.leaf-first.ensures.number_value g.if-first-ne0.false h.leaf-first.ensures.bytes_value in
    let l = e.leaf-second.ensures in
    let s = taken_0 (hash_of a.alg) a.page2.now _ _ l.number_value e.if-second-ne0.false l.bytes_value in
    let l = lengths (hash_of a.alg) a.page1.now a.place a.path1.now a.size a.root.now (heads_of a.heads.now) a.page2.now a.path2.now (length a.pair.now) f.0 s.0 _ f.1 _ c.inclusion_verdict-verdict.ensures c.if-verdict-ne0.false in
    (l.0, l.1, f.1, s.1)

pub returns : goal.returns
returns c =
    let o = c in
    let e = o in
    let g = e in
    let h = g in
    let a = h.args in
    let f = taken_0 (hash_of a.alg) a.page1.now _ _ h.leaf-first.ensures.number_value g.if-first-ne0.false h.leaf-first.ensures.bytes_value in
    let l = e.leaf-second.ensures in
    let s = taken_0 (hash_of a.alg) a.page2.now _ _ l.number_value e.if-second-ne0.false l.bytes_value in
    rw (followed (hash_of a.alg) a.page1.now a.place a.path1.now a.size a.root.now (heads_of a.heads.now) a.page2.now a.path2.now (length a.pair.now) f.0 s.0 _ f.1 _ o.inclusion_verdict-verdict.ensures o.if-verdict-ne0.false) c.work.ensures
