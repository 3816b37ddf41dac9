-- `auditor::head::offer_by` meets its contract. Assumes nothing.
use mathlib.Core.Path.{refl, sym, ap, ◌∙◌}
use mathlib.Core.Bool.{true, false}
use Rattle.hash.specs.Digest.{hash_of}
use Rattle.auditor.specs.declared.Evidence.{Evidence}
use Rattle.auditor.specs.Held.{view}
use Rattle.auditor.specs.Second.{beside}
use Rattle.auditor.proofs.Offering.{passed, evident_passed, reports_refused, reports_accepted}
use Rattle.auditor.proofs.head.offer_by.Goals as goal

pub id_of-requires : goal.id_of-requires
id_of-requires c =
    let a = c.args in
    (passed (hash_of a.alg) (view a.r) a.id.now a.timestamp a.size a.root.now a.path.now (sym c.number-n.ensures ∙ c.if-n-eq0.true)).id_most

pub root_of-requires : goal.root_of-requires
root_of-requires c =
    let a = c.args in
    (passed (hash_of a.alg) (view a.r) a.id.now a.timestamp a.size a.root.now a.path.now (sym c.number-n.ensures ∙ c.if-n-eq0.true)).root_32

pub returns-then-n-eq0 : goal.returns-then-n-eq0
returns-then-n-eq0 c =
    let a = c.args in
    reports_accepted (hash_of a.alg) a.algorithm a.r a.id.now a.timestamp a.size a.root.now a.path.now _ c.number-n.ensures _ _ _
    c.if-n-eq0.true c.id_of.ensures c.root_of.ensures refl

pub refused_head-requires : goal.refused_head-requires
refused_head-requires c =
    let a = c.args in
    let p = evident_passed (hash_of a.alg) (view a.r) a.id.now a.timestamp a.size a.root.now a.path.now _
    (sym c.is_evidence.ensures ∙ c.if-is_evidence.true) (sym c.number-n.ensures) in
    record {
      id_len_bound = p.id_most;
      root_len = p.root_32;
    }

pub returns-then-is_evidence : goal.returns-then-is_evidence
returns-then-is_evidence c =
    let b = c in
    let a = b.args in
    rw (c.beside-after.ensures ∙ ap (λ (e : Evidence). beside a.r e) c.refused_head.ensures)
    (reports_refused (hash_of a.alg) a.algorithm a.r a.id.now a.timestamp a.size a.root.now a.path.now _ b.number-n.ensures true
    b.if-n-eq0.false (sym b.is_evidence.ensures ∙ b.if-is_evidence.true))

pub returns : goal.returns
returns c =
    let b = c in
    let a = b.args in
    c.unchanged.ensures
    ∙ reports_refused (hash_of a.alg) a.algorithm a.r a.id.now a.timestamp a.size a.root.now a.path.now _ b.number-n.ensures false
    b.if-n-eq0.false (sym b.is_evidence.ensures ∙ b.if-is_evidence.false)
