-- `auditor::head::later_number` meets its contract: each return by the tests that led to it. Assumes nothing.
use mathlib.Core.Path.{sym, ◌∙◌}
use Prim.Native.Nat.{◌≤◌}
use native.Mathlib.Omega.{arith}
use borrow.Author.Rules.{rules}
use borrow.Author.Tests.{lt-ltb, le-ltb}
use Rattle.auditor.specs.Offer.{against}
use Rattle.auditor.proofs.head.later_number.Goals as goal

pub returns-then-not-same_log : goal.returns-then-not-same_log
unfolding against
returns-then-not-same_log c = simp (sym c.same_log.ensures ∙ c.if-not-same_log.true)

pub returns-then-no_size : goal.returns-then-no_size
unfolding against
returns-then-no_size c =
    let b = c in
    simp (sym b.same_log.ensures ∙ b.if-not-same_log.false, sym c.no_size.ensures ∙ c.if-no_size.true)

pub returns-then-size-r : goal.returns-then-size-r
unfolding against
returns-then-size-r c =
    let e = c in
    let b = e in
    simp (sym b.same_log.ensures ∙ b.if-not-same_log.false, sym e.no_size.ensures ∙ e.if-no_size.false, lt-ltb _ _ c.if-size-r.true)

pub returns-then-is_stale : goal.returns-then-is_stale
unfolding against
returns-then-is_stale c =
    let d = c in
    let e = d in
    let b = e in
    let least : c.args.r.size ≤ c.args.size = omega arith in
    simp (sym b.same_log.ensures ∙ b.if-not-same_log.false, sym e.no_size.ensures ∙ e.if-no_size.false, le-ltb _ _ least, sym c.is_stale.ensures ∙ c.if-is_stale.true)

pub returns-then-other_root : goal.returns-then-other_root
unfolding against
returns-then-other_root c =
    let f = c in
    let d = f in
    let e = d in
    let b = e in
    simp (sym b.same_log.ensures ∙ b.if-not-same_log.false, sym e.no_size.ensures ∙ e.if-no_size.false, le-ltb _ _ d.if-size-r.false, sym f.is_stale.ensures ∙ f.if-is_stale.false, sym c.other_root.ensures ∙ c.if-other_root.true)

pub returns : goal.returns
unfolding against
returns c =
    let g = c in
    let f = g in
    let d = f in
    let e = d in
    let b = e in
    simp (sym b.same_log.ensures ∙ b.if-not-same_log.false, sym e.no_size.ensures ∙ e.if-no_size.false, le-ltb _ _ d.if-size-r.false, sym f.is_stale.ensures ∙ f.if-is_stale.false, sym g.other_root.ensures ∙ g.if-other_root.false, c.consistency_verdict.ensures)

pub slice_bounds-consistency_verdict-end : goal.slice_bounds-consistency_verdict-end
slice_bounds-consistency_verdict-end c = search (rules, c.well_formed.1.0)
