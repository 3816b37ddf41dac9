-- `auditor::dispute::work` meets its contract. The loop keeps what is left of the work equal to the whole. Assumes nothing.
use mathlib.Core.Path.{◌≡◌, refl, sym, ap, ap₂, ◌∙◌}
use mathlib.Core.List.{List}
use Prim.Native.Nat.{ℕ, ◌+◌, ◌-◌, ◌≤◌}
use native.Mathlib.Omega.{arith}
use lib.ListN.{length, take, drop, length-drop}
use lib.Seq.{length-take-le}
use borrow.Author.Rules.{rules}
use Rattle.hash.specs.Digest.{hash_of}
use Rattle.carry.specs.Forward.{carry, carrying}
use Rattle.auditor.specs.Heads.{head_size, head_root, head_path, heads_of}
use Rattle.auditor.specs.Dispute.{onward, longest_path, follow, dispute_report, pair_disputed}
use Rattle.octets.proofs.Putting.{over_start}
use Rattle.auditor.proofs.Reading.{head_whole}
use Rattle.auditor.proofs.Reporting.{reports_refused, carried_refused, carried_collision, carried_path}
use Rattle.auditor.proofs.Following.{Left, rest_is, left_end, left_truncated, left_then}
use Rattle.auditor.proofs.dispute.work.Goals.{After-over_head-carried, After-root_of-held-in-Path}
use Rattle.auditor.proofs.dispute.work.Goals as goal

-- from the loop back to the entry, from a head that is carried over to the reading of its length, and to the loop
-- from the next root back to the head
pub loop-at-init : goal.loop-at-init
loop-at-init c =
    let a = c.args in (
      omega arith,
      c.requires.0,
      search rules,
      search rules,
      refl,
      refl,
      ap₂ (λ (r p : List ℕ). Left (hash_of a.alg) a.place a.page1.now a.page2.now a.path2.now a.heads.now (length a.pair.now) 0 a.size r p)
          c.root_of-held.ensures
          (ap (take (length a.path1.now)) c.copy.ensures ∙ over_start a.path1.now _ _ refl),
    )

pub returns-then-count-eq0 : goal.returns-then-count-eq0
returns-then-count-eq0 c =
    let h = c in
    let k = h in
    let a = k.args in
    let L = k.loop-at in
    let e = sym L.invariant.6 ∙ left_truncated (hash_of a.alg) a.place a.page1.now a.page2.now a.path2.now a.heads.now (length a.pair.now) L.at L.m L.held (take L.len L.path) _ (rest_is a.heads.now L.at) _ h.head_bytes-count.ensures h.loop-at-test.true c.if-count-eq0.true in
    let t = reports_refused _ 2 a.pair.now e in
    (t.0, L.invariant.5 ∙ t.1)

pub slice_bounds-path-end : goal.slice_bounds-path-end
slice_bounds-path-end c = let L = c.loop-at in omega (arith, L.invariant.1, L.invariant.2)

pub slice_bounds-over_head-end-in-loop-at-2 : goal.slice_bounds-over_head-end-in-loop-at-2
slice_bounds-over_head-end-in-loop-at-2 c =
    let L = c.loop-at in
    sym (length-take-le L.len L.path (omega (arith, L.invariant.1, L.invariant.2)))

pub over_head-carried-requires : goal.over_head-carried-requires
over_head-carried-requires c =
    let g = c in
    let w = head_whole _ _ g.head_bytes-count.ensures g.if-count-eq0.false in
    (w.0, w.1, w.2, c.path_buffer-out.ensures)

-- one head: the whole is what carrying by it leads to
turn : (c : After-over_head-carried) →
    (let a = c.args in
    let L = c.loop-at in
    let rest = take (length a.heads.now - L.at) (drop L.at a.heads.now) in
    Left (hash_of a.alg) a.place a.page1.now a.page2.now a.path2.now a.heads.now (length a.pair.now) 0 a.size a.root.now a.path1.now
    ≡ onward (carry (hash_of a.alg) a.one.bytes a.place L.m (head_size rest) L.held (head_root rest) (take L.len L.path) (head_path rest) longest_path (length L.pair))
    (follow (hash_of a.alg) a.place a.page1.now a.page2.now a.path2.now (length a.pair.now) (heads_of (drop (L.at + c.head_bytes-count.result) a.heads.now)) (head_size rest) (head_root rest)))
turn c =
    let a = c.args in
    let L = c.loop-at in
    sym L.invariant.6 ∙ left_then (hash_of a.alg) a.place a.page1.now a.page2.now a.path2.now a.heads.now (length a.pair.now) L.at L.m L.held (take L.len L.path) _ (rest_is a.heads.now L.at) _ c.head_bytes-count.ensures a.one.bytes (length L.pair) c.if-count-eq0.false c.requires.2 L.invariant.4

pub returns-in-Refused : goal.returns-in-Refused
returns-in-Refused c =
    let o = c in
    let L = o.loop-at in
    let d = o.over_head-carried.ensures in
    let q = carried_refused _ _ _ (ap carrying (sym c.in-Refused.is) ∙ d.0) in
    let t = reports_refused _ _ o.args.pair.now (turn (goal.at.returns-in-Refused c).After-over_head-carried ∙ q.0) in
    (t.0, d.1.1 ∙ q.1 L.pair ∙ L.invariant.5 ∙ t.1)

pub returns-in-Collision : goal.returns-in-Collision
returns-in-Collision c =
    let o = c in
    let L = o.loop-at in
    let d = o.over_head-carried.ensures in
    let e = turn (goal.at.returns-in-Collision c).After-over_head-carried in
    let q = carried_collision _ _ L.pair (ap carrying (sym c.in-Collision.is) ∙ d.0) in
    (q.0 ∙ ap dispute_report (sym e), d.1.1 ∙ q.1 ∙ ap₂ pair_disputed (sym e) L.invariant.5)

pub size_of-m-requires : goal.size_of-m-requires
size_of-m-requires c =
    let o = c in
    let w = head_whole _ _ o.head_bytes-count.ensures o.if-count-eq0.false in
    omega (arith, w.0, w.1)

pub slice_bounds-root_of-end : goal.slice_bounds-root_of-end
slice_bounds-root_of-end c =
    let o = c in
    let w = head_whole _ _ o.head_bytes-count.ensures o.if-count-eq0.false in
    omega (arith, w.0, w.1)

within : (n : ℕ) (o : List ℕ) → n ≤ length o → length o ≡ longest_path → n ≤ longest_path
within n o h e = omega arith

-- the next place is within the buffer
next : (c : After-root_of-held-in-Path) → c.loop-at.at + c.head_bytes-count.result ≤ length c.args.heads.now
next c =
    let k = c in
    let s = k.args.heads.now in
    let w = head_whole _ _ c.head_bytes-count.ensures c.if-count-eq0.false in
    omega (arith, w.1, ap length (rest_is s k.loop-at.at), length-drop k.loop-at.at s, c.loop-at-test.true)

pub overflow_add-at : goal.overflow_add-at
overflow_add-at c = omega (arith, next (goal.at.overflow_add-at c).After-root_of-held-in-Path)

pub loop-at-smaller : goal.loop-at-smaller
loop-at-smaller c =
    let w = head_whole _ _ c.head_bytes-count.ensures c.if-count-eq0.false in
    omega (arith, w.0, c.loop-at-test.true)

pub loop-at-preserved : goal.loop-at-preserved
loop-at-preserved c =
    let o = c in
    let a = o.args in
    let L = o.loop-at in
    let d = o.over_head-carried.ensures in
    let rest = take (length a.heads.now - L.at) (drop L.at a.heads.now) in
    let q = carried_path _ (follow (hash_of a.alg) a.place a.page1.now a.page2.now a.path2.now (length a.pair.now) (heads_of (drop (L.at + o.head_bytes-count.result) a.heads.now)) (head_size rest) (head_root rest)) _ _ _ (ap carrying (sym c.in-Path.is) ∙ d.0) d.1.0 in
    let t = d.1.1 ∙ q.2 L.pair ∙ L.invariant.5 in (
      next (goal.at.loop-at-preserved c).After-root_of-held-in-Path,
      within _ o.over_head-carried.new.out q.1 (search rules),
      search rules,
      search rules,
      ap length t,
      t,
      rw (c.size_of-m.ensures, c.root_of-held-in-Path.ensures) (sym q.0 ∙ sym (turn (goal.at.loop-at-preserved c).After-over_head-carried)),
    )

pub slice_bounds-settle-end-3 : goal.slice_bounds-settle-end-3
slice_bounds-settle-end-3 c =
    let L = c.loop-at in
    sym (length-take-le L.len L.path (omega (arith, L.invariant.1, L.invariant.2)))

pub returns : goal.returns
returns c =
    let k = c in
    let a = k.args in
    let L = k.loop-at in
    let d = c.settle.ensures in
    let e = sym L.invariant.6 ∙ left_end (hash_of a.alg) a.place a.page1.now a.page2.now a.path2.now a.heads.now (length a.pair.now) L.at L.m L.held (take L.len L.path) a.one.bytes a.two.bytes (length L.pair) c.loop-at-test.false k.requires.2 k.requires.3 L.invariant.4 in
    (d.0 ∙ ap dispute_report (sym e), d.1 ∙ ap₂ pair_disputed (sym e) L.invariant.5)

pub shape_of-pair-then-count-eq0 : goal.shape_of-pair-then-count-eq0
shape_of-pair-then-count-eq0 c = c.loop-at.invariant.4

pub slice_bounds-path-end-2 : goal.slice_bounds-path-end-2
slice_bounds-path-end-2 c = omega (arith, c.loop-at.invariant.1, c.loop-at.invariant.2)
