-- `carry::forward::carry` meets its contract: one law for each return. Assumes nothing.
use mathlib.Core.Path.{◌≡◌, refl, sym, ap, ◌∙◌}
use mathlib.Core.Bool.{false≢true}
use mathlib.Core.List.{◌++◌}
use Prim.Native.Nat.{◌+◌, ◌-◌, ◌*◌, ◌/◌, ◌≤◌}
use native.Mathlib.Omega.{arith}
use lib.ListN.{length, take, drop}
use Rattle.hash.specs.Digest.{hash_of}
use Rattle.hash.proofs.Promises.{hash_length}
use Rattle.tree.specs.Count.{inclusion_count, consistency_count}
use Rattle.tree.specs.Joined.{nodes}
use Rattle.octets.specs.Bytes.{joined}
use Rattle.tree.specs.Verdict.{inclusion_verdict, consistency_verdict}
use Rattle.carry.specs.declared.walk.Walked.{Walked}
use Rattle.carry.specs.Forward.{conflict, forward}
use Rattle.carry.specs.Inner.{Fit, difference_of, path_from, path_as}
use Rattle.carry.proofs.Pairing.{difference_apart, difference_alike}
use Rattle.carry.proofs.Carrying.{Both, both, one_refused, fit_of, agree_of, accepted_by, path_short, pair_short, long, reports_refused, reports_apart, reports_path, difference_walked, path_walked, pieces, counted_pieces, new_path}
use Rattle.carry.proofs.forward.carry.Goals.{Else-not-agree, Else-not-fits}
use Rattle.carry.proofs.forward.carry.Goals as goal

-- from the test that the two proofs fit back to the entry, from the walk to that test, and from the test that the roots agree to the walk
-- the two proofs fit
fit_at : (c : Else-not-fits) →
    (let a = c.args in
    Fit (length a.leaf.now) a.place a.m a.n (length a.old.now) (length a.new.now) (length a.path.now) (length a.proof.now))
fit_at c = c.fits.ensures.0 (c.if-not-fits.false)

-- what is known where the roots agree
module _ (c : Else-not-agree) where
  abbrev w : Walked
  w = c.walk-walked.result

  accepted : (inclusion_verdict (hash_of c.args.alg) c.args.leaf.now c.args.place c.args.m c.args.old.now c.args.path.now ≡ 0)
      × (consistency_verdict (hash_of c.args.alg) c.args.m c.args.n c.args.old.now c.args.new.now c.args.proof.now ≡ 0)
  accepted =
      let r = c.agree in
      let e = c.walk-walked.ensures in
      accepted_by (hash_of c.args.alg) c.args.leaf.now c.args.place c.args.m c.args.n c.args.old.now c.args.new.now c.args.path.now c.args.proof.now (c.fits.ensures.0 c.if-not-fits.false) c.node_at.ensures c.node_at-2.ensures
      e.0 e.1.0 e.1.1.0 (r.ensures.0 (c.if-not-agree.false))

  two : Both c.args.leaf.now c.args.place c.args.m c.args.n c.args.old.now c.args.path.now c.args.proof.now
  two = both (hash_of c.args.alg) c.args.leaf.now c.args.place c.args.m c.args.n c.args.old.now c.args.new.now c.args.path.now c.args.proof.now (sym accepted.0) refl (sym accepted.1) refl

  within : (w.low ≤ length c.args.path.now / 32) × (w.hashed ≤ 1) × (w.high ≤ length c.args.proof.now / 32)
  within = c.walk-walked.ensures.1.1.1.1.1

  whole : length c.args.proof.now ≡ 32 * (length c.args.proof.now / 32)
  whole = omega (arith, two.proof_length, two.proof_count)

  difference : difference_of w.recomputed ≡ conflict (hash_of c.args.alg) c.args.m c.args.n c.args.place c.args.leaf.now (nodes c.args.path.now) c.args.old.now (nodes c.args.proof.now)
  difference = difference_walked (hash_of c.args.alg) c.args.leaf.now c.args.place c.args.m c.args.n c.args.old.now c.args.path.now c.args.proof.now two c.node_at.ensures c.node_at-2.ensures c.walk-walked.ensures.1.1.1.0

  new-nodes : path_from w.low w.hashed w.sibling.bytes w.high c.args.path.now c.args.proof.now (length c.args.proof.now / 32)
      ≡ forward (hash_of c.args.alg) c.args.m c.args.n c.args.place (nodes c.args.path.now) c.args.old.now (nodes c.args.proof.now)
  unfolding path_as
  new-nodes = path_walked (hash_of c.args.alg) c.args.leaf.now c.args.place c.args.m c.args.n c.args.old.now c.args.path.now c.args.proof.now two c.node_at.ensures c.node_at-2.ensures c.walk-walked.ensures.1.1.1.1.0

  number : w.low + w.hashed + (length c.args.proof.now / 32 - w.high) ≡ inclusion_count c.args.place c.args.n
  number =
      sym (counted_pieces w.low w.hashed w.sibling.bytes w.high c.args.path.now c.args.proof.now (length c.args.proof.now / 32) whole within.2)
      ∙ ap length new-nodes ∙ (new_path (hash_of c.args.alg) (hash_length c.args.alg) c.args.leaf.now c.args.place c.args.m c.args.n c.args.old.now c.args.new.now c.args.path.now c.args.proof.now accepted.0 accepted.1).1

pub returns-then-not-fits : goal.returns-then-not-fits
returns-then-not-fits c =
    let f = c in
    let a = f.args in
    let t = reports_refused a.out.now a.pair.now (one_refused (hash_of a.alg) a.leaf.now a.place a.m a.n a.old.now a.new.now a.path.now a.proof.now (length a.out.now) (length a.pair.now)
    (λ v w. false≢true (sym (c.if-not-fits.true) ∙ f.fits.ensures.1 (fit_of (hash_of a.alg) a.leaf.now a.place a.m a.n a.old.now a.new.now a.path.now a.proof.now v w)))) in
    (c.refusal.ensures ∙ t.0, t.1)

pub walk-walked-requires : goal.walk-walked-requires
unfolding consistency_count
walk-walked-requires c =
    let fit = fit_at (goal.at.walk-walked-requires c).Else-not-fits in
    let i = fit.path_length in
    let j = fit.proof_length in
    (fit.below, fit.order, omega (arith, i), omega (arith, i), omega (arith, j), omega (arith, j))

pub returns-then-not-agree : goal.returns-then-not-agree
returns-then-not-agree c =
    let r = c in
    let l = r in
    let a = l.args in
    let e = l.walk-walked.ensures in
    let t = reports_refused a.out.now a.pair.now (one_refused (hash_of a.alg) a.leaf.now a.place a.m a.n a.old.now a.new.now a.path.now a.proof.now (length a.out.now) (length a.pair.now)
    (λ v w. false≢true (sym (c.if-not-agree.true) ∙ r.agree.ensures.1 (agree_of (hash_of a.alg) a.leaf.now a.place a.m a.n a.old.now a.new.now a.path.now a.proof.now (fit_at (goal.at.returns-then-not-agree c).Else-not-fits) l.node_at.ensures l.node_at-2.ensures e.0 e.1.0 e.1.1.0 v w)))) in
    (c.refusal-then-not-agree.ensures ∙ t.0, t.1)

pub overflow_add-low : goal.overflow_add-low
overflow_add-low c = let t = two (goal.at.overflow_add-low c).Else-not-agree in omega (arith, within (goal.at.overflow_add-low c).Else-not-agree, t.path_count, t.proof_count, t.path_most, t.proof_most)

pub overflow_sub-q : goal.overflow_sub-q
overflow_sub-q c = let t = two (goal.at.overflow_sub-q c).Else-not-agree in omega (arith, within (goal.at.overflow_sub-q c).Else-not-agree, t.path_count, t.proof_count, t.path_most, t.proof_most)

pub overflow_add-low-2 : goal.overflow_add-low-2
overflow_add-low-2 c = let t = two (goal.at.overflow_add-low-2 c).Else-not-agree in omega (arith, within (goal.at.overflow_add-low-2 c).Else-not-agree, t.path_count, t.proof_count, t.path_most, t.proof_most)

pub returns-then-out-low : goal.returns-then-out-low
returns-then-out-low c =
    let e = c in
    let a = c.args in
    let y = accepted (goal.at.returns-then-out-low c).Else-not-agree in
    reports_refused a.out.now a.pair.now (path_short (hash_of a.alg) a.leaf.now a.place a.m a.n a.old.now a.new.now a.path.now a.proof.now (length a.out.now) (length a.pair.now) (sym y.0) refl (sym y.1) refl (omega (arith, number (goal.at.returns-then-out-low c).Else-not-agree, c.if-out-low.true)))

pub returns-then-pair-lt-PAIR : goal.returns-then-pair-lt-PAIR
returns-then-pair-lt-PAIR c =
    let e = c in
    let a = c.args in
    let y = accepted (goal.at.returns-then-pair-lt-PAIR c).Else-not-agree in
    reports_refused a.out.now a.pair.now (pair_short (hash_of a.alg) a.leaf.now a.place a.m a.n a.old.now a.new.now a.path.now a.proof.now (length a.out.now) (length a.pair.now) (sym y.0) refl (sym y.1) refl (omega (arith, number (goal.at.returns-then-pair-lt-PAIR c).Else-not-agree, c.if-out-low.false)) c.if-pair-lt-PAIR.true)

pub put_pair-requires : goal.put_pair-requires
put_pair-requires c = omega (arith, c.if-pair-lt-PAIR.false)

pub returns-then-recomputed : goal.returns-then-recomputed
returns-then-recomputed c =
    let t = c in
    let r = t in
    let e = r in
    let a = c.args in
    let y = accepted (goal.at.returns-then-recomputed c).Else-not-agree in
    let g = long (hash_of a.alg) a.leaf.now a.place a.m a.n a.old.now a.new.now a.path.now a.proof.now (length a.out.now) (length a.pair.now) (sym y.0) refl (sym y.1) refl (omega (arith, number (goal.at.returns-then-recomputed c).Else-not-agree, r.if-out-low.false)) r.if-pair-lt-PAIR.false in
    reports_apart _ a.out.now a.pair.now g (sym (difference (goal.at.returns-then-recomputed c).Else-not-agree) ∙ difference_apart (w (goal.at.returns-then-recomputed c).Else-not-agree).recomputed t.if-recomputed.true) c.put_pair.ensures

pub put_path-requires : goal.put_path-requires
put_path-requires c =
    let r = c in
    let e = r in
    let t = two (goal.at.put_path-requires c).Else-not-agree in
    let o = within (goal.at.put_path-requires c).Else-not-agree in
    (omega (arith, t.path_length, t.path_count, o), o.1, omega (arith, whole (goal.at.put_path-requires c).Else-not-agree, o), omega (arith, whole (goal.at.put_path-requires c).Else-not-agree, o, number (goal.at.put_path-requires c).Else-not-agree, r.if-out-low.false))

pub returns : goal.returns
returns c =
    let t = c in
    let r = t in
    let e = r in
    let a = c.args in
    let w = w (goal.at.returns c).Else-not-agree in
    let y = accepted (goal.at.returns c).Else-not-agree in
    let g = long (hash_of a.alg) a.leaf.now a.place a.m a.n a.old.now a.new.now a.path.now a.proof.now (length a.out.now) (length a.pair.now) (sym y.0) refl (sym y.1) refl (omega (arith, number (goal.at.returns c).Else-not-agree, r.if-out-low.false)) r.if-pair-lt-PAIR.false in
    let u = take (32 * w.low) a.path.now ++ (take (32 * w.hashed) w.sibling.bytes ++ drop (32 * w.high) a.proof.now) in
    let b = ap joined (sym (new-nodes (goal.at.returns c).Else-not-agree)) ∙ pieces w.low w.hashed w.sibling.bytes w.high a.path.now a.proof.now (length a.proof.now / 32) (whole (goal.at.returns c).Else-not-agree) (within (goal.at.returns c).Else-not-agree).2 in
    reports_path u a.out.now a.pair.now g (sym (difference (goal.at.returns c).Else-not-agree) ∙ difference_alike w.recomputed t.if-recomputed.false) b c.put_path.ensures.0 c.put_path.ensures.1
