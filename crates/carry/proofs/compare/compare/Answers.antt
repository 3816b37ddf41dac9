-- `carry::compare::compare` meets its contract: one law for each return. Assumes nothing.
use mathlib.Core.Path.{◌≡◌, sym, ◌∙◌}
use mathlib.Core.List.{List}
use Prim.Native.Nat.{ℕ, ◌*◌, ◌/◌, ◌<◌}
use native.Mathlib.Omega.{arith}
use lib.ListN.{length}
use Rattle.hash.specs.Digest.{hash_of}
use Rattle.tree.specs.Count.{inclusion_count}
use Rattle.tree.specs.Joined.{nodes}
use Rattle.carry.specs.Compare.{found, differ, compare}
use Rattle.carry.specs.Inner.{difference_of}
use Rattle.carry.proofs.Pairing.{difference_apart, difference_alike}
use Rattle.carry.proofs.Comparing.{accepted_proof, first_refused, second_refused, short, long, reports_refused, reports_same, reports_apart, difference_bytes}
use Rattle.carry.proofs.compare.compare.Goals.{After-recompute-recomputed, Else-second-ne0}
use Rattle.carry.proofs.compare.compare.Goals as goal

-- what is known where both proofs are accepted
module _ (c : Else-second-ne0) where
  abbrev Has : List ℕ → List ℕ → Type 0
  Has leaf path =
      (length leaf ≡ 32) × (length c.args.root.now ≡ 32) × (c.args.place < c.args.size) × (length path ≡ 32 * inclusion_count c.args.place c.args.size)
      × (length path / 32 ≡ inclusion_count c.args.place c.args.size)

  first : Has c.args.leaf1.now c.args.path1.now
  first = accepted_proof (hash_of c.args.alg) c.args.leaf1.now c.args.place c.args.size c.args.root.now c.args.path1.now c.inclusion_verdict-first.ensures c.if-first-ne0.false

  second : Has c.args.leaf2.now c.args.path2.now
  second = accepted_proof (hash_of c.args.alg) c.args.leaf2.now c.args.place c.args.size c.args.root.now c.args.path2.now c.inclusion_verdict-second.ensures c.if-second-ne0.false

-- what is recomputed is what the two proofs differ in, and the outcome is that
difference : (c : After-recompute-recomputed) →
    (let a = c.args in
    difference_of c.recompute-recomputed.result ≡ differ (hash_of a.alg) a.place a.size a.leaf1.now (nodes a.path1.now) a.leaf2.now (nodes a.path2.now))
difference c =
    let e = c in
    let a = c.args in
    let p = accepted_proof (hash_of a.alg) a.leaf1.now a.place a.size a.root.now a.path1.now c.inclusion_verdict-first.ensures c.if-first-ne0.false in
    let q = accepted_proof (hash_of a.alg) a.leaf2.now a.place a.size a.root.now a.path2.now c.inclusion_verdict-second.ensures c.if-second-ne0.false in
    difference_bytes (hash_of a.alg) a.place a.size a.leaf1.now a.path1.now a.leaf2.now a.path2.now c.recompute-recomputed.ensures.1.1 c.node_at.ensures p.0 c.node_at-2.ensures q.0 (p.4 ∙ sym q.4)

outcome : (c : After-recompute-recomputed) →
    (let a = c.args in
    compare (hash_of a.alg) a.place a.size a.root.now a.leaf1.now a.path1.now a.leaf2.now a.path2.now (length a.pair.now)
    ≡ found (differ (hash_of a.alg) a.place a.size a.leaf1.now (nodes a.path1.now) a.leaf2.now (nodes a.path2.now)))
outcome c =
    let e = c in
    let a = c.args in
    long (hash_of a.alg) a.place a.size a.root.now a.leaf1.now a.path1.now a.leaf2.now a.path2.now (length a.pair.now) c.inclusion_verdict-first.ensures e.if-first-ne0.false e.inclusion_verdict-second.ensures e.if-second-ne0.false c.if-pair-lt-PAIR.false

pub returns-then-first-ne0 : goal.returns-then-first-ne0
returns-then-first-ne0 c =
    let a = c.args in
    reports_refused a.pair.now (first_refused (hash_of a.alg) a.place a.size a.root.now a.leaf1.now a.path1.now a.leaf2.now a.path2.now (length a.pair.now) c.inclusion_verdict-first.ensures c.if-first-ne0.true)

pub returns-then-second-ne0 : goal.returns-then-second-ne0
returns-then-second-ne0 c =
    let l = c in
    let a = l.args in
    reports_refused a.pair.now (second_refused (hash_of a.alg) a.place a.size a.root.now a.leaf1.now a.path1.now a.leaf2.now a.path2.now (length a.pair.now) l.inclusion_verdict-first.ensures c.if-first-ne0.false c.inclusion_verdict-second.ensures c.if-second-ne0.true)

pub returns-then-pair-lt-PAIR : goal.returns-then-pair-lt-PAIR
returns-then-pair-lt-PAIR c =
    let e = c in
    let a = c.args in
    reports_refused a.pair.now (short (hash_of a.alg) a.place a.size a.root.now a.leaf1.now a.path1.now a.leaf2.now a.path2.now (length a.pair.now) c.inclusion_verdict-first.ensures e.if-first-ne0.false e.inclusion_verdict-second.ensures e.if-second-ne0.false c.if-pair-lt-PAIR.true)

pub recompute-recomputed-requires : goal.recompute-recomputed-requires
recompute-recomputed-requires c =
    let e = c in
    let p = first (goal.at.recompute-recomputed-requires c).Else-second-ne0 in
    let q = second (goal.at.recompute-recomputed-requires c).Else-second-ne0 in
    (p.2, p.4, omega (arith, p.3), omega (arith, p.3, q.3))

pub put_pair-requires : goal.put_pair-requires
put_pair-requires c = omega (arith, c.if-pair-lt-PAIR.false)

pub returns-then-recomputed : goal.returns-then-recomputed
returns-then-recomputed c =
    let t = c in
    let r = t in
    let b = c.args.pair.now in
    reports_apart b (outcome (goal.at.returns-then-recomputed c).After-recompute-recomputed) (sym (difference (goal.at.returns-then-recomputed c).After-recompute-recomputed) ∙ difference_apart r.recompute-recomputed.result t.if-recomputed.true) c.put_pair.ensures

pub returns : goal.returns
returns c =
    let r = c in
    let b = c.args.pair.now in
    reports_same b (outcome (goal.at.returns c).After-recompute-recomputed) (sym (difference (goal.at.returns c).After-recompute-recomputed) ∙ difference_alike r.recompute-recomputed.result c.if-recomputed.false)
