-- `growing::levels::with_leaves` meets its contract: so far the tree has the first i; and what is carried in at the first level is what is carried in here,
-- behind the levels passed. Assumes nothing.
use mathlib.Core.Path.{◌≡◌, refl, sym, ap, ◌∙◌}
use mathlib.Core.List.{List, ◌++◌}
use Prim.Native.Nat.{ℕ, ◌+◌, ◌*◌, ◌/◌, ◌%◌, ◌≤◌}
use native.Mathlib.Omega.{arith}
use borrow.Author.Rules.{rules}
use lib.ListN.{length, take, drop, get_or, set, length-set}
use Rattle.hash.specs.Digest.{hash_of}
use Rattle.hash.specs.declared.Digest.{Digest}
use Rattle.tree.specs.Joined.{first_nodes, node_at}
use Rattle.tree.proofs.Joining.{hash_in}
use Rattle.growing.specs.declared.Growing.{Growing}
use Rattle.growing.specs.Limits.{most_hashes}
use Rattle.growing.specs.Hashes.{digest, nothing, parent, merged, with_leaf, with_leaves}
use Rattle.growing.proofs.Stepping.{past, grown, merged_here, merged_up, merged_end, with_leaf_of}
use Rattle.growing.proofs.Holding.{merged_length}
use Rattle.growing.proofs.Adding.{with_none, with_next}
use Rattle.growing.proofs.OfHash.{node_parent}
use Rattle.growing.proofs.levels.with_leaves.Goals.{else-loop-level-test, then-loop-level-test+then-m-eq0, then-level-lt-MOST_HASHES, else-level-lt-MOST_HASHES}
use Rattle.growing.proofs.levels.with_leaves.Goals as goal

pub loop-i-init : goal.loop-i-init
loop-i-init c =
    let a = c.args in
    (search rules, c.well_formed.1.0.1.1.1.0.1.0.1, omega arith, sym (with_none (hash_of a.alg) a.g a.leaves.now))

pub loop-level-init : goal.loop-level-init
loop-level-init c = (search rules, c.loop-i.invariant.1, refl)

pub loop-level-preserved : goal.loop-level-preserved
loop-level-preserved c =
    let a = c.args in
    let l = c.loop-level in
    let s = l.hashes in
    let t = set s l.level nothing in
    let up : take l.level s ++ merged (hash_of a.alg) (drop l.level s) l.m l.h ≡ take (l.level + 1) t ++ merged (hash_of a.alg) (drop (l.level + 1) t) (l.m / 2) (parent (hash_of a.alg) (get_or s l.level past) l.h) =
    merged_up (hash_of a.alg) s l.level l.m l.h (omega arith) c.if-m-eq0.false in (
      search rules,
      length-set s l.level _ ∙ l.invariant.1,
      l.invariant.2 ∙ up
          ∙ ap (λ (x : Digest). take (l.level + 1) t ++ merged (hash_of a.alg) (drop (l.level + 1) t) (l.m / 2) x) (sym (node_parent a.alg (get_or s l.level past) l.h c.node-h.result c.node-h.ensures))
          ∙ ap (λ (x : Digest). take (l.level + 1) (set s l.level x) ++ merged (hash_of a.alg) (drop (l.level + 1) (set s l.level x)) (l.m / 2) c.node-h.result) (sym c.no_hash.ensures),
    )

pub loop-i-preserved : goal.loop-i-preserved
loop-i-preserved c =
    let up = c.loop-level in
    let l = c.loop-i in
    let a = c.args in
    let x = c.node_at-h in
    let s = a.leaves.now in
    let held : 32 * l.i + 32 ≤ length s = omega arith in
    let even : up.level + 1 ≤ most_hashes → up.m % 2 ≡ 0 = λ h. elim c.loop-level-test.branch [
      | else-loop-level-test w ↦ absurd (omega (arith, w.loop-level-test.false))
      | then-loop-level-test+then-m-eq0 w ↦ w.if-m-eq0.true
    ] in
    let put : c.if-level-lt-MOST_HASHES.hashes ≡ merged (hash_of a.alg) l.hashes l.count x.result = elim c.if-level-lt-MOST_HASHES.branch [
      | then-level-lt-MOST_HASHES w ↦
          let below : up.level + 1 ≤ most_hashes = omega (arith, w.if-level-lt-MOST_HASHES.true) in
          w.hashes-is ∙ sym (up.invariant.2 ∙ merged_here (hash_of a.alg) up.hashes up.level up.m up.h (omega arith) (even below))
      | else-level-lt-MOST_HASHES w ↦
          let all : most_hashes ≤ up.level = w.if-level-lt-MOST_HASHES.false in
          w.hashes-is ∙ sym (up.invariant.2 ∙ merged_end (hash_of a.alg) up.hashes up.level up.m up.h (omega arith))
    ] in (
      search rules,
      ap length put ∙ merged_length (hash_of a.alg) l.hashes l.count x.result ∙ l.invariant.1,
      omega arith,
      with_leaf_of (hash_of a.alg) (grown a.g.algorithm l.hashes l.count) c.if-level-lt-MOST_HASHES.hashes (l.count + 1) x.result put refl
          ∙ ap (λ (d : List ℕ). with_leaf (hash_of a.alg) (grown a.g.algorithm l.hashes l.count) (digest d)) (x.ensures ∙ hash_in l.i s held)
          ∙ ap (λ (g : Growing). with_leaf (hash_of a.alg) g (digest (node_at l.i s))) l.invariant.3
          ∙ sym (with_next (hash_of a.alg) a.g s l.i),
    )

pub returns : goal.returns
returns c =
    let a = c.args in
    let l = c.loop-i in
    let done : l.i ≡ a.n = omega arith in
    l.invariant.3 ∙ ap (λ (k : ℕ). with_leaves (hash_of a.alg) a.g (first_nodes k a.leaves.now)) done
