-- `growing::levels::root_above` meets its contract: the root from the first level is the root from here. Assumes nothing.
use mathlib.Core.Path.{refl, sym, ap, ◌∙◌}
use Prim.Native.Nat.{◌+◌, ◌/◌}
use native.Mathlib.Omega.{arith}
use borrow.Author.Rules.{rules}
use lib.ListN.{get_or}
use Rattle.hash.specs.Digest.{hash_of}
use Rattle.hash.specs.declared.Digest.{Digest}
use Rattle.growing.proofs.Stepping.{past, above, above_even, above_odd, above_end}
use Rattle.growing.proofs.OfHash.{node_parent}
use Rattle.growing.proofs.levels.root_above.Goals.{then-n-eq1, else-n-eq1}
use Rattle.growing.proofs.levels.root_above.Goals as goal

pub loop-i-init : goal.loop-i-init
loop-i-init c = (search rules, c.well_formed.1.0.1.1.1.0.1.0.1, refl)

pub loop-i-preserved : goal.loop-i-preserved
loop-i-preserved c =
    let l = c.loop-i in
    let a = c.args in
    let hashes = a.g.hashes in (
      search rules,
      l.invariant.1,
      elim c.if-n-eq1.branch [
        | then-n-eq1 w ↦
            l.invariant.2 ∙ above_odd (hash_of a.alg) hashes l.i l.n l.right.bytes (omega arith) (λ z. omega arith)
            ∙ ap (λ (x : Digest). above (hash_of a.alg) hashes (l.i + 1) (l.n / 2) x.bytes) (sym (w.right-is ∙ node_parent a.alg (get_or hashes l.i past) l.right w.node-right.result w.node-right.ensures))
        | else-n-eq1 w ↦
            l.invariant.2 ∙ above_even (hash_of a.alg) hashes l.i l.n l.right.bytes (omega arith) (omega arith)
            ∙ ap (λ (x : Digest). above (hash_of a.alg) hashes (l.i + 1) (l.n / 2) x.bytes) (sym w.right-is)
      ],
    )

pub returns : goal.returns
returns c =
    let l = c.loop-i in
    let a = c.args in
    let hashes = a.g.hashes in
    sym (l.invariant.2 ∙ above_end (hash_of a.alg) hashes l.i l.n l.right.bytes (omega arith))
