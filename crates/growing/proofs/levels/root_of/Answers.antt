-- `growing::levels::root_of` meets its contract: those that count from the first level on are those that count from here. Assumes nothing.
use mathlib.Core.Path.{refl, sym, ap, ◌∙◌}
use native.Mathlib.Omega.{arith}
use borrow.Author.Rules.{rules}
use Rattle.hash.specs.Digest.{hash_of}
use Rattle.tree.specs.Full.{together}
use Rattle.growing.proofs.Stepping.{counting_even, counting_odd, counting_end, root_now_of, together_none}
use Rattle.growing.proofs.levels.root_of.Goals as goal

pub loop-i-init : goal.loop-i-init
loop-i-init c = (search rules, c.well_formed.1.0.1.1.1.0.1.0.1, refl)

pub returns-then-n-eq1 : goal.returns-then-n-eq1
returns-then-n-eq1 c =
    let l = c.loop-i in
    let a = c.args in
    let g = a.g in
    c.root_above.ensures
    ∙ sym (root_now_of (hash_of a.alg) g ∙ ap (together (hash_of a.alg)) (l.invariant.2 ∙ counting_odd g.hashes l.i l.n (omega arith) (λ z. omega arith)))

pub loop-i-preserved : goal.loop-i-preserved
loop-i-preserved c =
    let l = c.loop-i in
    let hashes = c.args.g.hashes in
    (search rules, l.invariant.1, l.invariant.2 ∙ counting_even hashes l.i l.n (omega arith) (omega arith))

pub returns : goal.returns
returns c =
    let l = c.loop-i in
    let a = c.args in
    let g = a.g in
    c.empty.ensures
    ∙ sym (root_now_of (hash_of a.alg) g ∙ ap (together (hash_of a.alg)) (l.invariant.2 ∙ counting_end g.hashes l.i l.n (omega arith)) ∙ together_none (hash_of a.alg))
