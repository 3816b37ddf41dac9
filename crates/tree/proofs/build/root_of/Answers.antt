-- `tree::build::root_of` meets its contract. Assumes nothing.
use mathlib.Core.Path.{sym, ap, ◌∙◌}
use native.Mathlib.Omega.{arith}
use Rattle.hash.specs.Digest.{hash_of}
use Rattle.tree.specs.Tree.{root}
use Rattle.tree.proofs.Rfc.{root_none}
use Rattle.tree.proofs.Building.{number_10, number_0, bytes_10, bytes_0, from_start, nodes_none}
use Rattle.tree.proofs.build.root_of.Goals as goal

pub returns-then-bad_leaves : goal.returns-then-bad_leaves
returns-then-bad_leaves c =
    let a = c.args in
    let s = a.leaves.now in
    let u = (sym c.bad_leaves.ensures ∙ c.if-bad_leaves.true) in
    record {
      number_value = c.refused.ensures.0 ∙ sym (number_10 s u);
      bytes_value = c.refused.ensures.1 ∙ sym (bytes_10 (hash_of a.alg) s u);
    }

pub returns-then-n-eq0 : goal.returns-then-n-eq0
returns-then-n-eq0 c =
    let a = c.args in
    let s = a.leaves.now in
    let u = (sym c.bad_leaves.ensures ∙ c.if-bad_leaves.false) in
    record {
      number_value = sym (number_0 s u);
      bytes_value = c.empty.ensures ∙ sym (root_none (hash_of a.alg)) ∙ ap (root (hash_of a.alg)) (sym (nodes_none s (omega arith))) ∙ sym (bytes_0 (hash_of a.alg) s u);
    }

pub returns : goal.returns
returns c =
    let a = c.args in
    let s = a.leaves.now in
    let u = (sym c.bad_leaves.ensures ∙ c.if-bad_leaves.false) in
    record {
      number_value = sym (number_0 s u);
      bytes_value = c.part_root.ensures ∙ ap (root (hash_of a.alg)) (from_start s) ∙ sym (bytes_0 (hash_of a.alg) s u);
    }
