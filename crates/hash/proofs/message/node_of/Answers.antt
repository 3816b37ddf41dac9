use mathlib.Core.Path.{refl, ◌∙◌}
use Rattle.hash.specs.declared.Algorithm.TheVariants.{Sha256, Sm3}
use Rattle.hash.specs.Algorithm.{start_of, step_of}
use Rattle.hash.specs.Message.{absorbed}
use Rattle.hash.proofs.Algorithms.{step_same}
use Rattle.hash.proofs.Padding.{node_ends}
use Rattle.hash.proofs.message.node_of.Goals as goal

pub returns-in-Sha256 : goal.returns-in-Sha256
unfolding absorbed
returns-in-Sha256 c =
    let p = c in
    let a = p.args in
    let d = p.pack_node.new.a in
    rw c.in-Sha256.is
    (c.both_sha256.ensures ∙ node_ends (step_of Sha256) (step_same Sha256) (start_of Sha256) a.left.now a.right.now d p.pack_node.auto.a p.pack_node.ensures)

pub returns-in-Sm3 : goal.returns-in-Sm3
unfolding absorbed
returns-in-Sm3 c =
    let p = c in
    let a = p.args in
    let d = p.pack_node.new.a in
    rw c.in-Sm3.is
    (c.both_sm3.ensures ∙ node_ends (step_of Sm3) (step_same Sm3) (start_of Sm3) a.left.now a.right.now d p.pack_node.auto.a p.pack_node.ensures)

pub pack_node-requires : goal.pack_node-requires
pack_node-requires c = (refl, refl)
