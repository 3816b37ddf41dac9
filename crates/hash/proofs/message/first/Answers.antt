use borrow.Author.Rules.{rules}
use mathlib.Core.Path.{refl, sym, ◌∙◌}
use native.Mathlib.Omega.{arith}
use lib.Seq.{length-take-le}
use Rattle.hash.specs.Algorithm.{start_of, step_of}
use Rattle.hash.proofs.Algorithms.{step_same}
use Rattle.hash.proofs.Padding.{first_block}
use Rattle.hash.proofs.message.first.Goals as goal

pub slice_bounds-join-end : goal.slice_bounds-join-end
slice_bounds-join-end c = sym (length-take-le _ _ (search rules))

pub join-requires : goal.join-requires
join-requires c = let l = length-take-le c.args.p c.args.m.now (search rules) in (omega arith, refl)

pub returns : goal.returns
returns c =
    let a = c.args in
    let s = c.initial.ensures in
    c.compress.ensures
    ∙ rw s (first_block (step_of a.alg) (step_same a.alg) (start_of a.alg) a.head.now a.m.now _ _ a.p (search rules) (search rules) c.join.ensures)
