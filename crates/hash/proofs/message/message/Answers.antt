use mathlib.Core.Path.{refl, ◌∙◌}
use Rattle.hash.specs.Algorithm.{start_of, step_of}
use Rattle.hash.proofs.Algorithms.{step_same}
use Rattle.hash.proofs.Padding.{short_ends}
use Rattle.hash.proofs.message.message.Goals as goal

pub returns-then-n-lt120 : goal.returns-then-n-lt120
returns-then-n-lt120 c =
    let a = c.args in
    let s = c.initial.ensures in
    c.finish.ensures ∙ rw s (short_ends (step_of a.alg) (step_same a.alg) (start_of a.alg) a.head.now a.m.now _ refl)

pub returns : goal.returns
returns c = c.long.ensures
