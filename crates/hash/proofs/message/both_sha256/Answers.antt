use borrow.Author.Rules.{rules}
use mathlib.Core.Path.{refl}
use Rattle.sha256.specs.Sha256.{compress, schedule}
use Rattle.hash.specs.Algorithm.{start_of, step_of}
use Rattle.hash.proofs.Algorithms.{both_taken}
use Rattle.hash.proofs.message.both_sha256.Goals as goal

pub returns : goal.returns
unfolding start_of step_of
returns c =
    let one = c in
    let i = one in
    let m = i.args.a.now in
    rw (← i.initial.ensures)
    (both_taken 64 compress schedule _ _ _ m _ _ (search rules) refl one.step_at-t.auto.w one.step_at-t.ensures.value c.step_at.ensures.value)
