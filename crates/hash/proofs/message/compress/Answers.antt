use mathlib.Core.Path.{sym, ap, ◌∙◌}
use Rattle.sha256.proofs.Promises as sha-laws
use Rattle.sm3.proofs.Promises as sm-laws
use Rattle.hash.specs.Algorithm.{step_of, words_of}
use Rattle.hash.proofs.message.compress.Goals as goal

pub returns-in-Sha256 : goal.returns-in-Sha256
unfolding step_of words_of
returns-in-Sha256 c =
    let start = c in
    let a = start.args in
    let e = c.in-Sha256.is in
    rw e (c.step_at.ensures.value ∙ sym (sha-laws.block_taken a.s a.m.now a.w.now a.p start.requires.0 (start.requires.1 ∙ ap words_of e)).0)

pub returns-in-Sm3 : goal.returns-in-Sm3
unfolding step_of words_of
returns-in-Sm3 c =
    let start = c in
    let a = start.args in
    let e = c.in-Sm3.is in
    rw e (c.step_at-in-Sm3.ensures.value ∙ sym (sm-laws.block_taken a.s a.m.now a.w.now a.p start.requires.0 (start.requires.1 ∙ ap words_of e)).0)
