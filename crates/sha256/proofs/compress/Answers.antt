use native.Mathlib.Omega.{arith}
use borrow.Author.Rules.{rules}
use mathlib.Core.Path.{refl, sym, ◌∙◌}
use Rattle.words.specs.Words.{word_from}
use Rattle.words.proofs.Promises.{after_load}
use Rattle.sha256.specs.Sha256.{constants, rounds, compress}
use Rattle.sha256.proofs.Schedule.{whole, word_first}
use Rattle.sha256.proofs.compress.Goals as goal

pub run-v-requires : goal.run-v-requires
unfolding constants
run-v-requires c = (search rules, refl)

pub returns : goal.returns
unfolding compress rounds
returns c =
    let a = c.args in
    let x = word_from a.m.now a.p in
    let pre = c.requires in
    let known = after_load a.m.now a.w.now _ a.p c.load.ensures pre.0 (omega (arith, pre.1)) in
    let ran = c.run-v.ensures x a.s refl (λ j l. known j l ∙ sym (word_first x j l)) in
    record {
      value = c.add_state.ensures ∙ rw ran.0;
      w_after = whole _ x (search rules) ran.1;
    }
