use native.Mathlib.Omega.{arith}
use borrow.Author.Rules.{rules}
use mathlib.Core.Path.{refl, ◌∙◌}
use Rattle.words.specs.Words.{word_from}
use Rattle.words.specs.Known.{course, listed}
use Rattle.words.proofs.Promises.{after_load}
use Rattle.sm3.specs.Sm3.{constant, rounds, compress}
use Rattle.sm3.proofs.Expansion.{whole}
use Rattle.sm3.proofs.compress.Goals as goal

-- the table's numbers are computed
pub run-v-requires : goal.run-v-requires
unfolding constant course listed
run-v-requires c = (search rules, refl)

pub returns : goal.returns
unfolding compress rounds
returns c =
    let a = c.args in
    let x = word_from a.m.now a.p in
    let pre = c.requires in
    let known = after_load a.m.now a.w.now _ a.p c.load.ensures pre.0 (omega (arith, pre.1)) in
    let ran = c.run-v.ensures x a.s refl (c.pair_up.ensures x known) in
    record {
      value = c.xor_state.ensures ∙ rw ran.0;
      w_after = whole _ x (search rules) ran.1;
    }
