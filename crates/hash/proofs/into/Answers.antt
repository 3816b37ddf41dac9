use mathlib.Core.List.{◌++◌}
use mathlib.Core.Path.{◌∙◌, ap}
use lib.ListN.{drop}
use Rattle.words.specs.declared.State.{State}
use Rattle.hash.specs.Message.{state_bytes}
use Rattle.hash.specs.Digest.{hash_of}
use Rattle.hash.proofs.Refusals.{into_long, into_short, into_done}
use Rattle.hash.proofs.into.Goals as goal

pub returns-then-most-input : goal.returns-then-most-input
returns-then-most-input c = let a = c.args in let all = into_long a.most a.input.now (hash_of a.alg (a.head.now ++ a.input.now)) a.out.now c.if-most-input.true in
    record {
      value = all.0;
      out_after = all.1;
    }

pub returns-then-out-lt32 : goal.returns-then-out-lt32
returns-then-out-lt32 c = let a = c.args in let all = into_short a.most a.input.now (hash_of a.alg (a.head.now ++ a.input.now)) a.out.now c.if-most-input.false c.if-out-lt32.true in
    record {
      value = all.0;
      out_after = all.1;
    }

pub returns : goal.returns
unfolding hash_of
returns c =
    let a = c.args in
    let o = a.out.now in
    let r = into_done a.most a.input.now (hash_of a.alg (a.head.now ++ a.input.now)) o c.if-most-input.false c.if-out-lt32.false in
    record {
      value = r.0;
      out_after = c.put_state.ensures ∙ ap (λ (s : State). state_bytes s ++ drop 32 o) c.hash_of.ensures ∙ r.1;
    }
