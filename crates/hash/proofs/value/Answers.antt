use mathlib.Core.List.{◌++◌}
use mathlib.Core.Path.{◌∙◌, ap}
use Rattle.hash.specs.Message.{state_bytes}
use Rattle.hash.specs.Digest.{hash_of}
use Rattle.hash.proofs.Refusals.{value_long, value_done}
use Rattle.hash.proofs.value.Goals as goal

pub returns-then-most-m : goal.returns-then-most-m
returns-then-most-m c = let a = c.args in let all = value_long a.most a.m.now (hash_of a.alg (a.head.now ++ a.m.now)) c.if-most-m.true in
    record {
      number_value = all.0;
      bytes_value = all.1;
    }

pub returns : goal.returns
unfolding hash_of
returns c =
    let a = c.args in
    let r = value_done a.most a.m.now (hash_of a.alg (a.head.now ++ a.m.now)) c.if-most-m.false in
    record {
      number_value = r.0;
      bytes_value = c.bytes_of.ensures ∙ ap state_bytes c.hash_of.ensures ∙ r.1;
    }
