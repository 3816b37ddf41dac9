use mathlib.Core.Path.{◌∙◌}
use native.Mathlib.Omega.{arith}
use Rattle.words.proofs.Promises.{block_taken, block_short, block_unscheduled}
use Rattle.sm3.specs.Sm3.{compress, schedule}
use Rattle.sm3.proofs.step_at.Goals as goal

pub returns-then-m-lt64 : goal.returns-then-m-lt64
returns-then-m-lt64 c = let a = c.args in let all = block_short 132 compress schedule a.s a.m.now a.w.now a.p (omega arith) in
    record {
      value = all.0;
      w_after = all.1;
    }

pub returns-then-m-p : goal.returns-then-m-p
returns-then-m-p c = let a = c.args in let all = block_short 132 compress schedule a.s a.m.now a.w.now a.p (omega arith) in
    record {
      value = all.0;
      w_after = all.1;
    }

pub returns-then-words-ne132 : goal.returns-then-words-ne132
returns-then-words-ne132 c = let a = c.args in let all = block_unscheduled 132 compress schedule a.s a.m.now a.w.now a.p (omega arith) c.if-words-ne132.true in
    record {
      value = all.0;
      w_after = all.1;
    }

pub returns : goal.returns
returns c =
    let a = c.args in
    let r = c.compress.ensures in
    let t = block_taken 132 compress schedule a.s a.m.now a.w.now a.p (omega arith) c.if-words-ne132.false in
    record {
      value = r.value ∙ t.0;
      w_after = r.w_after ∙ t.1;
    }
