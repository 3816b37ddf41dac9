use mathlib.Core.Path.{◌∙◌}
use native.Mathlib.Omega.{arith}
use Rattle.words.proofs.Promises.{block_taken, block_short, block_unscheduled}
use Rattle.sha256.specs.Sha256.{compress, schedule}
use Rattle.sha256.proofs.step_at.Goals as goal

pub returns-then-m-lt64 : goal.returns-then-m-lt64
returns-then-m-lt64 c = let a = c.args in let all = block_short 64 compress schedule a.s a.m.now a.w.now a.p (omega arith) in
    record {
      value = all.0;
      w_after = all.1;
    }

pub returns-then-m-p : goal.returns-then-m-p
returns-then-m-p c = let a = c.args in let all = block_short 64 compress schedule a.s a.m.now a.w.now a.p (omega arith) in
    record {
      value = all.0;
      w_after = all.1;
    }

pub returns-then-words-ne64 : goal.returns-then-words-ne64
returns-then-words-ne64 c = let a = c.args in let all = block_unscheduled 64 compress schedule a.s a.m.now a.w.now a.p (omega arith) c.if-words-ne64.true in
    record {
      value = all.0;
      w_after = all.1;
    }

pub returns : goal.returns
returns c =
    let a = c.args in
    let r = c.compress.ensures in
    let t = block_taken 64 compress schedule a.s a.m.now a.w.now a.p (omega arith) c.if-words-ne64.false in
    record {
      value = r.value ∙ t.0;
      w_after = r.w_after ∙ t.1;
    }
