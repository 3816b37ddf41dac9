use native.Mathlib.Omega.{arith}
use Rattle.words.proofs.Promises.{step_by, step_5, step_9}
use Rattle.sm3.specs.Sm3.{compress, schedule}
use Rattle.sm3.proofs.step.Goals as goal

pub returns-then-m-ne64 : goal.returns-then-m-ne64
returns-then-m-ne64 c = let a = c.args in let all = step_5 132 compress schedule a.s a.m.now a.w.now (λ e. omega (arith, c.if-m-ne64.true, e)) in
    record {
      result_value = all.0;
      w_after = all.1;
    }

pub returns-then-w-ne132 : goal.returns-then-w-ne132
returns-then-w-ne132 c =
    let a = c.args in let all = step_9 132 compress schedule a.s a.m.now a.w.now (omega (arith, c.if-m-ne64.false)) (λ e. omega (arith, c.if-w-ne132.true, e)) in
    record {
      result_value = all.0;
      w_after = all.1;
    }

pub returns : goal.returns
returns c =
    let a = c.args in
    let h = c.if-m-ne64.false in
    let k = c.if-w-ne132.false in
    let r = c.step_at.ensures in let all = step_by 132 compress schedule a.s _ a.m.now a.w.now _ (omega (arith, h)) (omega (arith, k)) r.value r.w_after in
    record {
      result_value = all.0;
      w_after = all.1;
    }
