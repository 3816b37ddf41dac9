use Rattle.std.proofs.Common.{◌≡◌, refl, ◌∙◌, arith, length-set, rules}
use Rattle.words.specs.Words.{word_from}
use Rattle.words.specs.Known.{course, listed}
use Rattle.words.proofs.Growing.{listed_over}
use Rattle.words.proofs.Promises.{load_done, load_short, load_narrow}
use Rattle.words.proofs.load.Goals as goal

pub returns-then-m-lt64 : goal.returns-then-m-lt64
returns-then-m-lt64 c = let a = c.args in load_short a.m.now a.w.now a.p (omega arith)

pub returns-then-m-p : goal.returns-then-m-p
returns-then-m-p c = let a = c.args in load_short a.m.now a.w.now a.p (omega arith)

pub returns-then-w-lt16 : goal.returns-then-w-lt16
returns-then-w-lt16 c = let a = c.args in load_narrow a.m.now a.w.now a.p (omega arith) (omega arith)

pub loop-t-init : goal.loop-t-init
unfolding listed course
loop-t-init c = (search rules, omega arith, search rules, search rules, refl)

pub loop-t-preserved : goal.loop-t-preserved
loop-t-preserved c =
    let l = c.loop-t in
    let a = c.args in (
      search rules,
      l.invariant.1,
      l.invariant.2,
      simp length-set l.invariant.3,
      rw l.invariant.4 (listed_over (word_from a.m.now a.p) a.w.now l.t _ (omega (arith, l.invariant.2)) c.big_endian.ensures),
    )

pub returns : goal.returns
returns c =
    let l = c.loop-t in
    let a = c.args in
    let e : l.t ≡ 16 = omega arith in
    rw e at l.invariant.4 ∙ load_done a.m.now a.w.now a.p l.invariant.1 l.invariant.2
