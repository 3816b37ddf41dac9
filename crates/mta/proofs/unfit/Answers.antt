use Rattle.mta.proofs.Outcomes.{words_block, words_schedule_lem, words_state, words_fit}
use Rattle.mta.proofs.unfit.Goals as goal

pub returns-then-block-ne64 : goal.returns-then-block-ne64
returns-then-block-ne64 c = let a = c.args in words_block a.n a.state.now a.block.now a.w.now c.if-block-ne64.true

pub returns-then-w-n : goal.returns-then-w-n
returns-then-w-n c =
    let a = c.args in words_schedule_lem a.n a.state.now a.block.now a.w.now c.if-block-ne64.false c.if-w-n.true

pub returns-then-state-ne8 : goal.returns-then-state-ne8
returns-then-state-ne8 c =
    let i = c in
    let a = i.args in
    words_state a.n a.state.now a.block.now a.w.now i.if-block-ne64.false c.if-w-n.false c.if-state-ne8.true

pub returns : goal.returns
returns c =
    let i = c in
    let a = i.args in
    words_fit a.n a.state.now a.block.now a.w.now i.if-block-ne64.false c.if-w-n.false c.if-state-ne8.false
