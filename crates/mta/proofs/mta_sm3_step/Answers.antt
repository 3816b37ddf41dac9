use Prim.Native.Nat.{ℕ}
use mathlib.Core.Path.{◌≡◌, sym, ◌∙◌}
use Rattle.sm3.specs.Sm3.{compress, schedule}
use Rattle.mta.specs.Slices.{words_number}
use Rattle.mta.proofs.Outcomes.{words_met, words_refused, words_done}
use Rattle.mta.proofs.mta_sm3_step.Goals.{Else-number-ne0}
use Rattle.mta.proofs.mta_sm3_step.Goals as goal

-- from the test back to the entry
-- what is not refused fits
fits : (i : Else-number-ne0) → let a = i.args in ◌≡◌ {A = ℕ} 0 (words_number 132 a.state.now a.block.now a.w.now)
fits i = sym i.if-number-ne0.false ∙ i.unfit-number.ensures

pub returns-then-number-ne0 : goal.returns-then-number-ne0
returns-then-number-ne0 c =
    let a = c.args in
    let e = c.unfit-number.ensures in
    let r = words_refused 132 compress schedule a.state.now a.block.now a.w.now _ e c.if-number-ne0.true in
    record {
      value = e;
      state_after = r.0;
      w_after = r.1;
    }

pub words_in-s-requires : goal.words_in-s-requires
words_in-s-requires c =
    let i = c in
    let a = i.args in
    (words_met 132 a.state.now a.block.now a.w.now (fits (goal.at.words_in-s-requires c).Else-number-ne0)).1.1

pub put_words-requires : goal.put_words-requires
put_words-requires c =
    let i = c in
    let a = i.args in
    (words_met 132 a.state.now a.block.now a.w.now (fits (goal.at.put_words-requires c).Else-number-ne0)).1.1

pub returns : goal.returns
returns c =
    let step = c in
    let i = step in
    let a = i.args in
    let d = words_done 132 compress schedule a.state.now a.block.now a.w.now _ _ _ (fits (goal.at.returns c).Else-number-ne0)
    step.words_in-s.ensures step.step_at.ensures.value step.step_at.ensures.w_after in
    record {
      value = fits (goal.at.returns c).Else-number-ne0;
      state_after = c.put_words.ensures ∙ d.0;
      w_after = d.1;
    }
