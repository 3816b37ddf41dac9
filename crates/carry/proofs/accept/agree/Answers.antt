-- `carry::accept::agree` meets its contract. Assumes nothing.
use mathlib.Core.Path.{sym, ◌∙◌}
use mathlib.Core.Bool.{false≢true}
use Rattle.octets.proofs.Sameness.{same_true, same_of}
use Rattle.carry.proofs.accept.agree.Goals as goal

pub returns-then-not-equals : goal.returns-then-not-equals
returns-then-not-equals c = (λ e. absurd (false≢true e), λ f. sym (c.if-not-equals.true) ∙ c.equals.ensures ∙ same_of _ _ f.0)

pub returns-then-not-equals-2 : goal.returns-then-not-equals-2
returns-then-not-equals-2 c = (λ e. absurd (false≢true e), λ f. sym (c.if-not-equals-2.true) ∙ c.equals-2.ensures ∙ same_of _ _ f.1.0)

pub returns : goal.returns
returns c =
    let one = c.equals in
    let two = c.equals-2 in (
      λ e. (same_true _ _ (sym one.ensures ∙ c.if-not-equals.false), (same_true _ _ (sym two.ensures ∙ c.if-not-equals-2.false), same_true _ _ (sym c.equals-3.ensures ∙ e))),
      λ f. c.equals-3.ensures ∙ same_of _ _ f.1.1,
    )
