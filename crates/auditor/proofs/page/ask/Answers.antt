-- `auditor::page::ask` meets its contract. Assumes nothing.
use mathlib.Core.Path.{sym, ap, ◌∙◌}
use Prim.Native.Nat.{ℕ}
use Rattle.hash.proofs.Algorithms.{named_known, named_none}
use Rattle.auditor.specs.Held.{stayed}
use Rattle.auditor.specs.Page.{asked}
use Rattle.auditor.proofs.page.ask.Goals as goal

pub returns-in-By : goal.returns-in-By
unfolding asked
returns-in-By c =
    let named = c in
    let r = named.args.r in
    c.unchanged.ensures ∙ ap (λ (n : ℕ). stayed n r) c.number.ensures ∙ named_known _ _ _ _ (sym named.in-By.is ∙ named.chosen-named.ensures)

pub returns-in-Unknown : goal.returns-in-Unknown
unfolding asked
returns-in-Unknown c = let told = c in c.unchanged-in-Unknown.ensures ∙ named_none _ _ _ (sym told.in-Unknown.is ∙ told.chosen-named.ensures)
