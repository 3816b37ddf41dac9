-- `auditor::head::is_stale` meets its contract: one law for each return. Assumes nothing.
use mathlib.Core.Path.{sym, ◌∙◌}
use native.Mathlib.Omega.{arith}
use Rattle.auditor.proofs.Offering.{as_earlier, another, by_root}
use Rattle.auditor.proofs.head.is_stale.Goals as goal

pub returns-then-timestamp-r : goal.returns-then-timestamp-r
returns-then-timestamp-r c = sym (as_earlier _ _ _ _ _ _ (λ q. absurd (omega arith)))

pub returns-then-size-r : goal.returns-then-size-r
returns-then-size-r c = sym (another _ _ _ _ _ _ (omega arith) (λ h. omega (arith, h.0)))

pub returns : goal.returns
returns c = c.other_root.ensures ∙ by_root _ _ _ _ _ _ (omega arith) (omega arith)
