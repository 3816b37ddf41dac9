-- Asking for a page: document 01, 'Auditor', over any hash H. Assumes nothing: these are definitions.
use Rattle.std.specs.Prelude.{cond, List, ◌∷◌, ℕ, ltb, length}
use Rattle.hash.specs.Digest.{by_named}
use Rattle.octets.specs.Limits.{most_item}
use Rattle.tree.specs.Verdict.{inclusion_verdict}
use Rattle.auditor.specs.declared.Record.{Record}
use Rattle.auditor.specs.declared.Answered.{Answered}
use Rattle.auditor.specs.Held.{Held, empty, head, view, stayed, choice}

-- 0 where the page is accepted, and else the number of the first refusal
unfoldable pub page_number : (List ℕ → List ℕ) → Held → ℕ → List ℕ → List ℕ → ℕ
page_number H empty place page path = 14
page_number H (head id time size root) place page path =
    cond (ltb most_item (length page)) 1 (inclusion_verdict H (H (0 ∷ page)) place size root path)

-- what the code answers by a number: the record stays
unfoldable pub asked : ℕ → Record → ℕ → List ℕ → List ℕ → Answered
asked n r place page path = by_named (choice r n) (stayed 16 r) (λ H. stayed (page_number H (view r) place page path) r)
