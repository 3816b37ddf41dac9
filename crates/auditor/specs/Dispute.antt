-- The dispute about two pages that were accepted at one place: document 01, the last paragraph of 'Carrying forward and comparing', over any hash H.
-- It is given nothing of the record. Assumes nothing: these are definitions.
use Rattle.std.specs.Prelude.{cond, List, ◌∷◌, ◌++◌, ℕ, ◌*◌, ltb, length}
use Rattle.octets.specs.Limits.{most_item}
use Rattle.hash.specs.Digest.{by_number}
use Rattle.tree.specs.Limits.{most_nodes}
use Rattle.octets.specs.Bytes.{over, same}
use Rattle.tree.specs.Verdict.{unless, inclusion_verdict}
use Rattle.carry.specs.Forward.{Forward, carry}
use Rattle.carry.specs.Compare.{Comparison, compare}
use Rattle.octets.specs.Answer.{Answer, done}
use Rattle.auditor.specs.declared.dispute.Settled.{Settled}
use Rattle.auditor.specs.declared.dispute.Settled.TheVariants.{Same, Nodes, Pages, Refused}
use Rattle.auditor.specs.Heads.{Heads, end, truncated, then}

-- the bytes of the longest inclusion path
abbrev pub longest_path : ℕ
longest_path = 32 * most_nodes

-- it refuses with a number of document 01, finds the pages the same, or hands over two strings: of nodes, or the two pages with 0x00 before each
pub data Finding : Type 0 where
  refused : ℕ → Finding
  alike : Finding
  nodes : List ℕ → List ℕ → Finding
  pages : Finding

-- what a dispute that is not refused reports: 'same', that two strings of nodes were written, or that the pages are the two strings
pub data Ruling : Type 0 where
  same_page : Ruling
  of_nodes : Ruling
  of_pages : Ruling

-- what it reports
unfoldable pub dispute_report : Finding → Answer Ruling
dispute_report (refused n) = Answer.refused n
dispute_report alike = done same_page
dispute_report (nodes s t) = done of_nodes
dispute_report pages = done of_pages

-- what each case of the code's answer reports
abbrev pub settling : Settled → Answer Ruling
settling (Refused n) = Answer.refused n
settling Same = done same_page
settling Nodes = done of_nodes
settling Pages = done of_pages

-- the pair buffer after it
unfoldable pub pair_disputed : Finding → List ℕ → List ℕ
pair_disputed (refused n) b = b
pair_disputed alike b = b
pair_disputed (nodes s t) b = over (s ++ t) b
pair_disputed pages b = b

-- a carried path is carried on; a collision ends the work
unfoldable pub onward : Forward → (List ℕ → Finding) → Finding
onward (Forward.refused n) go = refused n
onward (Forward.carried p) go = go p
onward (Forward.collision s t) go = nodes s t

-- proofs that are the same leave the page bytes to be compared
unfoldable pub settled : List ℕ → List ℕ → Comparison → Finding
settled page₁ page₂ (Comparison.refused n) = refused n
settled page₁ page₂ Comparison.equal = cond (same page₁ page₂) alike pages
settled page₁ page₂ (Comparison.collision s t) = nodes s t

module _ (H : List ℕ → List ℕ) where
  -- with the first page's path p under a size m and a root r: over each head, in order, then against the second page's path
  unfoldable pub follow : ℕ → List ℕ → List ℕ → List ℕ → ℕ → Heads → ℕ → List ℕ → List ℕ → Finding
  follow place page₁ page₂ path₂ pair end m r p = settled page₁ page₂ (compare H place m r (H (0 ∷ page₁)) p (H (0 ∷ page₂)) path₂ pair)
  follow place page₁ page₂ path₂ pair truncated m r p = refused 2
  follow place page₁ page₂ path₂ pair (then n s q hs) m r p =
      onward (carry H (H (0 ∷ page₁)) place m n r s p q longest_path pair) (follow place page₁ page₂ path₂ pair hs n s)

  -- the first page, its place and path, the size and root of the head then held, the heads accepted since, the second page and its path, and the
  -- length of the pair buffer
  unfoldable pub dispute : List ℕ → ℕ → List ℕ → ℕ → List ℕ → Heads → List ℕ → List ℕ → ℕ → Finding
  dispute page₁ place path₁ size root heads page₂ path₂ pair =
      cond (ltb most_item (length page₁)) (refused 1)
      (cond (ltb most_item (length page₂)) (refused 1)
      (unless refused (inclusion_verdict H (H (0 ∷ page₁)) place size root path₁) (follow place page₁ page₂ path₂ pair heads size root path₁)))

-- the same by the number of a hash
unfoldable pub dispute_by : ℕ → List ℕ → ℕ → List ℕ → ℕ → List ℕ → Heads → List ℕ → List ℕ → ℕ → Finding
dispute_by n page₁ place path₁ size root heads page₂ path₂ pair =
    by_number n (refused 16) (λ H. dispute H page₁ place path₁ size root heads page₂ path₂ pair)
