-- The verdicts of document 01, over any hash H: 0 where a proof is accepted, and else the number of the first refusal.
-- Assumes nothing: these are definitions.
use Rattle.std.specs.Prelude.{Bool, true, cond, not, ◌&&◌, ◌||◌, List, ℕ, ◌/◌, ◌%◌, leb, ltb, eqb, length}
use Rattle.tree.specs.Limits.{largest_size}
use Rattle.tree.specs.Count.{inclusion_count, consistency_count}
use Rattle.tree.specs.Yield.{inclusion_root, old_root, new_root}
use Rattle.octets.specs.Bytes.{same}
use Rattle.tree.specs.Joined.{nodes}

-- the order of the refusals, of a proof with two hash arguments: 5 for their lengths, 10 for a path of no whole hashes, 6 for numbers out
-- of range, 7 for another count of nodes than the definition's, 8 for a root that disagrees
unfoldable pub judged : List ℕ → List ℕ → List ℕ → Bool → ℕ → Bool → ℕ
judged one two path outside count agrees =
    cond (not (eqb (length one) 32)) 5
    (cond (not (eqb (length two) 32)) 5
    (cond (not (eqb (length path % 32) 0)) 10
    (cond outside 6
    (cond (not (eqb (length path / 32) count)) 7
    (cond (not agrees) 8 0)))))

-- a verdict's number comes before what follows it, as the refusal of any answer
unfoldable pub unless : {A : Type 0} → (ℕ → A) → ℕ → A → A
unless refuse number rest = cond (eqb number 0) rest (refuse number)

-- a size of 0 or above the largest, or a place that is not below it
unfoldable pub no_place : ℕ → ℕ → Bool
no_place place size = eqb size 0 || (ltb largest_size size || leb size place)

-- a first size of 0 or above the second, or a second above the largest
unfoldable pub no_sizes : ℕ → ℕ → Bool
no_sizes first second = eqb first 0 || (ltb largest_size second || ltb second first)

module _ (H : List ℕ → List ℕ) where
  unfoldable pub inclusion_verdict : List ℕ → ℕ → ℕ → List ℕ → List ℕ → ℕ
  inclusion_verdict leaf place size root path =
      judged leaf root path (no_place place size) (inclusion_count place size) (same (inclusion_root H place size leaf (nodes path)) root)

  -- of equal sizes the count is 0, and both roots that the empty path yields are the first
  unfoldable pub consistency_verdict : ℕ → ℕ → List ℕ → List ℕ → List ℕ → ℕ
  consistency_verdict first second root₁ root₂ path =
      judged root₁ root₂ path (no_sizes first second) (consistency_count first second)
      (same (old_root H first second true root₁ (nodes path)) root₁ && same (new_root H first second true root₁ (nodes path)) root₂)
