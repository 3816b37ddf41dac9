-- Comparing two inclusion proofs for one place, size and root: document 01, 'Carrying forward and comparing', over any hash H.
-- Assumes nothing: these are definitions.
use Rattle.std.specs.Prelude.{cond, List, ◌++◌, ℕ, ◌-◌, ltb}
use Rattle.tree.specs.Split.{Shape, one, fork, size, shape}
use Rattle.tree.specs.Yield.{init, last, inclusion_root_of}
use Rattle.tree.specs.Joined.{nodes}
use Rattle.tree.specs.Verdict.{unless, inclusion_verdict}
use Rattle.octets.specs.Bytes.{over}
use Rattle.octets.specs.Answer.{Answer, done}
use Rattle.carry.specs.Limits.{pair_bytes}
use Rattle.carry.specs.declared.compare.Compared.{Compared}
use Rattle.carry.specs.declared.compare.Compared.TheVariants.{Same, Collision, Refused}
use Rattle.carry.specs.Strings.{string, Difference, alike, apart, topmost}

-- a comparison refuses with a number of document 01, says 'same', or hands over two strings
pub data Comparison : Type 0 where
  refused : ℕ → Comparison
  equal : Comparison
  collision : List ℕ → List ℕ → Comparison

-- what a comparison that is not refused reports: 'same', or that two strings were written
pub data Likeness : Type 0 where
  same : Likeness
  of_strings : Likeness

-- what it reports
unfoldable pub compare_report : Comparison → Answer Likeness
compare_report (refused n) = Answer.refused n
compare_report equal = done same
compare_report (collision s t) = done of_strings

-- what each case of the code's answer reports
abbrev pub comparing : Compared → Answer Likeness
comparing (Refused n) = Answer.refused n
comparing Same = done same
comparing Collision = done of_strings

-- the pair buffer after it: the first proof's string first, and the bytes past the two stay
unfoldable pub pair_compared : Comparison → List ℕ → List ℕ
pair_compared (refused n) b = b
pair_compared equal b = b
pair_compared (collision s t) b = over (s ++ t) b

unfoldable pub found : Difference → Comparison
found alike = equal
found (apart s t) = collision s t

module _ (H : List ℕ → List ℕ) where
  -- from the top: the topmost child pairs of the leaf hashes h and g at place m, by the paths p and q, that differ
  unfoldable pub differ_of : Shape → ℕ → List ℕ → List (List ℕ) → List ℕ → List (List ℕ) → Difference
  differ_of one m h p g q = alike
  differ_of (fork a b) m h p g q =
      cond (ltb m (size a))
      (topmost (string (inclusion_root_of H a m h (init p)) (last p)) (string (inclusion_root_of H a m g (init q)) (last q))
      (differ_of a m h (init p) g (init q)))
      (topmost (string (last p) (inclusion_root_of H b (m - size a) h (init p))) (string (last q) (inclusion_root_of H b (m - size a) g (init q)))
      (differ_of b (m - size a) h (init p) g (init q)))

  unfoldable pub differ : ℕ → ℕ → List ℕ → List (List ℕ) → List ℕ → List (List ℕ) → Difference
  differ m n h p g q = differ_of (shape n) m h p g q

  -- two proofs, with a pair buffer of `pair` bytes
  unfoldable pub compare : ℕ → ℕ → List ℕ → List ℕ → List ℕ → List ℕ → List ℕ → ℕ → Comparison
  compare place size root leaf₁ path₁ leaf₂ path₂ pair =
      unless refused (inclusion_verdict H leaf₁ place size root path₁)
      (unless refused (inclusion_verdict H leaf₂ place size root path₂)
      (cond (ltb pair pair_bytes) (refused 9)
      (found (differ place size leaf₁ (nodes path₁) leaf₂ (nodes path₂)))))
