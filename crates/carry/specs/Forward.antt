-- Carrying an inclusion proof at m leaves forward to n by a consistency path from m to n: document 01, 'Carrying forward and comparing',
-- over any hash H. Assumes nothing: these are definitions.
use Rattle.std.specs.Prelude.{false, cond, List, [], ◌∷◌, ◌++◌, ℕ, ◌+◌, ◌-◌, ◌*◌, leb, ltb, eqb, length}
use Rattle.tree.specs.Split.{Shape, one, fork, size, shape}
use Rattle.tree.specs.Tree.{node}
use Rattle.tree.specs.Count.{inclusion_count}
use Rattle.tree.specs.Yield.{init, last, inclusion_root_of, inclusion_root, consistency_root_of}
use Rattle.tree.specs.Joined.{nodes}
use Rattle.tree.specs.Verdict.{unless, inclusion_verdict, consistency_verdict}
use Rattle.octets.specs.Bytes.{over, joined}
use Rattle.octets.specs.Answer.{Answer, done}
use Rattle.carry.specs.Limits.{pair_bytes}
use Rattle.carry.specs.declared.forward.Carried.{Carried}
use Rattle.carry.specs.declared.forward.Carried.TheVariants.{Path, Collision, Refused}
use Rattle.carry.specs.Strings.{string, Difference, alike, apart, topmost}

-- a carrying refuses with a number of document 01, gives the new path, or hands over two strings
pub data Forward : Type 0 where
  refused : ℕ → Forward
  carried : List ℕ → Forward
  collision : List ℕ → List ℕ → Forward

-- what a carrying that is not refused reports: how many bytes of path were written, or that two strings were
pub data Moved : Type 0 where
  of_path : ℕ → Moved
  of_strings : Moved

-- what it reports
unfoldable pub carry_report : Forward → Answer Moved
carry_report (refused n) = Answer.refused n
carry_report (carried w) = done (of_path (length w))
carry_report (collision s t) = done of_strings

-- what each case of the code's answer reports
abbrev pub carrying : Carried → Answer Moved
carrying (Refused n) = Answer.refused n
carrying (Path n) = done (of_path n)
carrying Collision = done of_strings

-- the path buffer and the pair buffer after it: the one that is not the answer's keeps its bytes
unfoldable pub path_carried : Forward → List ℕ → List ℕ
path_carried (refused n) b = b
path_carried (carried w) b = over w b
path_carried (collision s t) b = b

unfoldable pub pair_carried : Forward → List ℕ → List ℕ
pair_carried (refused n) b = b
pair_carried (carried w) b = b
pair_carried (collision s t) b = over (s ++ t) b

unfoldable pub forwarded : Difference → List ℕ → Forward
forwarded alike w = carried w
forwarded (apart s t) w = collision s t

module _ (H : List ℕ → List ℕ) where
  -- The walk from the top of the new tree to S, the full subtree of the first m leaves that holds the place x. Its nodes p and q are those of
  -- the two paths, h is the leaf hash, and f the old root. A split at or after m leaves the old tree whole; one before m splits it too.

  -- the topmost child pairs that differ: the inclusion proof's, and the consistency path's
  unfoldable pub conflict_of : Shape → ℕ → ℕ → List ℕ → List (List ℕ) → List ℕ → List (List ℕ) → Difference
  conflict_of one m x h p f q = alike
  conflict_of (fork a b) m x h p f q =
      cond (eqb m (size a + size b)) alike
      (cond (leb m (size a)) (conflict_of a m x h p f (init q))
      (cond (ltb x (size a))
      (topmost (string (inclusion_root_of H a x h (init p)) (last p))
      (string (last q) (consistency_root_of H (λ y z. y) b (m - size a) false f (init q))) alike)
      (topmost (string (last p) (inclusion_root H (x - size a) (m - size a) h (init p)))
      (string (last q) (consistency_root_of H (λ y z. y) b (m - size a) false f (init q)))
      (conflict_of b (m - size a) (x - size a) h (init p) f (init q)))))

  unfoldable pub conflict : ℕ → ℕ → ℕ → List ℕ → List (List ℕ) → List ℕ → List (List ℕ) → Difference
  conflict m n x h p f q = conflict_of (shape n) m x h p f q

  -- the new path: the old nodes below S, then the siblings from S to the new root. That of S itself is the new root of the part beside it
  unfoldable pub forward_of : Shape → ℕ → ℕ → List (List ℕ) → List ℕ → List (List ℕ) → List (List ℕ)
  forward_of one m x p f q = p
  forward_of (fork a b) m x p f q =
      cond (eqb m (size a + size b)) p
      (cond (leb m (size a)) (forward_of a m x p f (init q) ++ (last q ∷ []))
      (cond (ltb x (size a)) (init p ++ (consistency_root_of H (node H) b (m - size a) false f (init q) ∷ []))
      (forward_of b (m - size a) (x - size a) (init p) f (init q) ++ (last q ∷ []))))

  unfoldable pub forward : ℕ → ℕ → ℕ → List (List ℕ) → List ℕ → List (List ℕ) → List (List ℕ)
  forward m n x p f q = forward_of (shape n) m x p f q

  -- an inclusion proof at m and a consistency proof from m to n, into a path buffer of `room` bytes, with a pair buffer of `pair` bytes
  unfoldable pub carry : List ℕ → ℕ → ℕ → ℕ → List ℕ → List ℕ → List ℕ → List ℕ → ℕ → ℕ → Forward
  carry leaf place m n root₁ root₂ path proof room pair =
      unless refused (inclusion_verdict H leaf place m root₁ path)
      (unless refused (consistency_verdict H m n root₁ root₂ proof)
      (cond (ltb room (32 * inclusion_count place n)) (refused 9)
      (cond (ltb pair pair_bytes) (refused 9)
      (forwarded (conflict m n place leaf (nodes path) root₁ (nodes proof)) (joined (forward m n place (nodes path) root₁ (nodes proof)))))))
