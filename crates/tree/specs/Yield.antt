-- The roots that paths yield, over any hash H: the definitions of the tree are followed, with the leaf hash and the given nodes standing
-- for the roots of the parts in whose place they come. Assumes nothing: these are definitions.
use Rattle.std.specs.Prelude.{Bool, false, cond, ◌||◌, List, [], ℕ, ◌+◌, ◌-◌, ◌/◌, leb, ltb, eqb, length, take, get_or}
use Rattle.tree.specs.Split.{Shape, one, fork, size, shape}
use Rattle.tree.specs.Tree.{node}
use Rattle.tree.specs.Count.{inclusion_count, subproof_count}
use Rattle.tree.specs.Joined.{first_nodes}

-- all but the last node of a path, and the last
unfoldable pub init : List (List ℕ) → List (List ℕ)
init p = take (length p - 1) p

unfoldable pub last : List (List ℕ) → List ℕ
last p = get_or p (length p - 1) []

-- where a buffer s yields no roots of m and n: a first size of 0 or above the second, or fewer hashes than the definition counts
unfoldable pub unyielding : ℕ → ℕ → Bool → List ℕ → Bool
unyielding m n known s = eqb m 0 || (ltb n m || ltb (length s / 32) (subproof_count m n known))

module _ (H : List ℕ → List ℕ) where
  -- the root that a path p yields for the leaf hash h at place m
  unfoldable pub inclusion_root_of : Shape → ℕ → List ℕ → List (List ℕ) → List ℕ
  inclusion_root_of one m h p = h
  inclusion_root_of (fork a b) m h p =
      cond (ltb m (size a)) (node H (inclusion_root_of a m h (init p)) (last p)) (node H (last p) (inclusion_root_of b (m - size a) h (init p)))

  unfoldable pub inclusion_root : ℕ → ℕ → List ℕ → List (List ℕ) → List ℕ
  inclusion_root m n h p = inclusion_root_of (shape n) m h p

  -- a root that a consistency path p from m yields. Where the first m leaves are known, their root f stands for them, as it does where m
  -- is a power of two. `with_later x y` is what x, the root of the part that holds them, becomes with y, the root of a part of later leaves,
  -- to its right
  unfoldable pub consistency_root_of : (List ℕ → List ℕ → List ℕ) → Shape → ℕ → Bool → List ℕ → List (List ℕ) → List ℕ
  consistency_root_of with_later one m known f p = cond known f (last p)
  consistency_root_of with_later (fork a b) m known f p =
      cond (eqb m (size a + size b)) (cond known f (last p))
      (cond (leb m (size a)) (with_later (consistency_root_of with_later a m known f (init p)) (last p))
      (node H (last p) (consistency_root_of with_later b (m - size a) false f (init p))))

  -- the root of the first m leaves: the later ones stay out
  unfoldable pub old_root : ℕ → ℕ → Bool → List ℕ → List (List ℕ) → List ℕ
  old_root m n known f p = consistency_root_of (λ x y. x) (shape n) m known f p

  -- the root of all n
  unfoldable pub new_root : ℕ → ℕ → Bool → List ℕ → List (List ℕ) → List ℕ
  new_root m n known f p = consistency_root_of (node H) (shape n) m known f p

  -- The same for any numbers and any buffer s, of its first hashes, as many as the definition counts. The hash that stands for the known
  -- leaves is the answer where s joins fewer; and, of a consistency path, where m is 0 or above n
  unfoldable pub yielded_root : ℕ → ℕ → List ℕ → List ℕ → List ℕ
  yielded_root m n h s = cond (ltb (length s / 32) (inclusion_count m n)) h (inclusion_root m n h (first_nodes (inclusion_count m n) s))

  unfoldable pub yielded_old : ℕ → ℕ → Bool → List ℕ → List ℕ → List ℕ
  yielded_old m n known f s = cond (unyielding m n known s) f (old_root m n known f (first_nodes (subproof_count m n known) s))

  unfoldable pub yielded_new : ℕ → ℕ → Bool → List ℕ → List ℕ → List ℕ
  yielded_new m n known f s = cond (unyielding m n known s) f (new_root m n known f (first_nodes (subproof_count m n known) s))
