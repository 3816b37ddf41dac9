-- The full subtrees of a list of leaf hashes, and the levels of its tree, over any hash H: what trees that grow, and builders that keep nodes, go by.
-- specs/Claims.antt says how they make up the tree of RFC 9162, section 2.1.1. Assumes nothing: these are definitions.
use Rattle.std.specs.Prelude.{cond, List, [], ◌∷◌, ℕ, zero, suc, eqb, length, take, drop}
use Rattle.tree.specs.Split.{Shape, one, fork, size, shape}
use Rattle.tree.specs.Tree.{node, root_of}

module _ (H : List ℕ → List ℕ) where
  -- the roots of the full subtrees, the largest first: a tree whose parts have one size is full, as its first part always is
  unfoldable pub full_roots_of : Shape → List (List ℕ) → List (List ℕ)
  full_roots_of one l = root_of H one l ∷ []
  full_roots_of (fork a b) l =
      cond (eqb (size a) (size b)) (root_of H (fork a b) l ∷ []) (root_of H a (take (size a) l) ∷ full_roots_of b (drop (size a) l))

  unfoldable pub full_roots : List (List ℕ) → List (List ℕ)
  full_roots [] = []
  full_roots (h ∷ l) = full_roots_of (shape (length (h ∷ l))) (h ∷ l)

  -- the root of a tree by the roots of its full subtrees: each node's first part is a full subtree
  unfoldable pub together : List (List ℕ) → List ℕ
  together [] = H []
  together (r ∷ []) = r
  together (r ∷ (s ∷ l)) = node H r (together (s ∷ l))

  -- each two hashes joined to one, an odd last one as it is; and the hashes i levels up
  unfoldable pub pairs : List (List ℕ) → List (List ℕ)
  pairs [] = []
  pairs (a ∷ []) = a ∷ []
  pairs (a ∷ (b ∷ l)) = node H a b ∷ pairs l

  unfoldable pub level : ℕ → List (List ℕ) → List (List ℕ)
  level zero l = l
  level (suc i) l = level i (pairs l)
