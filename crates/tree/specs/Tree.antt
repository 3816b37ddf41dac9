-- The Merkle tree of RFC 9162, section 2.1, over any hash H. Each definition follows the shape of the list; specs/Equations.antt has
-- the RFC's own equations, which are proved of them. Assumes nothing: these are definitions.
--
-- The RFC's tree of seven leaves (section 2.1.5) by the names of its nodes: the leaf hashes are a b c d e f j.
--
--                 root = kl
--              /             \
--          k = gh            l = ij
--         /      \          /      \
--      g = ab  h = cd    i = ef     j
--       / \     / \       / \
--      a   b   c   d     e   f
use Rattle.std.specs.Prelude.{Bool, true, false, cond, List, [], ◌∷◌, ◌++◌, map, ℕ, ◌+◌, ◌-◌, leb, ltb, eqb, length, take, drop, get_or}
use Rattle.tree.specs.Split.{Shape, one, fork, size, shape}

module _ (H : List ℕ → List ℕ) where
  -- the hash of a leaf over its input, and of a node over its two parts (section 2.1.1)
  unfoldable pub leaf : List ℕ → List ℕ
  leaf d = H (0 ∷ d)

  unfoldable pub node : List ℕ → List ℕ → List ℕ
  node l r = H (1 ∷ (l ++ r))

  -- the root of leaf hashes
  unfoldable pub root_of : Shape → List (List ℕ) → List ℕ
  root_of one l = get_or l 0 []
  root_of (fork a b) l = node (root_of a (take (size a) l)) (root_of b (drop (size a) l))

  unfoldable pub root : List (List ℕ) → List ℕ
  root [] = H []
  root (h ∷ l) = root_of (shape (length (h ∷ l))) (h ∷ l)

  -- MTH of the inputs themselves
  unfoldable pub mth : List (List ℕ) → List ℕ
  mth ds = root (map leaf ds)

  -- PATH(m, l), section 2.1.3.1
  unfoldable pub path_of : Shape → ℕ → List (List ℕ) → List (List ℕ)
  path_of one m l = []
  path_of (fork a b) m l =
      cond (ltb m (size a)) (path_of a m (take (size a) l) ++ (root_of b (drop (size a) l) ∷ []))
      (path_of b (m - size a) (drop (size a) l) ++ (root_of a (take (size a) l) ∷ []))

  unfoldable pub path : ℕ → List (List ℕ) → List (List ℕ)
  path m l = path_of (shape (length l)) m l

  -- SUBPROOF(m, l, known), section 2.1.4.1
  unfoldable pub subproof_of : Shape → ℕ → List (List ℕ) → Bool → List (List ℕ)
  subproof_of one m l known = cond known [] (root_of one l ∷ [])
  subproof_of (fork a b) m l known =
      cond (eqb m (size a + size b)) (cond known [] (root_of (fork a b) l ∷ []))
      (cond (leb m (size a)) (subproof_of a m (take (size a) l) known ++ (root_of b (drop (size a) l) ∷ []))
      (subproof_of b (m - size a) (drop (size a) l) false ++ (root_of a (take (size a) l) ∷ [])))

  unfoldable pub subproof : ℕ → List (List ℕ) → Bool → List (List ℕ)
  subproof m l known = subproof_of (shape (length l)) m l known

  -- PROOF(m, l)
  unfoldable pub consistency : ℕ → List (List ℕ) → List (List ℕ)
  consistency m l = subproof m l true
