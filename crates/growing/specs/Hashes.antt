-- The hashes of a growing tree, over any hash H. The hash at index i stands for 2 ^ i leaves and counts where bit i of the count of leaves is one: it is
-- then the root of a full subtree. Each definition goes from level to level, with the count halved, and takes any hashes and any count.
-- Assumes nothing: these are definitions.
use Rattle.std.specs.Prelude.{cond, List, [], ◌∷◌, ◌++◌, ℕ, ◌+◌, ◌/◌, ◌%◌, eqb, replicate}
use Rattle.hash.specs.declared.Digest.{Digest}
use Rattle.tree.specs.Tree.{node}
use Rattle.tree.specs.Joined.{no_hash}
use Rattle.tree.specs.Full.{together}
use Rattle.growing.specs.declared.Growing.{Growing}
use Rattle.growing.specs.Limits.{most_hashes}

-- a hash by value, and 32 zeros, which stand where nothing counts
abbrev pub digest : List ℕ → Digest
digest h = record { bytes = h }

abbrev pub nothing : Digest
nothing = digest no_hash

-- no leaves, by the hash that has a number
abbrev pub fresh : ℕ → Growing
fresh n = record { algorithm = n; hashes = replicate most_hashes nothing; count = 0 }

-- the hashes that count, that of the largest subtree first
unfoldable pub counting : List Digest → ℕ → List (List ℕ)
counting [] n = []
counting (h ∷ s) n = cond (eqb (n % 2) 0) (counting s (n / 2)) (counting s (n / 2) ++ (h.bytes ∷ []))

module _ (H : List ℕ → List ℕ) where
  -- the node over two hashes
  abbrev pub parent : Digest → Digest → Digest
  parent a b = digest (node H a.bytes b.bytes)

  -- n hashes stand for the leaves at this level, and x comes after them. Where n is even, x waits here; else the last of them was waiting here, and the two
  -- go up as one
  unfoldable pub merged : List Digest → ℕ → Digest → List Digest
  merged [] n x = []
  merged (h ∷ s) n x = cond (eqb (n % 2) 0) (x ∷ s) (nothing ∷ merged s (n / 2) (parent h x))

  -- a growing tree with one more leaf hash, with more of them, and its root
  unfoldable pub with_leaf : Growing → Digest → Growing
  with_leaf g x = record { algorithm = g.algorithm; hashes = merged g.hashes g.count x; count = g.count + 1 }

  unfoldable pub with_leaves : Growing → List (List ℕ) → Growing
  with_leaves g [] = g
  with_leaves g (x ∷ l) = with_leaves (with_leaf g (digest x)) l

  unfoldable pub root_now : Growing → List ℕ
  root_now g = together H (counting g.hashes g.count)
