-- What the private functions say of each other. No public contract cites this file. Assumes nothing: these are definitions.
use Rattle.std.specs.Prelude.{◌≡◌, cond, List, ◌++◌, ℕ, ◌-◌, ◌*◌, ◌≤◌, ◌<◌, eqb, length}
use Rattle.tree.specs.Limits.{largest_size}
use Rattle.tree.specs.Count.{inclusion_count, consistency_count}
use Rattle.octets.specs.Bytes.{over}
use Rattle.tree.specs.Joined.{first_nodes, nodes_from}
use Rattle.carry.specs.declared.level.Recomputed.{Recomputed}
use Rattle.carry.specs.declared.walk.Walked.{Walked}
use Rattle.carry.specs.Strings.{string, Difference, alike, apart}

-- the topmost two strings that differ, of what was recomputed of two proofs
unfoldable pub difference_of : Recomputed → Difference
difference_of w = cond w.apart (apart (string w.a.bytes w.b.bytes) (string w.c.bytes w.d.bytes)) alike

-- a path in three pieces: the first `low` nodes of the old path, the sibling of S if `hashed` is 1, and the nodes of the proof from `high` up to q
unfoldable pub path_from : ℕ → ℕ → List ℕ → ℕ → List ℕ → List ℕ → ℕ → List (List ℕ)
path_from low hashed sibling high path proof q = first_nodes low path ++ (first_nodes hashed sibling ++ nodes_from high (q - high) proof)

-- the new path that a walk found
unfoldable pub path_as : Walked → List ℕ → List ℕ → ℕ → List (List ℕ)
path_as w path proof q = path_from w.low w.hashed w.sibling.bytes w.high path proof q

-- w is written behind the first `at` bytes of what was written over a buffer: x before, y after
abbrev pub Appends : ℕ → List ℕ → List ℕ → List ℕ → Type 0
Appends at w x y = (u o : List ℕ) → length u ≡ at → x ≡ over u o → y ≡ over (u ++ w) o

-- lengths and numbers with which neither verdict refuses with 5, 10, 6 or 7
pub record Fit (leaf place m n old new path proof : ℕ) : Type 0 where
  pub leaf_32 : leaf ≡ 32
  pub old_32 : old ≡ 32
  pub new_32 : new ≡ 32
  pub below : place < m
  pub order : m ≤ n
  pub in_range : n ≤ largest_size
  pub path_length : path ≡ 32 * inclusion_count place m
  pub proof_length : proof ≡ 32 * consistency_count m n

-- the roots that the proofs yield are the claimed ones
abbrev pub Agree : List ℕ → List ℕ → List ℕ → List ℕ → List ℕ → Type 0
Agree one two whole old new = (one ≡ old) × ((two ≡ old) × (whole ≡ new))

-- the first verdict's number, or the second's
abbrev pub either : ℕ → ℕ → ℕ
either v w = cond (eqb v 0) w v
