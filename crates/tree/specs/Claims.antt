-- What is claimed of the definitions, over any hash H: proved in proofs/Counting, Digits, Building, Accepting and Full, promised in the source by `claims`.
-- Assumes nothing: these are statements.
use Rattle.std.specs.Prelude.{◌≡◌, ◌↔◌, true, List, [], ℕ, ◌+◌, ◌*◌, ◌/◌, ◌^◌, ◌≤◌, ◌<◌, length, take, drop, get_or}
use Rattle.std.specs.Int.Count.{ones}
use Rattle.tree.specs.Limits.{largest_size, most_nodes}
use Rattle.tree.specs.Count.{inclusion_count, consistency_count}
use Rattle.tree.specs.Tree.{root, path, consistency}
use Rattle.tree.specs.Yield.{inclusion_root, old_root, new_root}
use Rattle.tree.specs.Joined.{nodes, node_at}
use Rattle.tree.specs.Verdict.{inclusion_verdict, consistency_verdict}
use Rattle.tree.specs.Build.{wrote, inclusion_built, consistency_built}
use Rattle.tree.specs.Full.{full_roots, together, level}

-- of every hash, and of every hash of 32 bytes
abbrev pub OfEvery : ((List ℕ → List ℕ) → Type 0) → Type 0
OfEvery Claim = (H : List ℕ → List ℕ) → Claim H

abbrev pub OfEvery32 : ((List ℕ → List ℕ) → Type 0) → Type 0
OfEvery32 Claim = (H : List ℕ → List ℕ) → ((s : List ℕ) → length (H s) ≡ 32) → Claim H

-- a path has at most k nodes where there are at most 2 ^ k leaves, a consistency path at most one more
pub record Bounds : Type 0 where
  pub inclusion : (k m n : ℕ) → m < n → n ≤ 2 ^ k → inclusion_count m n ≤ k
  pub consistency : (k m n : ℕ) → 0 < m → m ≤ n → n ≤ 2 ^ k → consistency_count m n ≤ k + 1
  pub inclusion_largest : (m n : ℕ) → m < n → n ≤ largest_size → inclusion_count m n ≤ most_nodes
  pub consistency_largest : (m n : ℕ) → 0 < m → m ≤ n → n ≤ largest_size → consistency_count m n ≤ most_nodes + 1

-- the largest size is that of 64 bits, and there the bounds are reached
pub record Reached : Type 0 where
  pub whole : (n : ℕ) → (n ≤ largest_size) ↔ (n < 2 ^ 64)
  pub inclusion : inclusion_count 0 largest_size ≡ most_nodes
  pub consistency : consistency_count 3 largest_size ≡ most_nodes + 1

module _ (H : List ℕ → List ℕ) where
  -- the definition's paths have the counted nodes
  pub record Counts : Type 0 where
    pub inclusion : (m : ℕ) (l : List (List ℕ)) → length (path H m l) ≡ inclusion_count m (length l)
    pub consistency : (m : ℕ) (l : List (List ℕ)) → length (consistency H m l) ≡ consistency_count m (length l)

  -- what the path builders build, the verdicts accept
  pub record Complete : Type 0 where
    pub inclusion :
        (leaves w : List ℕ) (place room : ℕ) → inclusion_built H leaves place room ≡ wrote w →
        inclusion_verdict H (node_at place leaves) place (length leaves / 32) (root H (nodes leaves)) w ≡ 0
    pub consistency :
        (leaves w : List ℕ) (first room : ℕ) → consistency_built H leaves first room ≡ wrote w →
        consistency_verdict H first (length leaves / 32) (root H (take first (nodes leaves))) (root H (nodes leaves)) w ≡ 0

  -- an inclusion proof: numbers in range, the counted nodes, and the definition yields the claimed root
  pub record Inclusion (leaf : List ℕ) (place size : ℕ) (claimed path : List ℕ) : Type 0 where
    pub leaf_32 : length leaf ≡ 32
    pub root_32 : length claimed ≡ 32
    pub below : place < size
    pub in_range : size ≤ largest_size
    pub counted : length path ≡ 32 * inclusion_count place size
    pub yields : inclusion_root H place size leaf (nodes path) ≡ claimed

  -- a consistency proof: the definition yields both claimed roots
  pub record Consistency (first second : ℕ) (claimed₁ claimed₂ path : List ℕ) : Type 0 where
    pub first_32 : length claimed₁ ≡ 32
    pub second_32 : length claimed₂ ≡ 32
    pub some : 0 < first
    pub order : first ≤ second
    pub in_range : second ≤ largest_size
    pub counted : length path ≡ 32 * consistency_count first second
    pub yields_first : old_root H first second true claimed₁ (nodes path) ≡ claimed₁
    pub yields_second : new_root H first second true claimed₁ (nodes path) ≡ claimed₂

  -- demand 2: the verdicts accept exactly these
  pub record Accepts : Type 0 where
    pub inclusion :
        (leaf : List ℕ) (place size : ℕ) (claimed path : List ℕ) →
        (inclusion_verdict H leaf place size claimed path ≡ 0) ↔ Inclusion leaf place size claimed path
    pub consistency :
        (first second : ℕ) (claimed₁ claimed₂ path : List ℕ) →
        (consistency_verdict H first second claimed₁ claimed₂ path ≡ 0) ↔ Consistency first second claimed₁ claimed₂ path

  -- equal sizes, document 01's own rule: accepted exactly with an empty path and equal roots
  pub record Equal : Type 0 where
    pub sizes :
        (n : ℕ) (claimed₁ claimed₂ path : List ℕ) → 0 < n → n ≤ largest_size → length claimed₁ ≡ 32 →
        (consistency_verdict H n n claimed₁ claimed₂ path ≡ 0) ↔ ((path ≡ []) × (claimed₁ ≡ claimed₂))

  -- a tree of n leaves is one full subtree for each one-bit of n, and together these yield its root; each level keeps it, and a hash of level i is the root
  -- of its 2 ^ i leaves, or of those that are left of them
  pub record FullSubtrees : Type 0 where
    pub one_bits : (l : List (List ℕ)) → length (full_roots H l) ≡ ones (length l)
    pub yields : (l : List (List ℕ)) → together H (full_roots H l) ≡ root H l
    pub kept : (i : ℕ) (l : List (List ℕ)) → root H (level H i l) ≡ root H l
    pub at : (i x : ℕ) (l : List (List ℕ)) → x < length (level H i l) → get_or (level H i l) x [] ≡ root H (take (2 ^ i) (drop (2 ^ i * x) l))
