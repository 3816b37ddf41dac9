-- What is claimed of carrying, on bytes and over any hash H: proved in proofs/Carrying.antt and Honest.antt. Assumes nothing: these are
-- statements.
use Rattle.std.specs.Prelude.{◌≡◌, ◌⊎◌, ◌↔◌, List, ℕ, ◌*◌, ◌/◌, ◌≤◌, length, take}
use Rattle.tree.specs.Count.{inclusion_count}
use Rattle.tree.specs.Tree.{root}
use Rattle.tree.specs.Joined.{nodes, node_at}
use Rattle.tree.specs.Verdict.{inclusion_verdict, consistency_verdict}
use Rattle.tree.specs.Build.{wrote, inclusion_built, consistency_built}
use Rattle.carry.specs.Limits.{pair_bytes}
use Rattle.carry.specs.Strings.{apart, Collides}
use Rattle.carry.specs.Forward.{Forward, carried, collision, conflict, carry}

module _ (H : List ℕ → List ℕ) where
  module _ (leaf : List ℕ) (place m n : ℕ) (root₁ root₂ path proof : List ℕ) (room pair : ℕ) where
    abbrev outcome : Forward
    outcome = carry H leaf place m n root₁ root₂ path proof room pair

    -- where both proofs are accepted and both buffers are long enough
    abbrev WhereAccepted : Type 0 → Type 0
    WhereAccepted Claim =
        inclusion_verdict H leaf place m root₁ path ≡ 0 → consistency_verdict H m n root₁ root₂ proof ≡ 0 →
        32 * inclusion_count place n ≤ room → pair_bytes ≤ pair → Claim

    pub record Carries : Type 0 where
      -- the carried path is accepted at n under the second root
      pub accepted : (w : List ℕ) → outcome ≡ carried w → inclusion_verdict H leaf place n root₂ w ≡ 0
      -- strings that are handed over are a collision
      pub collides : (s t : List ℕ) → outcome ≡ collision s t → Collides H s t
      -- a collision is reported exactly where the walk finds two strings that differ
      pub reports :
          (s t : List ℕ) → WhereAccepted ((outcome ≡ collision s t) ↔ (conflict H m n place leaf (nodes path) root₁ (nodes proof) ≡ apart s t))
      -- nothing is refused
      pub settles : WhereAccepted (((w : List ℕ) × (outcome ≡ carried w)) ⊎ ((s : List ℕ) × ((t : List ℕ) × (outcome ≡ collision s t))))
      -- from a size to itself the old path is carried
      pub stays : m ≡ n → WhereAccepted (outcome ≡ carried path)

  pub record Carrying : Type 0 where
    pub carries :
        (leaf : List ℕ) (place m n : ℕ) (root₁ root₂ path proof : List ℕ) (room pair : ℕ) → Carries leaf place m n root₁ root₂ path proof room pair

  -- an honest list: both proofs built from one list of leaf hashes carry to the list's own path at n
  pub record Honest : Type 0 where
    pub carries :
        (leaves p c w : List ℕ) (place m r₁ r₂ r₃ room pair : ℕ) →
        inclusion_built H (take (32 * m) leaves) place r₁ ≡ wrote p → consistency_built H leaves m r₂ ≡ wrote c →
        inclusion_built H leaves place r₃ ≡ wrote w → length w ≤ room → pair_bytes ≤ pair →
        carry H (node_at place leaves) place m (length leaves / 32) (root H (nodes (take (32 * m) leaves))) (root H (nodes leaves)) p c room pair ≡ carried w
