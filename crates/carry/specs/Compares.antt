-- What is claimed of comparing, on bytes and over any hash H: proved in proofs/Comparing.antt. Assumes nothing: these are statements.
use Rattle.std.specs.Prelude.{◌≡◌, ◌⊎◌, ◌↔◌, List, ℕ, ◌≤◌}
use Rattle.tree.specs.Joined.{nodes}
use Rattle.tree.specs.Verdict.{inclusion_verdict}
use Rattle.carry.specs.Limits.{pair_bytes}
use Rattle.carry.specs.Strings.{apart, Collides}
use Rattle.carry.specs.Compare.{Comparison, equal, collision, differ, compare}

module _ (H : List ℕ → List ℕ) where
  module _ (place size : ℕ) (root leaf₁ path₁ leaf₂ path₂ : List ℕ) (pair : ℕ) where
    abbrev outcome : Comparison
    outcome = compare H place size root leaf₁ path₁ leaf₂ path₂ pair

    -- where both proofs are accepted and the pair buffer is long enough
    abbrev WhereAccepted : Type 0 → Type 0
    WhereAccepted Claim =
        inclusion_verdict H leaf₁ place size root path₁ ≡ 0 → inclusion_verdict H leaf₂ place size root path₂ ≡ 0 → pair_bytes ≤ pair → Claim

    pub record Compares : Type 0 where
      -- strings that are handed over are a collision
      pub collides : (s t : List ℕ) → outcome ≡ collision s t → Collides H s t
      -- the proofs are the same exactly if their leaf hashes and paths are
      pub same : WhereAccepted ((outcome ≡ equal) ↔ ((leaf₁ ≡ leaf₂) × (path₁ ≡ path₂)))
      -- where they are not, the strings handed over are the topmost child pairs that differ
      pub reports :
          (s t : List ℕ) → WhereAccepted ((outcome ≡ collision s t) ↔ (differ H place size leaf₁ (nodes path₁) leaf₂ (nodes path₂) ≡ apart s t))
      -- nothing is refused
      pub settles : WhereAccepted ((outcome ≡ equal) ⊎ ((s : List ℕ) × ((t : List ℕ) × (outcome ≡ collision s t))))

  pub record Comparing : Type 0 where
    pub compares :
        (place size : ℕ) (root leaf₁ path₁ leaf₂ path₂ : List ℕ) (pair : ℕ) → Compares place size root leaf₁ path₁ leaf₂ path₂ pair
