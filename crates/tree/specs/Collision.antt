-- A collision: two strings that differ and have one hash. Assumes nothing: this is a definition.
use Rattle.std.specs.Prelude.{◌≡◌, List, ℕ}

pub record Collision (H : List ℕ → List ℕ) (s t : List ℕ) : Type 0 where
  pub different : s ≡ t → ⊥
  pub one_hash : H s ≡ H t
