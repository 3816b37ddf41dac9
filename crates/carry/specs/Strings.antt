-- The strings that nodes are hashes of, and the topmost two that differ. Assumes nothing: these are definitions.
use Rattle.std.specs.Prelude.{◌≡◌, cond, List, ◌∷◌, ◌++◌, ℕ, length}
use Rattle.tree.specs.Collision.{Collision}
use Rattle.octets.specs.Bytes.{same}

-- 0x01 || left || right
abbrev pub string : List ℕ → List ℕ → List ℕ
string l r = 1 ∷ (l ++ r)

-- no two strings differ, or the topmost two that do
pub data Difference : Type 0 where
  alike : Difference
  apart : List ℕ → List ℕ → Difference

-- one level: two strings that differ come before what is found below them
unfoldable pub topmost : List ℕ → List ℕ → Difference → Difference
topmost s t below = cond (same s t) below (apart s t)

-- a collision of nodes: both strings have 65 bytes
pub record Collides (H : List ℕ → List ℕ) (s t : List ℕ) : Type 0 where
  pub first_65 : length s ≡ 65
  pub second_65 : length t ≡ 65
  pub collision : Collision H s t
