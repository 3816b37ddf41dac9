-- The starred cases of document 01 as one table with one statement, at any hash and for any seven leaf hashes; of the verdicts and of
-- carrying itself where the hash and the leaf hashes have 32 bytes. The tree of seven leaves is drawn in the crate tree, specs/Tree.antt.
-- Assumes nothing: these are statements.
use Rattle.std.specs.Prelude.{◌≡◌, List, [], ◌∷◌, ℕ, ◌≤◌, length, take, get_or}
use Rattle.tree.specs.Tree.{node, root, path, consistency}
use Rattle.octets.specs.Bytes.{joined}
use Rattle.tree.specs.Verdict.{inclusion_verdict, consistency_verdict}
use Rattle.carry.specs.Limits.{pair_bytes}
use Rattle.carry.specs.Strings.{alike}
use Rattle.carry.specs.Forward.{carried, conflict, forward, carry}

-- a row: a path at 7; a consistency path to 7; or the path of a place at a first size, and what it becomes at 7
pub data PaperCase : Type 0 where
  path_at_lem : ℕ → List (List ℕ) → PaperCase
  consistency_from : ℕ → List (List ℕ) → PaperCase
  carried_from : ℕ → ℕ → List (List ℕ) → List (List ℕ) → PaperCase

abbrev pub Every : {A : Type 0} → (A → Type 0) → List A → Type 0
Every P [] = Unit {0}
Every P (x ∷ t) = P x × Every P t

-- the path p of place x at the first m of the leaf hashes and their consistency path to all are accepted, and carry to the path r
pub record CarriedTo (H : List ℕ → List ℕ) (leaves : List (List ℕ)) (m x : ℕ) (p r : List (List ℕ)) : Type 0 where
  pub inclusion : inclusion_verdict H (get_or leaves x []) x m (root H (take m leaves)) (joined p) ≡ 0
  pub consistent : consistency_verdict H m 7 (root H (take m leaves)) (root H leaves) (joined (consistency H m leaves)) ≡ 0
  pub carries :
      (room pair : ℕ) → length (joined r) ≤ room → pair_bytes ≤ pair →
      carry H (get_or leaves x []) x m 7 (root H (take m leaves)) (root H leaves) (joined p) (joined (consistency H m leaves)) room pair ≡ carried (joined r)

-- what a row says of the leaf hashes
abbrev pub CaseSays : (List ℕ → List ℕ) → List (List ℕ) → PaperCase → Type 0
CaseSays H leaves (path_at_lem m p) = path H m leaves ≡ p
CaseSays H leaves (consistency_from m p) = consistency H m leaves ≡ p
CaseSays H leaves (carried_from m x p r) =
    (path H x (take m leaves) ≡ p)
    × (conflict H m 7 x (get_or leaves x []) p (root H (take m leaves)) (consistency H m leaves) ≡ alike)
    × (forward H m 7 x p (root H (take m leaves)) (consistency H m leaves) ≡ r)
    × (((s : List ℕ) → length (H s) ≡ 32) → Every (λ (h : List ℕ). length h ≡ 32) leaves → CarriedTo H leaves m x p r)

module _ (H : List ℕ → List ℕ) (a b c d e f j : List ℕ) where
  abbrev pub leaves : List (List ℕ)
  leaves = a ∷ b ∷ c ∷ d ∷ e ∷ f ∷ j ∷ []

  -- the nodes by their names in that drawing
  abbrev pub g : List ℕ
  g = node H a b

  abbrev pub h : List ℕ
  h = node H c d

  abbrev pub i : List ℕ
  i = node H e f

  abbrev pub k : List ℕ
  k = node H g h

  abbrev pub l : List ℕ
  l = node H i j

  abbrev pub table : List PaperCase
  table =
      path_at_lem 0 (b ∷ h ∷ l ∷ []) ∷
      path_at_lem 3 (c ∷ g ∷ l ∷ []) ∷
      path_at_lem 4 (f ∷ j ∷ k ∷ []) ∷
      path_at_lem 6 (i ∷ k ∷ []) ∷
      consistency_from 3 (c ∷ d ∷ g ∷ l ∷ []) ∷
      consistency_from 4 (l ∷ []) ∷
      consistency_from 6 (i ∷ j ∷ k ∷ []) ∷
      carried_from 3 0 (b ∷ c ∷ []) (b ∷ h ∷ l ∷ []) ∷
      carried_from 3 2 (g ∷ []) (d ∷ g ∷ l ∷ []) ∷
      carried_from 6 5 (e ∷ k ∷ []) (e ∷ j ∷ k ∷ []) ∷
      []

abbrev pub Starred : Type 0
Starred = (H : List ℕ → List ℕ) (a b c d e f j : List ℕ) → Every (CaseSays H (leaves H a b c d e f j)) (table H a b c d e f j)
