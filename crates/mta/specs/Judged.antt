-- Items meet verdicts: a path that was read and copied is judged by the hashes that stand in its item (RFC 9162, sections 4.9, 4.11 and 4.12, and 2.1).
-- Assumes nothing: these are statements.
use Rattle.std.specs.Prelude.{◌≡◌, ◌↔◌, true, List, ℕ, ◌≤◌, ◌<◌, length}
use Rattle.tree.specs.Limits.{largest_size}
use Rattle.tree.specs.Count.{inclusion_count, consistency_count}
use Rattle.tree.specs.Yield.{inclusion_root, old_root, new_root}
use Rattle.tree.specs.Verdict.{inclusion_verdict, consistency_verdict}
use Rattle.fields.specs.Checked.{good}
use Rattle.fields.specs.Layout.{bytes_at}
use Rattle.fields.specs.Effect.{wrote}
use Rattle.item.specs.Item.{Reading, read_item}
use Rattle.fields.specs.Path.{encoded, copy_path}
use Rattle.item.specs.Claims.{HasPath, path_part}

module _ (H : List ℕ → List ℕ) where
  -- the hashes show the leaf hash at its place: as many as the definition counts, and it yields the claimed root from them
  pub record Shows (leaf : List ℕ) (place size : ℕ) (claimed : List ℕ) (hashes : List (List ℕ)) : Type 0 where
    pub leaf_32 : length leaf ≡ 32
    pub root_32 : length claimed ≡ 32
    pub below : place < size
    pub in_range : size ≤ largest_size
    pub counted : length hashes ≡ inclusion_count place size
    pub yields : inclusion_root H place size leaf hashes ≡ claimed

  -- the hashes show the first tree to be the start of the second: the definition yields both claimed roots from them
  pub record Joins (first second : ℕ) (claimed₁ claimed₂ : List ℕ) (hashes : List (List ℕ)) : Type 0 where
    pub first_32 : length claimed₁ ≡ 32
    pub second_32 : length claimed₂ ≡ 32
    pub some : 0 < first
    pub order : first ≤ second
    pub in_range : second ≤ largest_size
    pub counted : length hashes ≡ consistency_count first second
    pub yields_first : old_root H first second true claimed₁ hashes ≡ claimed₁
    pub yields_second : new_root H first second true claimed₁ hashes ≡ claimed₂

-- the hashes that stand in an item as its path, what is copied of it, and what the verdicts say of that
pub record Judged (s : List ℕ) (r : Reading) : Type 0 where
  pub hashes : List (List ℕ)
  pub item : bytes_at s (path_part r) ≡ encoded hashes
  pub path : List ℕ
  pub copied : (out : List ℕ) → length path ≤ length out → copy_path s (path_part r) out ≡ wrote path out
  pub inclusion :
      (H : List ℕ → List ℕ) (leaf : List ℕ) (place size : ℕ) (claimed : List ℕ) →
      (inclusion_verdict H leaf place size claimed path ≡ 0) ↔ Shows H leaf place size claimed hashes
  pub consistency :
      (H : List ℕ → List ℕ) (first second : ℕ) (claimed₁ claimed₂ : List ℕ) →
      (consistency_verdict H first second claimed₁ claimed₂ path ≡ 0) ↔ Joins H first second claimed₁ claimed₂ hashes

abbrev pub ItemsAreJudged : Type 0
ItemsAreJudged = (s : List ℕ) (r : Reading) → read_item s ≡ good r → HasPath r.case → Judged s r
