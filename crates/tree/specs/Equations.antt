-- The equations of RFC 9162, section 2.1, and of document 01, one a line: what a reader believes of the definitions. They are proved in
-- proofs/Rfc.antt, over any hash H and with no limit. Assumes nothing: these are statements.
use Rattle.std.specs.Prelude.{◌≡◌, Bool, true, false, List, [], ◌∷◌, ◌++◌, ℕ, ◌-◌, ◌*◌, ◌^◌, ◌≤◌, ◌<◌, length, take, drop}
use Rattle.tree.specs.Split.{split}
use Rattle.tree.specs.Tree.{node, root, mth, path, subproof, consistency}
use Rattle.tree.specs.Yield.{init, last, inclusion_root, old_root, new_root}

-- 'let k be the largest power of two smaller than n (i.e., k < n <= 2k)'
pub record SplitIs (n : ℕ) : Type 0 where
  pub power : (j : ℕ) × (split n ≡ 2 ^ j)
  pub smaller : split n < n
  pub largest : n ≤ 2 * split n

-- D[0:k] and D[k:n]
abbrev pub left : List (List ℕ) → List (List ℕ)
left l = take (split (length l)) l

abbrev pub right : List (List ℕ) → List (List ℕ)
right l = drop (split (length l)) l

module _ (H : List ℕ → List ℕ) where
  -- section 2.1.1, of the inputs
  pub record Mth : Type 0 where
    pub none : mth H [] ≡ H []
    pub single : (d : List ℕ) → mth H (d ∷ []) ≡ H (0 ∷ d)
    pub more : (ds : List (List ℕ)) → 1 < length ds → mth H ds ≡ H (1 ∷ (mth H (left ds) ++ mth H (right ds)))

  -- the same, of the leaf hashes
  pub record Root : Type 0 where
    pub none : root H [] ≡ H []
    pub single : (h : List ℕ) → root H (h ∷ []) ≡ h
    pub more : (l : List (List ℕ)) → 1 < length l → root H l ≡ H (1 ∷ (root H (left l) ++ root H (right l)))

  -- section 2.1.3.1
  pub record Path (m : ℕ) : Type 0 where
    pub single : (h : List ℕ) → path H m (h ∷ []) ≡ []
    pub low : (l : List (List ℕ)) → 1 < length l → m < split (length l) → path H m l ≡ path H m (left l) ++ (root H (right l) ∷ [])
    pub high : (l : List (List ℕ)) → 1 < length l → split (length l) ≤ m → path H m l ≡ path H (m - split (length l)) (right l) ++ (root H (left l) ∷ [])

  -- section 2.1.4.1, 0 < m
  pub record Consistency (m : ℕ) (l : List (List ℕ)) : Type 0 where
    pub start : consistency H m l ≡ subproof H m l true
    pub known : m ≡ length l → subproof H m l true ≡ []
    pub unknown : m ≡ length l → subproof H m l false ≡ root H l ∷ []
    pub low : (b : Bool) → m < length l → m ≤ split (length l) → subproof H m l b ≡ subproof H m (left l) b ++ (root H (right l) ∷ [])
    pub high :
        (b : Bool) → m < length l → split (length l) < m
        → subproof H m l b ≡ subproof H (m - split (length l)) (right l) false ++ (root H (left l) ∷ [])

  -- what an inclusion path p yields for the leaf hash h at place m of n
  pub record Included (m n : ℕ) (h : List ℕ) (p : List (List ℕ)) : Type 0 where
    pub single : n ≡ 1 → inclusion_root H m n h p ≡ h
    pub low : 1 < n → m < split n → inclusion_root H m n h p ≡ node H (inclusion_root H m (split n) h (init p)) (last p)
    pub high : 1 < n → split n ≤ m → inclusion_root H m n h p ≡ node H (last p) (inclusion_root H (m - split n) (n - split n) h (init p))

  -- the first root that a consistency path p from m to n yields, f being the claimed one, 0 < m
  pub record Old (m n : ℕ) (f : List ℕ) (p : List (List ℕ)) : Type 0 where
    pub known : m ≡ n → old_root H m n true f p ≡ f
    pub unknown : m ≡ n → old_root H m n false f p ≡ last p
    pub low : (b : Bool) → m < n → m ≤ split n → old_root H m n b f p ≡ old_root H m (split n) b f (init p)
    pub high : (b : Bool) → m < n → split n < m → old_root H m n b f p ≡ node H (last p) (old_root H (m - split n) (n - split n) false f (init p))
    -- a first size that is a power of two brings its own root
    pub own : (j : ℕ) → m ≡ 2 ^ j → m < n → old_root H m n true f p ≡ f

  -- the second root
  pub record New (m n : ℕ) (f : List ℕ) (p : List (List ℕ)) : Type 0 where
    pub known : m ≡ n → new_root H m n true f p ≡ f
    pub unknown : m ≡ n → new_root H m n false f p ≡ last p
    pub low : (b : Bool) → m < n → m ≤ split n → new_root H m n b f p ≡ node H (new_root H m (split n) b f (init p)) (last p)
    pub high : (b : Bool) → m < n → split n < m → new_root H m n b f p ≡ node H (last p) (new_root H (m - split n) (n - split n) false f (init p))

  pub record Equations : Type 0 where
    pub split_is : (n : ℕ) → 1 < n → SplitIs n
    pub of_inputs : Mth
    pub of_leaves_lem : Root
    pub paths : (m : ℕ) → Path m
    pub consistencies : (m : ℕ) (l : List (List ℕ)) → 0 < m → Consistency m l
    pub included : (m n : ℕ) (h : List ℕ) (p : List (List ℕ)) → Included m n h p
    pub old : (m n : ℕ) (f : List ℕ) (p : List (List ℕ)) → 0 < m → Old m n f p
    pub new : (m n : ℕ) (f : List ℕ) (p : List (List ℕ)) → 0 < m → New m n f p
