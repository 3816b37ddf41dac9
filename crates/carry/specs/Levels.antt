-- The child pairs that proofs rebuild, level by level from the root down, and which of them is the topmost that differs: document 01,
-- 'Carrying forward and comparing', over any hash H. No contract cites these definitions: proofs/Levelling.antt shows that what the
-- contracts cite finds the topmost of these levels. Assumes nothing: these are definitions and statements.
use Rattle.std.specs.Prelude.{◌≡◌, ◌↔◌, Bool, true, false, cond, List, [], ◌∷◌, ℕ, suc, ◌+◌, ◌-◌, ◌≤◌, ◌<◌, leb, ltb, eqb, length, take, get_or}
use Rattle.std.specs.Int.Count.{ones}
use Rattle.tree.specs.Split.{Shape, one, fork, size, shape}
use Rattle.tree.specs.Tree.{root, consistency}
use Rattle.tree.specs.Full.{full_roots, together}
use Rattle.tree.specs.Yield.{init, last, inclusion_root_of, old_root}
use Rattle.tree.specs.Joined.{nodes}
use Rattle.carry.specs.Strings.{string, Difference, alike, apart}
use Rattle.carry.specs.Compare.{Comparison, differ, compare}
use Rattle.carry.specs.Forward.{Forward, conflict, carry}

-- s and t are the topmost of the strings ss and ts that differ: all above them are equal
pub record First (ss ts : List (List ℕ)) (s t : List ℕ) : Type 0 where
  pub level : ℕ
  pub within : level < length ss
  pub first : get_or ss level [] ≡ s
  pub second : get_or ts level [] ≡ t
  pub different : s ≡ t → ⊥
  pub above : (i : ℕ) → i < level → get_or ss i [] ≡ get_or ts i []

-- what is found in two lists of strings, one of each for each level
pub record Finds (ss ts : List (List ℕ)) (found : Difference) : Type 0 where
  pub counted : length ss ≡ length ts
  pub nothing : (found ≡ alike) ↔ ((i : ℕ) → i < length ss → get_or ss i [] ≡ get_or ts i [])
  pub topmost : (s t : List ℕ) → (found ≡ apart s t) ↔ First ss ts s t

-- how many nodes of a tree lie above S, its full subtree that holds the place x: a tree whose parts have one size is full, as its first part always is
unfoldable pub above_of : Shape → ℕ → ℕ
above_of one x = 0
above_of (fork a b) x = cond (eqb (size a) (size b)) 0 (cond (ltb x (size a)) 1 (suc (above_of b (x - size a))))

-- the roots of the full subtrees of the first m leaves, the largest first, by a consistency path q: the last node is the root of the first part where
-- that is old, and of a part of later leaves where all old leaves come before it. Where m is a power of two, the old root f is the one
unfoldable pub subtrees_of : Shape → ℕ → Bool → List ℕ → List (List ℕ) → List (List ℕ)
subtrees_of one m known f q = cond known f (last q) ∷ []
subtrees_of (fork a b) m known f q =
    cond (eqb m (size a + size b)) (cond known f (last q) ∷ [])
    (cond (leb m (size a)) (subtrees_of a m known f (init q)) (last q ∷ subtrees_of b (m - size a) false f (init q)))

unfoldable pub subtrees : ℕ → ℕ → List ℕ → List (List ℕ) → List (List ℕ)
subtrees m n f q = subtrees_of (shape n) m true f q

module _ (H : List ℕ → List ℕ) where
  -- an inclusion proof's strings: those of the nodes on the way from the root to the leaf hash h at place m, by the path p
  unfoldable pub inclusion_strings_of : Shape → ℕ → List ℕ → List (List ℕ) → List (List ℕ)
  inclusion_strings_of one m h p = []
  inclusion_strings_of (fork a b) m h p =
      cond (ltb m (size a)) (string (inclusion_root_of H a m h (init p)) (last p) ∷ inclusion_strings_of a m h (init p))
      (string (last p) (inclusion_root_of H b (m - size a) h (init p)) ∷ inclusion_strings_of b (m - size a) h (init p))

  unfoldable pub inclusion_strings : ℕ → ℕ → List ℕ → List (List ℕ) → List (List ℕ)
  inclusion_strings m n h p = inclusion_strings_of (shape n) m h p

  -- a tree's strings by the roots of its full subtrees: each node's first part is a full subtree
  unfoldable pub together_strings : List (List ℕ) → List (List ℕ)
  together_strings [] = []
  together_strings (r ∷ []) = []
  together_strings (r ∷ (s ∷ l)) = string r (together H (s ∷ l)) ∷ together_strings (s ∷ l)

  -- what both proofs rebuild of the old tree of m leaves, from its root down to S
  abbrev pub inclusion_levels : ℕ → ℕ → List ℕ → List (List ℕ) → List (List ℕ)
  inclusion_levels m x h p = take (above_of (shape m) x) (inclusion_strings x m h p)

  abbrev pub consistency_levels : ℕ → ℕ → ℕ → List ℕ → List (List ℕ) → List (List ℕ)
  consistency_levels m n x f q = take (above_of (shape m) x) (together_strings (subtrees m n f q))

  pub record Levelled : Type 0 where
    -- comparing: the first proof's string is first
    pub compares :
        (m n : ℕ) (h : List ℕ) (p : List (List ℕ)) (g : List ℕ) (q : List (List ℕ)) →
        Finds (inclusion_strings m n h p) (inclusion_strings m n g q) (differ H m n h p g q)
    -- carrying: the inclusion proof's string is first
    pub carries :
        (m n x : ℕ) (h : List ℕ) (p : List (List ℕ)) (f : List ℕ) (q : List (List ℕ)) → x < m → m < n →
        Finds (inclusion_levels m x h p) (consistency_levels m n x f q) (conflict H m n x h p f q)
    -- so what a comparison and a carrying hand over, on bytes, is the topmost pair that differs
    pub compared :
        (place size : ℕ) (claimed leaf₁ path₁ leaf₂ path₂ : List ℕ) (pair : ℕ) (s t : List ℕ) →
        compare H place size claimed leaf₁ path₁ leaf₂ path₂ pair ≡ Comparison.collision s t →
        First (inclusion_strings place size leaf₁ (nodes path₁)) (inclusion_strings place size leaf₂ (nodes path₂)) s t
    pub carried :
        (leaf : List ℕ) (place m n : ℕ) (claimed₁ claimed₂ path proof : List ℕ) (room pair : ℕ) (s t : List ℕ) →
        carry H leaf place m n claimed₁ claimed₂ path proof room pair ≡ Forward.collision s t →
        First (inclusion_levels m place leaf (nodes path)) (consistency_levels m n place claimed₁ (nodes proof)) s t
    -- every level down to S is there
    pub whole : (m n x : ℕ) (f : List ℕ) (q : List (List ℕ)) → x < m → m < n → length (consistency_levels m n x f q) ≡ above_of (shape m) x
    -- a list's own consistency path splits its first m leaves into their full subtrees
    pub own :
        (l : List (List ℕ)) (m : ℕ) → 0 < m → m < length l → subtrees m (length l) (root H (take m l)) (consistency H m l) ≡ full_roots H (take m l)
    -- one full subtree for each one-bit of m, and together they yield the old root
    pub one_bits : (m n : ℕ) (f : List ℕ) (q : List (List ℕ)) → 0 < m → m < n → length (subtrees m n f q) ≡ ones m
    pub yields : (m n : ℕ) (f : List ℕ) (q : List (List ℕ)) → 0 < m → m ≤ n → together H (subtrees m n f q) ≡ old_root H m n true f q
