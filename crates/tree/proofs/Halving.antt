-- The levels of the tree: each two hashes of a list joined to one, and an odd last one left as it is. The root stays: this is the one law that ties
-- the tree's levels to RFC 9162's splits. Over any hash. Assumes nothing.
use mathlib.Core.Path.{◌≡◌, refl, sym, ap, ap₂, ◌∙◌}
use mathlib.Core.Logic.{⊎_elim}
use mathlib.Core.List.{List, [], ◌∷◌, ◌++◌}
use Prim.Native.Nat.{ℕ, zero, suc, ◌+◌, ◌*◌, ◌/◌, ◌%◌, ◌^◌, ◌<◌}
use native.Mathlib.Omega.{arith}
use native.Mathlib.Nat.{pow-succ', mul_assoc}
use lib.ListN.{length, take, drop, get_or}
use lib.Seq.{take-nil, drop-nil, drop-cons}
use Rattle.tree.specs.Split.{split}
use Rattle.tree.specs.Tree.{node, root}
use Rattle.tree.specs.Equations.{left, right}
use Rattle.tree.specs.Full.{pairs, level}
use Rattle.octets.proofs.Order.{lt_or_ge}
use Rattle.tree.proofs.Splitting.{split_ends, split_power, split_unique}
use Rattle.tree.proofs.Rfc.{root_one, root_split, by_parts}

-- the split of n is twice the split of half of n, rounded up
pub split_half : (n : ℕ) → 2 < n → split n ≡ 2 * split ((n + 1) / 2)
split_half n h = go (split_power n).0 (split_power n).1
  where
    go : (j : ℕ) → split n ≡ 2 ^ j → split n ≡ 2 * split ((n + 1) / 2)
    go zero e = let s = split_ends n (omega arith) in absurd (omega arith)
    go (suc i) e =
        let s = split_ends n (omega arith) in
        let d : split n ≡ 2 * 2 ^ i = e ∙ pow-succ' 2 i in
        let u : split ((n + 1) / 2) ≡ 2 ^ i = split_unique ((n + 1) / 2) i (omega arith) (omega arith) (omega arith) in
        omega arith

twice_suc : (k : ℕ) → 2 * suc k ≡ suc (suc (2 * k))
twice_suc k = omega arith

module _ (H : List ℕ → List ℕ) where
  pub pairs_length : (l : List (List ℕ)) → length (pairs H l) ≡ (length l + 1) / 2
  unfolding pairs
  pairs_length [] = refl
  pairs_length (a ∷ []) = refl
  pairs_length (a ∷ (b ∷ l)) = let e = pairs_length l in omega arith

  -- what follows an even number of hashes is paired by itself
  pub pairs_append : (l t : List (List ℕ)) → length l % 2 ≡ 0 → pairs H (l ++ t) ≡ pairs H l ++ pairs H t
  unfolding pairs
  pairs_append [] t e = refl
  pairs_append (a ∷ []) t e = absurd (omega arith)
  pairs_append (a ∷ (b ∷ l)) t e = ap (λ (x : List (List ℕ)). node H a b ∷ x) (pairs_append l t (omega arith))

  pub pairs_take : (k : ℕ) (l : List (List ℕ)) → take k (pairs H l) ≡ pairs H (take (2 * k) l)
  unfolding pairs
  pairs_take zero l = refl
  pairs_take (suc k) [] = rw (twice_suc k)
  pairs_take (suc k) (a ∷ []) = rw (twice_suc k, take-nil k)
  pairs_take (suc k) (a ∷ (b ∷ l)) = rw (twice_suc k) (ap (λ (x : List (List ℕ)). node H a b ∷ x) (pairs_take k l))

  pub pairs_drop : (k : ℕ) (l : List (List ℕ)) → drop k (pairs H l) ≡ pairs H (drop (2 * k) l)
  unfolding pairs
  pairs_drop zero l = refl
  pairs_drop (suc k) [] = rw (twice_suc k)
  pairs_drop (suc k) (a ∷ []) = rw (twice_suc k, drop-nil k)
  pairs_drop (suc k) (a ∷ (b ∷ l)) = rw (twice_suc k) (pairs_drop k l)

  -- the two parts of the pairs are the pairs of the two parts
  module _ (l : List (List ℕ)) (more : 2 < length l) where
    pub pairs_left : left (pairs H l) ≡ pairs H (left l)
    pairs_left =
        let k = split ((length l + 1) / 2) in
        rw (pairs_length l, pairs_take k l, ← (split_half (length l) more))

    pub pairs_right : right (pairs H l) ≡ pairs H (right l)
    pairs_right =
        let k = split ((length l + 1) / 2) in
        rw (pairs_length l, pairs_drop k l, ← (split_half (length l) more))

  root_two : (a b : List ℕ) → root H (a ∷ (b ∷ [])) ≡ node H a b
  root_two a b =
      let e : split 2 ≡ 1 = split_unique 2 0 (omega arith) (omega arith) (omega arith) in
      root_split H (a ∷ (b ∷ [])) (omega arith) ∙ rw e (ap₂ (node H) (root_one H a) (root_one H b))

  pub root_pairs : (l : List (List ℕ)) → root H (pairs H l) ≡ root H l
  unfolding pairs
  root_pairs [] = refl
  root_pairs (x ∷ t) = by_parts (λ l. root H (pairs H l) ≡ root H l) one step (x ∷ t) (omega arith)
    where
      one : (h : List ℕ) → root H (pairs H (h ∷ [])) ≡ root H (h ∷ [])
      one h = refl

      two : (l : List (List ℕ)) → length l ≡ 2 → root H (pairs H l) ≡ root H l
      two [] e = absurd (omega arith)
      two (a ∷ []) e = absurd (omega arith)
      two (a ∷ (b ∷ [])) e = root_one H (node H a b) ∙ sym (root_two a b)
      two (a ∷ (b ∷ (c ∷ l))) e = absurd (omega arith)

      step : (l : List (List ℕ)) → 1 < length l → root H (pairs H (left l)) ≡ root H (left l) → root H (pairs H (right l)) ≡ root H (right l) → root H (pairs H l) ≡ root H l
      step l more p q =
          ⊎_elim
          (λ h.
          let n = pairs_length l in
          root_split H (pairs H l) (omega arith)
          ∙ ap₂ (λ (a b : List (List ℕ)). node H (root H a) (root H b)) (pairs_left l h) (pairs_right l h)
          ∙ ap₂ (node H) p q
          ∙ sym (root_split H l more))
          (λ h. two l (omega arith))
          (lt_or_ge 2 (length l))

  -- ---- level by level

  pub root_level : (i : ℕ) (l : List (List ℕ)) → root H (level H i l) ≡ root H l
  unfolding level
  root_level zero l = refl
  root_level (suc i) l = root_level i (pairs H l) ∙ root_pairs l

  -- a part of the pairs, and the same part of the leaves
  pub root_block : (i x : ℕ) (l : List (List ℕ)) → root H (take (2 ^ i) (drop (2 ^ i * x) (pairs H l))) ≡ root H (take (2 ^ suc i) (drop (2 ^ suc i * x) l))
  root_block i x l =
      rw (pairs_drop (2 ^ i * x) l, pairs_take (2 ^ i) (drop (2 * (2 ^ i * x)) l), root_pairs (take (2 * 2 ^ i) (drop (2 * (2 ^ i * x)) l)), pow-succ' 2 i, mul_assoc 2 (2 ^ i) x)

  -- hash x of level i is the root of the 2 ^ i leaves from 2 ^ i * x on, or of those that are left of them
  level_root : (i x : ℕ) (l : List (List ℕ)) → root H (take 1 (drop x (level H i l))) ≡ root H (take (2 ^ i) (drop (2 ^ i * x) l))
  unfolding level
  level_root zero x l = let e : 1 * x ≡ x = omega arith in rw e
  level_root (suc i) x l = level_root i x (pairs H l) ∙ root_block i x l

  pub level_at : (i x : ℕ) (l : List (List ℕ)) → x < length (level H i l) → get_or (level H i l) x [] ≡ root H (take (2 ^ i) (drop (2 ^ i * x) l))
  level_at i x l h = sym (root_one H (get_or (level H i l) x [])) ∙ sym (rw (drop-cons (level H i l) x [] h)) ∙ level_root i x l
