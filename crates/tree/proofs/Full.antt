-- The full subtrees of a list, one for each one-bit of its length: by RFC 9162's splits, and a level up. Over any hash. Assumes nothing.
use mathlib.Core.Path.{◌≡◌, refl, sym, ap, ap₂, ◌∙◌}
use mathlib.Core.Logic.{⊎_elim}
use mathlib.Core.List.{List, [], ◌∷◌, ◌++◌}
use Prim.Native.Nat.{ℕ, zero, suc, ◌+◌, ◌-◌, ◌*◌, ◌/◌, ◌%◌, ◌^◌, ◌≤◌, ◌<◌}
use native.Mathlib.Omega.{arith}
use native.Mathlib.Nat.{eq-or-lt_of_le, pow-succ'}
use lib.Count.{ones}
use lib.ListN.{length, length-append}
use lib.Pow.{pow_pos}
use lib.Seq.{take-append-le, drop-append-le, take_at, drop_at}
use borrow.Author.Tests.{eq-eqb, ne_eqb}
use Rattle.tree.specs.Split.{split, Shape, fork, size, shape}
use Rattle.tree.specs.Tree.{node, root_of, root}
use Rattle.tree.specs.Equations.{left, right}
use Rattle.tree.specs.Full.{full_roots_of, full_roots, together, pairs}
use Rattle.tree.specs.Claims.{FullSubtrees}
use Rattle.tree.proofs.Splitting.{split_ends, split_power, split_unique, shape_one, shape_fork}
use Rattle.tree.proofs.Rfc.{root_none, root_one, root_some, root_split, size_left, size_right, length_left, length_right, by_parts}
use Rattle.tree.proofs.Digits.{ones_top, ones_some, ones_power}
use Rattle.tree.proofs.Halving.{split_half, pairs_length, pairs_left, pairs_right, root_pairs, root_level, level_at}

module _ (H : List ℕ → List ℕ) where
  full_some : (l : List (List ℕ)) → 0 < length l → full_roots H l ≡ full_roots_of H (shape (length l)) l
  unfolding full_roots
  full_some [] h = absurd (omega arith)
  full_some (x ∷ l) h = refl

  pub full_none : full_roots H [] ≡ []
  unfolding full_roots
  full_none = refl

  pub full_one : (h : List ℕ) → full_roots H (h ∷ []) ≡ h ∷ []
  unfolding full_roots full_roots_of root_of
  full_one h = rw shape_one

  module _ (l : List (List ℕ)) (more : 1 < length l) where
    -- two parts of one size are one full subtree
    pub full_whole : length l ≡ 2 * split (length l) → full_roots H l ≡ root H l ∷ []
    unfolding full_roots_of
    full_whole e =
        let n = length l in
        let u = size_left n more in
        let v = size_right n more in
        let r : root_of H (fork (shape (split n)) (shape (n - split n))) l ≡ root H l = ap (λ (s : Shape). root_of H s l) (sym (shape_fork n more)) ∙ sym (root_some H l (omega arith)) in
        full_some l (omega arith)
        ∙ rw (shape_fork n more, eq-eqb (size (shape (split n))) (size (shape (n - split n))) (omega arith)) (ap (λ (x : List ℕ). x ∷ []) r)

    -- else the first part is one, before those of the rest
    pub full_parts : length l < 2 * split (length l) → full_roots H l ≡ root H (left l) ∷ full_roots H (right l)
    unfolding full_roots_of
    full_parts lop =
        let n = length l in
        let s = split_ends n more in
        let u = size_left n more in
        let v = size_right n more in
        let a = length_left l more in
        let b = length_right l more in
        full_some l (omega arith)
        ∙ rw (shape_fork n more, ne_eqb (size (shape (split n))) (size (shape (n - split n))) (λ e. omega arith), u, root_some H (left l) (omega arith), full_some (right l) (omega arith), a, b)

  -- a power of two of leaves is one full subtree
  pub full_power : (j : ℕ) (l : List (List ℕ)) → length l ≡ 2 ^ j → full_roots H l ≡ root H l ∷ []
  full_power zero [] e = absurd (omega arith)
  full_power zero (x ∷ []) e = full_one x ∙ ap (λ (y : List ℕ). y ∷ []) (sym (root_one H x))
  full_power zero (x ∷ (y ∷ l)) e = absurd (omega arith)
  full_power (suc j) l e =
      let d = pow-succ' 2 j in
      let z = pow_pos j in
      let s : split (length l) ≡ 2 ^ j = split_unique (length l) j (omega arith) (omega arith) (omega arith) in
      full_whole l (omega arith) (omega arith)

  -- ---- the root by them

  pub together_more : (r : List ℕ) (l : List (List ℕ)) → 0 < length l → together H (r ∷ l) ≡ node H r (together H l)
  unfolding together
  together_more r [] h = absurd (omega arith)
  together_more r (s ∷ l) h = refl

  pub together_one : (r : List ℕ) → together H (r ∷ []) ≡ r
  unfolding together
  together_one r = refl

  -- the last two may be joined before
  pub together_two : (l : List (List ℕ)) (a b : List ℕ) → together H ((l ++ (a ∷ [])) ++ (b ∷ [])) ≡ together H (l ++ (node H a b ∷ []))
  unfolding together
  together_two [] a b = refl
  together_two (x ∷ l) a b =
      let d : 0 < length ((l ++ (a ∷ [])) ++ (b ∷ [])) = simp length-append (omega arith) in
      let e : 0 < length (l ++ (node H a b ∷ [])) = simp length-append (omega arith) in
      together_more x ((l ++ (a ∷ [])) ++ (b ∷ [])) d ∙ ap (node H x) (together_two l a b) ∙ sym (together_more x (l ++ (node H a b ∷ [])) e)

  -- as many as the length has one_bits
  pub full_bits : (l : List (List ℕ)) → length (full_roots H l) ≡ ones (length l)
  unfolding ones
  full_bits [] = ap length full_none
  full_bits (x ∷ t) = by_parts (λ l. length (full_roots H l) ≡ ones (length l)) (λ h. ap length (full_one h)) step (x ∷ t) (omega arith)
    where
      step : (l : List (List ℕ)) → 1 < length l → length (full_roots H (left l)) ≡ ones (length (left l)) → length (full_roots H (right l)) ≡ ones (length (right l)) → length (full_roots H l) ≡ ones (length l)
      step l more p q =
          let s = split_ends (length l) more in
          let w = split_power (length l) in
          let e = w.1 in
          ⊎_elim
          (λ d.
          let f : length l ≡ 2 ^ suc w.0 = let g = pow-succ' 2 w.0 in omega arith in
          ap length (full_whole l more d) ∙ sym (ap ones f ∙ ones_power (suc w.0)))
          (λ lop.
          let b = length_right l more in
          let f : length l ≡ 2 ^ w.0 + length (right l) = omega arith in
          let o = ones_top w.0 (length (right l)) (omega arith) in
          let g = ap ones f in
          ap length (full_parts l more lop) ∙ (omega arith))
          (eq-or-lt_of_le s.1)

  full_more : (l : List (List ℕ)) → 0 < length l → 0 < length (full_roots H l)
  full_more l h = let b = full_bits l in let o = ones_some (length l) h in omega arith

  -- together they yield the root
  pub together_full : (l : List (List ℕ)) → together H (full_roots H l) ≡ root H l
  unfolding together
  together_full [] = ap (together H) full_none ∙ sym (root_none H)
  together_full (x ∷ t) = by_parts (λ l. together H (full_roots H l) ≡ root H l) (λ h. ap (together H) (full_one h) ∙ sym (root_one H h)) step (x ∷ t) (omega arith)
    where
      step : (l : List (List ℕ)) → 1 < length l → together H (full_roots H (left l)) ≡ root H (left l) → together H (full_roots H (right l)) ≡ root H (right l) → together H (full_roots H l) ≡ root H l
      step l more p q =
          let s = split_ends (length l) more in
          let b = length_right l more in
          ⊎_elim
          (λ d. ap (together H) (full_whole l more d))
          (λ lop.
          ap (together H) (full_parts l more lop) ∙ together_more (root H (left l)) (full_roots H (right l)) (full_more (right l) (omega arith))
          ∙ ap (node H (root H (left l))) q ∙ sym (root_split H l more))
          (eq-or-lt_of_le s.1)

  -- ---- a level up

  -- of an even list they are those of its pairs
  pub full_even : (l : List (List ℕ)) → length l % 2 ≡ 0 → full_roots H (pairs H l) ≡ full_roots H l
  unfolding pairs
  full_even [] even = refl
  full_even (x ∷ t) even = by_parts (λ l. length l % 2 ≡ 0 → full_roots H (pairs H l) ≡ full_roots H l) (λ h e. absurd (omega arith)) step (x ∷ t) (omega arith) even
    where
      two : (l : List (List ℕ)) → length l ≡ 2 → full_roots H (pairs H l) ≡ full_roots H l
      two l e =
          let n = pairs_length H l in
          full_power 0 (pairs H l) (omega arith) ∙ ap (λ (y : List ℕ). y ∷ []) (root_pairs H l) ∙ sym (full_power 1 l e)

      step : (l : List (List ℕ)) → 1 < length l →
          (length (left l) % 2 ≡ 0 → full_roots H (pairs H (left l)) ≡ full_roots H (left l)) → (length (right l) % 2 ≡ 0 → full_roots H (pairs H (right l)) ≡ full_roots H (right l)) →
          length l % 2 ≡ 0 → full_roots H (pairs H l) ≡ full_roots H l
      step l more p q e =
          let least : 2 ≤ length l = omega arith in
          let n = pairs_length H l in
          let s = split_ends (length l) more in
          let b = length_right l more in
          ⊎_elim
          (λ d. two l (sym d))
          (λ h.
          let half = split_half (length l) h in
          let k : split (length (pairs H l)) ≡ split ((length l + 1) / 2) = ap split n in
          ⊎_elim
          (λ d. full_whole (pairs H l) (omega arith) (omega arith) ∙ ap (λ (y : List ℕ). y ∷ []) (root_pairs H l) ∙ sym (full_whole l more d))
          (λ lop.
          full_parts (pairs H l) (omega arith) (omega arith)
          ∙ ap₂ (λ (y z : List (List ℕ)). root H y ∷ full_roots H z) (pairs_left H l h) (pairs_right H l h)
          ∙ ap₂ ◌∷◌ (root_pairs H (left l)) (q (omega arith))
          ∙ sym (full_parts l more lop))
          (eq-or-lt_of_le s.1))
          (eq-or-lt_of_le least)

  -- and one leaf more is one subtree more
  pub full_odd : (l : List (List ℕ)) (y : List ℕ) → length l % 2 ≡ 0 → full_roots H (l ++ (y ∷ [])) ≡ full_roots H l ++ (y ∷ [])
  full_odd [] y even = full_one y ∙ sym (ap (λ (a : List (List ℕ)). a ++ (y ∷ [])) full_none)
  full_odd (x ∷ t) y even = by_parts (λ l. length l % 2 ≡ 0 → full_roots H (l ++ (y ∷ [])) ≡ full_roots H l ++ (y ∷ [])) (λ h e. absurd (omega arith)) step (x ∷ t) (omega arith) even
    where
      step : (l : List (List ℕ)) → 1 < length l →
          (length (left l) % 2 ≡ 0 → full_roots H (left l ++ (y ∷ [])) ≡ full_roots H (left l) ++ (y ∷ [])) →
          (length (right l) % 2 ≡ 0 → full_roots H (right l ++ (y ∷ [])) ≡ full_roots H (right l) ++ (y ∷ [])) →
          length l % 2 ≡ 0 → full_roots H (l ++ (y ∷ [])) ≡ full_roots H l ++ (y ∷ [])
      step l more p q e =
          let s = split_ends (length l) more in
          let w = split_power (length l) in
          let b = length_right l more in
          let long = l ++ (y ∷ []) in
          let n : length long ≡ length l + 1 = simp length-append in
          ⊎_elim
          (λ d.
          let g = pow-succ' 2 w.0 in
          let f = w.1 in
          let k : split (length long) ≡ length l = split_unique (length long) (suc w.0) (omega arith) (omega arith) (omega arith) ∙ omega arith in
          full_parts long (omega arith) (omega arith)
          ∙ rw (k, take_at l (y ∷ []) (length l) refl, drop_at l (y ∷ []) (length l) refl, full_one y, full_whole l more d))
          (λ lop.
          let f = w.1 in
          let half = split_half (length l) (omega arith) in
          let k : split (length l) ≡ split (length long) = f ∙ sym (split_unique (length long) w.0 (omega arith) (omega arith) (omega arith)) in
          full_parts long (omega arith) (omega arith)
          ∙ rw (← k, take-append-le (split (length l)) l (y ∷ []) (omega arith), drop-append-le (split (length l)) l (y ∷ []) (omega arith), q (omega arith), full_parts l more lop))
          (eq-or-lt_of_le s.1)

  pub full_subtrees : FullSubtrees H
  full_subtrees = record { one_bits = full_bits; yields = together_full; kept = root_level H; at = level_at H }
