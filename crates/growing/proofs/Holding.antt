-- What the hashes of a growing tree hold: the leaves, level by level. One more leaf keeps it, and those that count are the roots of the full subtrees.
-- Over any hash. Assumes nothing.
use mathlib.Core.Path.{◌≡◌, refl, sym, ap, ◌∙◌}
use mathlib.Core.Logic.{◌⊎◌, inl, inr}
use mathlib.Core.Bool.{Bool, true, false, cond}
use mathlib.Core.List.{List, [], ◌∷◌, ◌++◌, append_assoc}
use Prim.Native.Nat.{ℕ, zero, suc, ◌+◌, ◌-◌, ◌*◌, ◌/◌, ◌%◌, ◌^◌, ◌≤◌, ◌<◌}
use native.Mathlib.Omega.{arith}
use native.Mathlib.Nat.{pow-succ', mul-suc, mul_assoc, mul-div-le, zero-div, div-one, div-div-eq-div-mul}
use lib.ListN.{length, drop, get_or, replicate, length-append, length-drop}
use lib.Seq.{take-append-le, drop-append-le, drop-append_seam}
use lib.Dec.{eqb}
use borrow.Author.Tests.{eq-eqb, ne_eqb}
use Rattle.hash.specs.declared.Digest.{Digest}
use Rattle.tree.specs.Tree.{node, root}
use Rattle.tree.specs.Full.{full_roots, pairs}
use Rattle.tree.proofs.Rfc.{root_one}
use Rattle.tree.proofs.Halving.{pairs_length, pairs_append, root_block}
use Rattle.tree.proofs.Full.{full_none, full_even, full_odd}
use Rattle.growing.specs.Hashes.{nothing, parent, counting, merged}
use Rattle.growing.specs.Claims.{last_full}

-- the length of a list with one more
pub length_snoc : {A : Type 0} (l : List A) (x : A) → length (l ++ (x ∷ [])) ≡ length l + 1
length_snoc l x = simp length-append

either : (b : Bool) (s t : List Digest) {n : ℕ} → length s ≡ n → length t ≡ n → length (cond b s t) ≡ n
either true s t p q = p
either false s t p q = q

-- the parts of 2 ^ i of n, and of half of n
halves : (n m i : ℕ) → n / 2 ≡ m → n / 2 ^ suc i ≡ m / 2 ^ i
halves n m i e = rw (pow-succ' 2 i, ← (div-div-eq-div-mul n 2 (2 ^ i)), e)

-- the last whole part of p among m
fits : (p m : ℕ) → 0 < m / p → p + p * (m / p - 1) ≤ m
fits p m some = go (m / p) refl
  where
    go : (y : ℕ) → m / p ≡ y → p + p * (m / p - 1) ≤ m
    go zero e = absurd (omega arith)
    go (suc z) e =
        let d : m / p - 1 ≡ z = omega arith in
        let f : p * (m / p) ≡ p * z + p = ap (λ (k : ℕ). p * k) e ∙ mul-suc p z in
        let g = mul-div-le m p in
        rw d (omega arith)

module _ (H : List ℕ → List ℕ) where
  -- An even list goes up in pairs, and zeros are left here. Of an odd one the last waits here, and those before it go up
  unfoldable pub Holds : List Digest → List (List ℕ) → Type 0
  Holds [] l = l ≡ []
  Holds (h ∷ s) l =
      ((length l % 2 ≡ 0) × (h ≡ nothing) × Holds s (pairs H l))
      ⊎ ((rest : List (List ℕ)) × (l ≡ rest ++ (h.bytes ∷ [])) × (length rest % 2 ≡ 0) × Holds s (pairs H rest))

  pub holds_none : (k : ℕ) → Holds (replicate k nothing) []
  unfolding Holds pairs
  holds_none zero = refl
  holds_none (suc k) = inl (refl, refl, holds_none k)

  pub merged_length : (s : List Digest) (n : ℕ) (x : Digest) → length (merged H s n x) ≡ length s
  unfolding merged
  merged_length [] n x = refl
  merged_length (h ∷ s) n x = either (eqb (n % 2) 0) (x ∷ s) (nothing ∷ merged H s (n / 2) (parent H h x)) refl (ap suc (merged_length s (n / 2) (parent H h x)))

  pairs_two : (l : List (List ℕ)) (a b : List ℕ) → length l % 2 ≡ 0 → pairs H ((l ++ (a ∷ [])) ++ (b ∷ [])) ≡ pairs H l ++ (node H a b ∷ [])
  unfolding pairs
  pairs_two l a b e = ap (pairs H) (append_assoc l (a ∷ []) (b ∷ [])) ∙ pairs_append H l (a ∷ (b ∷ [])) e

  -- one more leaf, where the levels have room for it
  pub holds_more : (s : List Digest) (l : List (List ℕ)) (n : ℕ) (x : Digest) → n ≡ length l → n + 1 < 2 ^ length s → Holds s l → Holds (merged H s n x) (l ++ (x.bytes ∷ []))
  unfolding Holds merged
  holds_more [] l n x e room p = absurd (omega arith)
  holds_more (h ∷ s) l n x e room (inl (even, blank, p)) = rw (eq-eqb (n % 2) 0 (omega arith)) (inr (l, refl, even, p))
  holds_more (h ∷ s) l n x e room (inr (rest, d, even, p)) =
      let f : length l ≡ length rest + 1 = ap length d ∙ length_snoc rest h.bytes in
      let odd : n % 2 ≡ 0 → ⊥ = λ z. omega arith in
      let k = pairs_length H rest in
      let t : 2 ^ suc (length s) ≡ 2 * 2 ^ length s = pow-succ' 2 (length s) in
      let q = length_snoc l x.bytes in
      rw (ne_eqb (n % 2) 0 odd)
      (inl (
        omega arith,
        refl,
        rw (d, pairs_two rest h.bytes x.bytes even)
            (holds_more s (pairs H rest) (n / 2) (parent H h x) (omega arith) (omega arith) p),
      ))

  -- those that count are the roots of the full subtrees
  pub holds_full : (s : List Digest) (l : List (List ℕ)) (n : ℕ) → n ≡ length l → Holds s l → counting s n ≡ full_roots H l
  unfolding Holds counting
  holds_full [] l n e p = sym (ap (full_roots H) p ∙ full_none H)
  holds_full (h ∷ s) l n e (inl (even, blank, p)) =
      let k = pairs_length H l in
      rw (eq-eqb (n % 2) 0 (omega arith)) (holds_full s (pairs H l) (n / 2) (omega arith) p ∙ full_even H l even)
  holds_full (h ∷ s) l n e (inr (rest, d, even, p)) =
      let f : length l ≡ length rest + 1 = ap length d ∙ length_snoc rest h.bytes in
      let odd : n % 2 ≡ 0 → ⊥ = λ z. omega arith in
      let k = pairs_length H rest in
      rw (ne_eqb (n % 2) 0 odd)
      (ap (λ (a : List (List ℕ)). a ++ (h.bytes ∷ [])) (holds_full s (pairs H rest) (n / 2) (omega arith) p ∙ full_even H rest even)
      ∙ sym (ap (full_roots H) d ∙ full_odd H rest h.bytes even))

  -- where a bit of the count is zero there are zeros
  pub holds_zeros : (i : ℕ) (s : List Digest) (l : List (List ℕ)) → Holds s l → (length l / 2 ^ i) % 2 ≡ 0 → get_or s i nothing ≡ nothing
  unfolding Holds
  holds_zeros i [] l p even = refl
  holds_zeros zero (h ∷ s) l (inl (even, blank, p)) z = blank
  holds_zeros zero (h ∷ s) l (inr (rest, d, even, p)) z =
      let f : length l ≡ length rest + 1 = ap length d ∙ length_snoc rest h.bytes in
      let e : length l / 1 ≡ length l = div-one (length l) in
      absurd (omega arith)
  holds_zeros (suc i) (h ∷ s) l (inl (even, blank, p)) z =
      let k = pairs_length H l in
      let q = halves (length l) (length (pairs H l)) i (omega arith) in
      holds_zeros i s (pairs H l) p (omega arith)
  holds_zeros (suc i) (h ∷ s) l (inr (rest, d, even, p)) z =
      let f : length l ≡ length rest + 1 = ap length d ∙ length_snoc rest h.bytes in
      let k = pairs_length H rest in
      let q = halves (length l) (length (pairs H rest)) i (omega arith) in
      holds_zeros i s (pairs H rest) p (omega arith)

  -- ---- which leaves are below a hash that counts

  -- one level up: of an even list, and of one more leaf after it
  last_even : (i : ℕ) (l : List (List ℕ)) → length l % 2 ≡ 0 → root H (last_full i (pairs H l)) ≡ root H (last_full (suc i) l)
  last_even i l even =
      let k = pairs_length H l in
      let q = halves (length l) (length (pairs H l)) i (omega arith) in
      root_block H i (length (pairs H l) / 2 ^ i - 1) l ∙ rw q

  last_odd : (i : ℕ) (l : List (List ℕ)) (y : List ℕ) → length l % 2 ≡ 0 → 0 < length (pairs H l) / 2 ^ i → root H (last_full i (pairs H l)) ≡ root H (last_full (suc i) (l ++ (y ∷ [])))
  last_odd i l y even some =
      let f = length_snoc l y in
      let k = pairs_length H l in
      let m = length (pairs H l) in
      let q = halves (length (l ++ (y ∷ []))) m i (omega arith) in
      let x = m / 2 ^ i - 1 in
      let t : 2 ^ suc i ≡ 2 * 2 ^ i = pow-succ' 2 i in
      let u : 2 ^ suc i * x ≡ 2 * (2 ^ i * x) = ap (λ (z : ℕ). z * x) t ∙ mul_assoc 2 (2 ^ i) x in
      let v = fits (2 ^ i) m some in
      let a : 2 ^ suc i * x ≤ length l = omega arith in
      let b : 2 ^ suc i ≤ length (drop (2 ^ suc i * x) l) = simp length-drop (omega arith) in
      root_block H i x l ∙ sym (rw (q, drop-append-le (2 ^ suc i * x) l (y ∷ []) a, take-append-le (2 ^ suc i) (drop (2 ^ suc i * x) l) (y ∷ []) b))

  last_one : (l : List (List ℕ)) (y : List ℕ) → root H (last_full 0 (l ++ (y ∷ []))) ≡ y
  last_one l y =
      let f = length_snoc l y in
      let k : 1 * (length (l ++ (y ∷ [])) / 1 - 1) ≡ length l = omega arith in
      rw (k, drop-append_seam l (y ∷ [])) (root_one H y)

  pub holds_at : (i : ℕ) (s : List Digest) (l : List (List ℕ)) → Holds s l → (length l / 2 ^ i) % 2 ≡ 1 → (get_or s i nothing).bytes ≡ root H (last_full i l)
  unfolding Holds
  holds_at i [] l p odd = let e : length l / 2 ^ i ≡ 0 = ap (λ (x : List (List ℕ)). length x / 2 ^ i) p ∙ zero-div (2 ^ i) in absurd (omega arith)
  holds_at zero (h ∷ s) l (inl (even, blank, p)) odd = let e : length l / 1 ≡ length l = div-one (length l) in absurd (omega arith)
  holds_at zero (h ∷ s) l (inr (rest, d, even, p)) odd = sym (last_one rest h.bytes) ∙ sym (ap (λ (x : List (List ℕ)). root H (last_full 0 x)) d)
  holds_at (suc i) (h ∷ s) l (inl (even, blank, p)) odd =
      let k = pairs_length H l in
      let q = halves (length l) (length (pairs H l)) i (omega arith) in
      holds_at i s (pairs H l) p (omega arith) ∙ last_even i l even
  holds_at (suc i) (h ∷ s) l (inr (rest, d, even, p)) odd =
      let f : length l ≡ length rest + 1 = ap length d ∙ length_snoc rest h.bytes in
      let k = pairs_length H rest in
      let q = halves (length l) (length (pairs H rest)) i (omega arith) in
      holds_at i s (pairs H rest) p (omega arith) ∙ last_odd i rest h.bytes even (omega arith) ∙ sym (ap (λ (x : List (List ℕ)). root H (last_full (suc i) x)) d)
