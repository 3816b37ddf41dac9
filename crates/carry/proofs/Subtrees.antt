-- The full subtrees of the first m of n leaves, and S, the one that holds a place. Assumes nothing.
use mathlib.Core.Path.{◌≡◌, refl, sym, ap, ap₂, ◌∙◌}
use mathlib.Core.Logic.{◌⊎◌, inl, inr, ⊎_elim}
use mathlib.Core.Bool.{Bool, true, false, false≢true, cond}
use mathlib.Core.List.{List, [], ◌∷◌}
use Prim.Native.Nat.{ℕ, zero, suc, ◌+◌, ◌-◌, ◌*◌, ◌^◌, ◌≤◌, ◌<◌}
use native.Mathlib.Omega.{arith}
use native.Mathlib.Nat.{eq-or-lt_of_le, pow-succ'}
use lib.Count.{ones}
use lib.Dec.{leb, eqb}
use lib.ListN.{length, take, drop, length-take}
use lib.Pow.{pow_pos}
use lib.Seq.{take_all, take-take}
use borrow.Author.Tests.{lt-ltb, le-ltb, eq-eqb, ne_eqb, le-leb, lt-leb}
use Rattle.tree.specs.Split.{split, Shape, one, fork, size, shape}
use Rattle.tree.specs.Tree.{root, subproof, consistency}
use Rattle.tree.specs.Full.{full_roots}
use Rattle.tree.specs.Yield.{init, last}
use Rattle.tree.specs.Equations.{left, right}
use Rattle.octets.proofs.Order.{lt_or_ge}
use Rattle.tree.proofs.Splitting.{split_ends, split_power, split_unique, split_same, shape_one, shape_fork, size_shape, by_splits}
use Rattle.tree.proofs.Digits.{ones_top, ones_power}
use Rattle.tree.proofs.Full.{full_power, full_parts}
use Rattle.tree.proofs.Rfc.{size_left, size_right, length_left, length_right, init_snoc, last_snoc, sub_all, sub_low, sub_high, by_parts}
use Rattle.carry.specs.Levels.{above_of, subtrees_of, subtrees}
use Rattle.carry.proofs.Honest.{drop_take}

-- of n leaves, m are old: all that follow are later, or all are old and n is a power of two
unfoldable pub Within : ℕ → ℕ → Type 0
Within m n = (m < n) ⊎ ((m ≡ n) × ((j : ℕ) × (m ≡ 2 ^ j)))

-- a power of two of leaves is a full tree: its parts have one size
halves : (j : ℕ) → (1 < 2 ^ suc j) × (size (shape (split (2 ^ suc j))) ≡ size (shape (2 ^ suc j - split (2 ^ suc j))))
halves j =
    let d : 2 ^ suc j ≡ 2 * 2 ^ j = pow-succ' 2 j in
    let z = pow_pos j in
    let more : 1 < 2 ^ suc j = omega arith in
    let e : split (2 ^ suc j) ≡ 2 ^ j = split_unique (2 ^ suc j) j more (omega arith) (omega arith) in
    let l = size_left (2 ^ suc j) more in
    let r = size_right (2 ^ suc j) more in
    (more, omega arith)

pub above_full : (j x : ℕ) → above_of (shape (2 ^ j)) x ≡ 0
unfolding above_of
above_full zero x = rw shape_one
above_full (suc j) x =
    let h = halves j in
    rw (shape_fork (2 ^ suc j) h.0, eq-eqb (size (shape (split (2 ^ suc j)))) (size (shape (2 ^ suc j - split (2 ^ suc j)))) h.1)

-- where the first part is the larger
module _ (m x : ℕ) (more : 1 < m) (lop : m - split m < split m) where
  sides : size (shape (split m)) ≡ size (shape (m - split m)) → ⊥
  sides e = let l = size_left m more in let r = size_right m more in omega arith

  pub above_here : x < split m → above_of (shape m) x ≡ 1
  unfolding above_of
  above_here h =
      let l = size_left m more in
      rw (shape_fork m more, ne_eqb (size (shape (split m))) (size (shape (m - split m))) sides, lt-ltb x (size (shape (split m))) (omega arith)) refl

  pub above_beyond : split m ≤ x → above_of (shape m) x ≡ suc (above_of (shape (m - split m)) (x - split m))
  unfolding above_of
  above_beyond h =
      let l = size_left m more in
      rw (shape_fork m more, ne_eqb (size (shape (split m))) (size (shape (m - split m))) sides, le-ltb x (size (shape (split m))) (omega arith), l)

module _ (m n : ℕ) (b : Bool) (f : List ℕ) (q : List (List ℕ)) where
  subtrees_whole : (s : Shape) → m ≡ size s → subtrees_of s m b f q ≡ cond b f (last q) ∷ []
  unfolding subtrees_of size
  subtrees_whole one e = refl
  subtrees_whole (fork x y) e = rw (eq-eqb m (size x + size y) e)

  subtrees_all : 0 < m → m ≡ n → subtrees_of (shape n) m b f q ≡ cond b f (last q) ∷ []
  subtrees_all z e = subtrees_whole (shape n) (e ∙ sym (size_shape n (omega arith)))

  module _ (some : 0 < m) (lt : m < n) where
    several : 1 < n
    several = omega arith

    part : m ≡ size (shape (split n)) + size (shape (n - split n)) → ⊥
    part e = let s = split_ends n several in let u = size_left n several in let v = size_right n several in omega arith

    pub subtrees_low : m ≤ split n → subtrees_of (shape n) m b f q ≡ subtrees_of (shape (split n)) m b f (init q)
    unfolding subtrees_of
    subtrees_low l =
        let z = size_left n several in
        rw (shape_fork n several, ne_eqb m (size (shape (split n)) + size (shape (n - split n))) part, le-leb m (size (shape (split n))) (omega arith)) refl

    pub subtrees_high : split n < m → subtrees_of (shape n) m b f q ≡ last q ∷ subtrees_of (shape (n - split n)) (m - split n) false f (init q)
    unfolding subtrees_of
    subtrees_high l =
        let z = size_left n several in
        rw (shape_fork n several, ne_eqb m (size (shape (split n)) + size (shape (n - split n))) part, lt-leb m (size (shape (split n))) (omega arith), z)

-- there is one
pub subtrees_some : (s : Shape) (m : ℕ) (b : Bool) (f : List ℕ) (q : List (List ℕ)) → 0 < length (subtrees_of s m b f q)
unfolding subtrees_of
subtrees_some one m b f q = omega arith
subtrees_some (fork x y) m b f q = go (eqb m (size x + size y)) (leb m (size x)) (subtrees_some x m b f (init q))
  where
    go : (t u : Bool) → 0 < length (subtrees_of x m b f (init q)) → 0 < length (cond t (cond b f (last q) ∷ []) (cond u (subtrees_of x m b f (init q)) (last q ∷ subtrees_of y (m - size x) false f (init q))))
    go true u h = omega arith
    go false true h = h
    go false false h = omega arith

-- as many as m has one_bits
unfoldable pub Bits : ℕ → Type 0
Bits n = (m : ℕ) (b : Bool) (f : List ℕ) (q : List (List ℕ)) → 0 < m → Within m n → length (subtrees_of (shape n) m b f q) ≡ ones m

bits_all : (n m : ℕ) (b : Bool) (f : List ℕ) (q : List (List ℕ)) → 0 < m → (m ≡ n) × ((j : ℕ) × (m ≡ 2 ^ j)) → length (subtrees_of (shape n) m b f q) ≡ ones m
unfolding ones
bits_all n m b f q z w =
    let p = w.1.1 in
    ap length (subtrees_all m n b f q z w.0) ∙ sym (ap ones p ∙ ones_power w.1.0)

-- the part that holds the old leaves, where it is the first
pub narrowed : (m n : ℕ) → m ≤ split n → Within m (split n)
unfolding Within
narrowed m n l = let p = split_power n in ⊎_elim (λ e. inr (e, (p.0, e ∙ p.1))) (λ h. inl h) (eq-or-lt_of_le l)

pub bits : (n : ℕ) → 0 < n → Bits n
unfolding Bits Within
bits =
    by_splits Bits (λ m b f q z w. ⊎_elim (λ lt. absurd (omega arith)) (λ e. bits_all 1 m b f q z e) w)
    (λ n more gl gr m b f q z w.
    let s = split_ends n more in
    let p = split_power n in
    let c = p.1 in
    ⊎_elim (λ lt.
    ⊎_elim (λ hi.
    let d : 2 ^ p.0 + (m - split n) ≡ m = omega arith in
    ap length (subtrees_high m n b f q z lt hi) ∙ (let i = gr (m - split n) false f (init q) (omega arith) (inl (omega arith)) in let o = ones_top p.0 (m - split n) (omega arith) in let k = ap ones d in omega arith))
    (λ l. ap length (subtrees_low m n b f q z lt l) ∙ gl m b f (init q) z (narrowed m n l))
    (lt_or_ge (split n) m))
    (λ e. bits_all n m b f q z e) w)

-- ---- of a list's own consistency path

module _ (H : List ℕ → List ℕ) where
  -- where all leaves are old, their root is the one that stands for them
  whole_root : (l : List (List ℕ)) (m : ℕ) (b : Bool) (f : List ℕ) → 0 < m → m ≡ length l → (b ≡ true → f ≡ root H (take m l)) → cond b f (last (subproof H m l b)) ≡ root H (take m l)
  unfolding last
  whole_root l m true f z e known = known refl
  whole_root l m false f z e known = ap last (sub_all H m l false z e) ∙ sym (ap (root H) (take_all m l (omega arith)))

  Splits : List (List ℕ) → Type 0
  Splits l = (m : ℕ) (b : Bool) (f : List ℕ) → 0 < m → Within m (length l) → (b ≡ true → f ≡ root H (take m l)) → subtrees_of (shape (length l)) m b f (subproof H m l b) ≡ full_roots H (take m l)

  module _ (l : List (List ℕ)) (m : ℕ) (b : Bool) (f : List ℕ) (z : 0 < m) (known : b ≡ true → f ≡ root H (take m l)) where
    splits_all : (m ≡ length l) × ((j : ℕ) × (m ≡ 2 ^ j)) → subtrees_of (shape (length l)) m b f (subproof H m l b) ≡ full_roots H (take m l)
    splits_all w =
        let e = w.0 in
        let p = w.1.1 in
        let k : length (take m l) ≡ 2 ^ w.1.0 = simp length-take (omega arith) in
        subtrees_all m (length l) b f (subproof H m l b) z e ∙ ap (λ (x : List ℕ). x ∷ []) (whole_root l m b f z e known)
        ∙ sym (full_power H w.1.0 (take m l) k)

    module _ (lt : m < length l) where
      more : 1 < length l
      more = omega arith

      splits_low : m ≤ split (length l) → Splits (left l) → subtrees_of (shape (length l)) m b f (subproof H m l b) ≡ full_roots H (take m l)
      unfolding Splits
      splits_low h g =
          let k = split (length l) in
          let u = length_left l more in
          let t : take m (left l) ≡ take m l = take-take m k l h in
          let q : init (subproof H m l b) ≡ subproof H m (left l) b = ap init (sub_low H m l b z lt h) ∙ init_snoc (subproof H m (left l) b) (root H (right l)) in
          subtrees_low m (length l) b f (subproof H m l b) z lt h
          ∙ ap₂ (λ (n : ℕ) (p : List (List ℕ)). subtrees_of (shape n) m b f p) (sym u) q
          ∙ g m b f z (rw u (narrowed m (length l) h)) (λ c. known c ∙ ap (root H) (sym t))
          ∙ ap (full_roots H) t

      splits_high : split (length l) < m → Splits (right l) → subtrees_of (shape (length l)) m b f (subproof H m l b) ≡ full_roots H (take m l)
      unfolding Splits Within
      splits_high h g =
          let n = length l in
          let k = split n in
          let ends = split_ends n more in
          let v = length_right l more in
          let q = subproof H (m - k) (right l) false in
          let i : init (subproof H m l b) ≡ q = ap init (sub_high H m l b z lt h) ∙ init_snoc q (root H (left l)) in
          let y : last (subproof H m l b) ≡ root H (left l) = ap last (sub_high H m l b z lt h) ∙ last_snoc q (root H (left l)) in
          let o : length (take m l) ≡ m = simp length-take (omega arith) in
          let e : split (length (take m l)) ≡ k = ap split o ∙ split_same n m more h (omega arith) in
          let a : left (take m l) ≡ left l = ap (λ (j : ℕ). take j (take m l)) e ∙ take-take k m l (omega arith) in
          let d : right (take m l) ≡ take (m - k) (right l) = ap (λ (j : ℕ). drop j (take m l)) e ∙ drop_take k m l in
          subtrees_high m n b f (subproof H m l b) z lt h
          ∙ ap₂ ◌∷◌ y (ap₂ (λ (j : ℕ) (p : List (List ℕ)). subtrees_of (shape j) (m - k) false f p) (sym v) i ∙ g (m - k) false f (omega arith) (inl (omega arith)) (λ c. absurd (false≢true c)))
          ∙ sym (full_parts H (take m l) (omega arith) (omega arith) ∙ ap₂ ◌∷◌ (ap (root H) a) (ap (full_roots H) d))

  splits : (l : List (List ℕ)) → 0 < length l → Splits l
  unfolding Splits Within
  splits =
      by_parts Splits (λ h m b f z w known. ⊎_elim (λ lt. absurd (omega arith)) (λ e. splits_all (h ∷ []) m b f z known e) w)
      (λ l more gl gr m b f z w known.
      ⊎_elim (λ lt. ⊎_elim (λ h. splits_high l m b f z known lt h gr) (λ h. splits_low l m b f z known lt h gl) (lt_or_ge (split (length l)) m)) (λ e. splits_all l m b f z known e) w)

  pub own : (l : List (List ℕ)) (m : ℕ) → 0 < m → m < length l → subtrees m (length l) (root H (take m l)) (consistency H m l) ≡ full_roots H (take m l)
  unfolding subtrees consistency Splits Within
  own l m z lt = splits l (omega arith) m true (root H (take m l)) z (inl lt) (λ c. refl)
