-- How many nodes paths have: the counts by the numbers, their bounds, and that the definition's paths have so many. Assumes nothing.
use mathlib.Core.Path.{◌≡◌, refl, sym, ◌∙◌}
use mathlib.Core.Logic.{⊎_elim}
use mathlib.Core.Bool.{Bool, true, false, cond}
use mathlib.Core.List.{List, [], ◌∷◌, ◌++◌}
use Prim.Native.Nat.{ℕ, zero, suc, ◌+◌, ◌-◌, ◌^◌, ◌≤◌, ◌<◌}
use native.Mathlib.Omega.{arith}
use native.Mathlib.Nat.{pow-zero}
use lib.Dec.{leb, ltb, eqb}
use lib.ListN.{length, take, drop, length-append}
use borrow.Author.Tests.{lt-ltb, le-ltb, eq-eqb, ne_eqb, le-leb, lt-leb}
use Rattle.tree.specs.Limits.{most_nodes}
use Rattle.tree.specs.Split.{split, Shape, one, fork, size, shape}
use Rattle.tree.specs.Tree.{root_of, path_of, path, subproof_of, subproof, consistency}
use Rattle.tree.specs.Count.{inclusion_count_of, inclusion_count, subproof_count_of, subproof_count, consistency_count}
use Rattle.tree.specs.Claims.{Bounds, Counts}
use Rattle.octets.proofs.Order.{lt_or_ge}
use Rattle.tree.proofs.Splitting.{split_ends, split_most, shape_few, shape_fork, size_shape}
use Rattle.tree.proofs.Rfc.{size_left, size_right}

-- the inclusion path, by the split
pub count_few : (m n : ℕ) → n ≤ 1 → inclusion_count m n ≡ 0
unfolding inclusion_count inclusion_count_of
count_few m n h = rw (shape_few n h)

module _ (m n k : ℕ) (more : 1 < n) (at_split : k ≡ split n) where
  pub count_low : m < k → inclusion_count m n ≡ 1 + inclusion_count m k
  unfolding inclusion_count inclusion_count_of
  count_low h =
      let e = size_left n more in
      rw (at_split, shape_fork n more, lt-ltb m (size (shape (split n))) (omega arith))

  pub count_high : k ≤ m → inclusion_count m n ≡ 1 + inclusion_count (m - k) (n - k)
  unfolding inclusion_count inclusion_count_of
  count_high h =
      let e = size_left n more in
      rw (at_split, shape_fork n more, le-ltb m (size (shape (split n))) (omega arith), e)

  pub count_some : 1 ≤ inclusion_count m n
  count_some = ⊎_elim (λ t. let e = count_low t in omega arith) (λ t. let e = count_high t in omega arith) (lt_or_ge m k)

-- the consistency path, by the split
sub_whole : (s : Shape) (m : ℕ) (b : Bool) → m ≡ size s → subproof_count_of s m b ≡ cond b 0 1
unfolding subproof_count_of size
sub_whole one m b e = refl
sub_whole (fork a c) m b e = rw (eq-eqb m (size a + size c) e)

pub sub_few : (m n : ℕ) (b : Bool) → n ≤ 1 → subproof_count m n b ≡ cond b 0 1
unfolding subproof_count subproof_count_of
sub_few m n b h = rw (shape_few n h)

pub sub_all : (m n : ℕ) (b : Bool) → m ≡ n → subproof_count m n b ≡ cond b 0 1
unfolding subproof_count
sub_all m n b e = ⊎_elim (λ z. sub_whole (shape n) m b (e ∙ sym (size_shape n z))) (λ z. sub_few m n b (omega arith)) (lt_or_ge 0 n)

module _ (m n k : ℕ) (b : Bool) (more : 1 < n) (other : m ≡ n → ⊥) (at_split : k ≡ split n) where
  part : m ≡ size (shape (split n)) + size (shape (n - split n)) → ⊥
  part e = let s = split_ends n more in let u = size_left n more in let v = size_right n more in other (omega arith)

  pub down_low : m ≤ k → subproof_count m n b ≡ 1 + subproof_count m k b
  unfolding subproof_count subproof_count_of
  down_low h =
      let z = size_left n more in
      rw (at_split, shape_fork n more, ne_eqb m (size (shape (split n)) + size (shape (n - split n))) part, le-leb m (size (shape (split n))) (omega arith))

  pub down_high : k < m → subproof_count m n b ≡ 1 + subproof_count (m - k) (n - k) false
  unfolding subproof_count subproof_count_of
  down_high h =
      let z = size_left n more in
      rw (at_split, shape_fork n more, ne_eqb m (size (shape (split n)) + size (shape (n - split n))) part, lt-leb m (size (shape (split n))) (omega arith), z)

-- the same where the first m of n are a part of them
module _ (m n k : ℕ) (b : Bool) (some : 0 < m) (lt : m < n) (at_split : k ≡ split n) where
  pub sub_low : m ≤ k → subproof_count m n b ≡ 1 + subproof_count m k b
  sub_low = down_low m n k b (omega arith) (λ e. omega arith) at_split

  pub sub_high : k < m → subproof_count m n b ≡ 1 + subproof_count (m - k) (n - k) false
  sub_high = down_high m n k b (omega arith) (λ e. omega arith) at_split

  pub sub_some : 1 ≤ subproof_count m n b
  sub_some = ⊎_elim (λ t. let e = sub_high t in omega arith) (λ t. let e = sub_low t in omega arith) (lt_or_ge k m)

-- bounds
few : (b : Bool) (k : ℕ) → cond b 0 1 ≤ k + 1
few true k = omega arith
few false k = omega arith

pub inclusion_most : (k m n : ℕ) → m < n → n ≤ 2 ^ k → inclusion_count m n ≤ k
inclusion_most zero m n l h = rw (count_few m n (omega (arith, pow-zero 2))) (omega arith)
inclusion_most (suc k) m n l h =
    ⊎_elim (λ more.
    let s = split_ends n more in
    let b = split_most n k more h in
    ⊎_elim (λ t. let i = inclusion_most k m (split n) t b in let c = count_low m n (split n) more refl t in omega arith)
    (λ t. let i = inclusion_most k (m - split n) (n - split n) (omega arith) (omega arith) in let c = count_high m n (split n) more refl t in omega arith)
    (lt_or_ge m (split n)))
    (λ (single : n ≤ 1). rw (count_few m n single) (omega arith))
    (lt_or_ge 1 n)

pub subproof_most : (k m n : ℕ) (b : Bool) → 0 < m → m ≤ n → n ≤ 2 ^ k → subproof_count m n b ≤ k + 1
subproof_most zero m n b z l h = let e : m ≡ n = omega (arith, pow-zero 2) in rw (sub_all m n b e) (few b 0)
subproof_most (suc k) m n b z l h =
    ⊎_elim (λ less.
    let more : 1 < n = omega arith in
    let s = split_ends n more in
    let w = split_most n k more h in
    ⊎_elim (λ u. let i = subproof_most k (m - split n) (n - split n) false (omega arith) (omega arith) (omega arith) in let c = sub_high m n (split n) b z less refl u in omega arith)
    (λ u. let i = subproof_most k m (split n) b z u w in let c = sub_low m n (split n) b z less refl u in omega arith)
    (lt_or_ge (split n) m))
    (λ all. let e : m ≡ n = omega arith in rw (sub_all m n b e) (few b (suc k)))
    (lt_or_ge m n)

pub bounds : Bounds
unfolding consistency_count
bounds = record {
  inclusion = inclusion_most;
  consistency = λ k m n z l h. subproof_most k m n true z l h;
  inclusion_largest = λ m n l h. inclusion_most most_nodes m n l (omega arith);
  consistency_largest = λ m n z l h. subproof_most most_nodes m n true z l (omega arith);
}

-- the definition's paths have so many nodes
module _ (H : List ℕ → List ℕ) where
  path_count : (s : Shape) (m : ℕ) (l : List (List ℕ)) → length (path_of H s m l) ≡ inclusion_count_of s m
  unfolding path_of inclusion_count_of
  path_count one m l = refl
  path_count (fork a b) m l = go (ltb m (size a)) (path_count a m (take (size a) l)) (path_count b (m - size a) (drop (size a) l))
    where
      go : (t : Bool) → length (path_of H a m (take (size a) l)) ≡ inclusion_count_of a m → length (path_of H b (m - size a) (drop (size a) l)) ≡ inclusion_count_of b (m - size a) →
          length (cond t (path_of H a m (take (size a) l) ++ (root_of H b (drop (size a) l) ∷ [])) (path_of H b (m - size a) (drop (size a) l) ++ (root_of H a (take (size a) l) ∷ []))) ≡ cond t (1 + inclusion_count_of a m) (1 + inclusion_count_of b (m - size a))
      go true p q = simp length-append (omega arith)
      go false p q = simp length-append (omega arith)

  one_node : (b : Bool) (x : List ℕ) → length (cond b [] (x ∷ [])) ≡ cond b 0 1
  one_node true x = refl
  one_node false x = refl

  sub_count : (s : Shape) (m : ℕ) (l : List (List ℕ)) (b : Bool) → length (subproof_of H s m l b) ≡ subproof_count_of s m b
  unfolding subproof_of subproof_count_of
  sub_count one m l b = one_node b (root_of H one l)
  sub_count (fork a c) m l b = go (eqb m (size a + size c)) (leb m (size a)) (sub_count a m (take (size a) l) b) (sub_count c (m - size a) (drop (size a) l) false)
    where
      go : (t u : Bool) → length (subproof_of H a m (take (size a) l) b) ≡ subproof_count_of a m b → length (subproof_of H c (m - size a) (drop (size a) l) false) ≡ subproof_count_of c (m - size a) false →
          length (cond t (cond b [] (root_of H (fork a c) l ∷ [])) (cond u (subproof_of H a m (take (size a) l) b ++ (root_of H c (drop (size a) l) ∷ [])) (subproof_of H c (m - size a) (drop (size a) l) false ++ (root_of H a (take (size a) l) ∷ [])))) ≡ cond t (cond b 0 1) (cond u (1 + subproof_count_of a m b) (1 + subproof_count_of c (m - size a) false))
      go true u p q = one_node b (root_of H (fork a c) l)
      go false true p q = simp length-append (omega arith)
      go false false p q = simp length-append (omega arith)

  pub path_length : (m : ℕ) (l : List (List ℕ)) → length (path H m l) ≡ inclusion_count m (length l)
  unfolding path inclusion_count
  path_length m l = path_count (shape (length l)) m l

  pub subproof_length : (m : ℕ) (l : List (List ℕ)) (b : Bool) → length (subproof H m l b) ≡ subproof_count m (length l) b
  unfolding subproof subproof_count
  subproof_length m l b = sub_count (shape (length l)) m l b

  pub counts : Counts H
  unfolding consistency consistency_count
  counts = record { inclusion = path_length; consistency = λ m l. subproof_length m l true }
