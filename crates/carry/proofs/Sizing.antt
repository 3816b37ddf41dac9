-- The roots that paths of 32-byte nodes yield have 32 bytes, where the hash's values have. Assumes nothing but the hash's length.
use mathlib.Core.Path.{◌≡◌, refl, ◌∙◌}
use mathlib.Core.Logic.{⊎_elim}
use mathlib.Core.Bool.{Bool, true, false, cond}
use mathlib.Core.List.{List, [], ◌∷◌}
use Prim.Native.Nat.{ℕ, zero, suc, ◌-◌, ◌≤◌, ◌<◌}
use native.Mathlib.Omega.{arith}
use native.Mathlib.Nat.{eq-or-lt_of_le}
use lib.ListN.{length, get_or, length-append, length-take}
use Rattle.tree.specs.Split.{split, shape}
use Rattle.tree.specs.Tree.{node}
use Rattle.tree.specs.Count.{subproof_count}
use Rattle.tree.specs.Yield.{init, last, inclusion_root, consistency_root_of, old_root, new_root}
use Rattle.octets.proofs.Order.{lt_or_ge}
use Rattle.tree.proofs.Splitting.{by_splits}
use Rattle.tree.proofs.Rfc.{yields_few, yields_low, yields_high, either_all, either_low, either_high}
use Rattle.tree.proofs.Counting.{sub_all, sub_low}
use Rattle.tree.proofs.Joining.{All32, all_take}
use Rattle.carry.specs.Strings.{string}

pub at_32 : (p : List (List ℕ)) (i : ℕ) → All32 p → i < length p → length (get_or p i []) ≡ 32
unfolding All32
at_32 [] i a h = absurd (omega arith)
at_32 (x ∷ p) zero a h = a.0
at_32 (x ∷ p) (suc i) a h = at_32 p i a.1 (omega arith)

pub last_32 : (p : List (List ℕ)) → All32 p → 0 < length p → length (last p) ≡ 32
unfolding last
last_32 p a h = at_32 p (length p - 1) a (omega arith)

pub init_32 : (p : List (List ℕ)) → All32 p → All32 (init p)
unfolding init
init_32 p a = all_take (length p - 1) p a

pub init_length : (p : List (List ℕ)) → length (init p) ≡ length p - 1
unfolding init
init_length p = simp length-take (omega arith)

pub string_65 : (a b : List ℕ) → length a ≡ 32 → length b ≡ 32 → length (string a b) ≡ 65
string_65 a b p q = simp length-append (omega arith)

module _ (H : List ℕ → List ℕ) (H32 : (s : List ℕ) → length (H s) ≡ 32) where
  node_32 : (x y : List ℕ) → length (node H x y) ≡ 32
  unfolding node
  node_32 x y = H32 _

  pub inclusion_32 : (m n : ℕ) (h : List ℕ) (p : List (List ℕ)) → 0 < n → length h ≡ 32 → length (inclusion_root H m n h p) ≡ 32
  inclusion_32 m n h p z e =
      ⊎_elim (λ more. ⊎_elim (λ l. rw (yields_low H m n h p more l) (node_32 _ _)) (λ l. rw (yields_high H m n h p more l) (node_32 _ _)) (lt_or_ge m (split n)))
      (λ (single : n ≤ 1). rw (yields_few H m n h p single) e)
      (lt_or_ge 1 n)

  -- where all is old: the first root, or the one node
  whole_32 : (b : Bool) (f : List ℕ) (q : List (List ℕ)) → (b ≡ true → length f ≡ 32) → All32 q → length q ≡ cond b 0 1 → length (cond b f (last q)) ≡ 32
  whole_32 true f q e a l = e refl
  whole_32 false f q e a l = last_32 q a (omega arith)

  module _ (m n : ℕ) (b : Bool) (f : List ℕ) (q : List (List ℕ)) (z : 0 < m) (e : b ≡ true → length f ≡ 32) (a : All32 q) (l : length q ≡ subproof_count m n b) where
    all_32 : (beside : List ℕ → List ℕ → List ℕ) → m ≡ n → length (consistency_root_of H beside (shape n) m b f q) ≡ 32
    all_32 beside d = rw (either_all H beside m n b f q z d) (whole_32 b f q e a (l ∙ sub_all m n b d))

    pub new_32 : m ≤ n → length (new_root H m n b f q) ≡ 32
    unfolding new_root
    new_32 le =
        ⊎_elim (λ d. all_32 (node H) d)
        (λ lt.
        ⊎_elim (λ h. rw (either_high H (node H) m n b f q z lt h) (node_32 _ _)) (λ h. rw (either_low H (node H) m n b f q z lt h) (node_32 _ _)) (lt_or_ge (split n) m))
        (eq-or-lt_of_le le)

  Old32 : ℕ → Type 0
  Old32 n = (m : ℕ) (b : Bool) (f : List ℕ) (q : List (List ℕ)) → 0 < m → m ≤ n → (b ≡ true → length f ≡ 32) → All32 q → length q ≡ subproof_count m n b → length (old_root H m n b f q) ≡ 32

  old_all : (n m : ℕ) (b : Bool) (f : List ℕ) (q : List (List ℕ)) → 0 < m → m ≡ n → (b ≡ true → length f ≡ 32) → All32 q → length q ≡ subproof_count m n b → length (old_root H m n b f q) ≡ 32
  unfolding old_root
  old_all n m b f q z d e a l = all_32 m n b f q z e a l (λ x y. x) d

  old_part : (n m : ℕ) (b : Bool) (f : List ℕ) (q : List (List ℕ)) → 0 < m → m < n → (b ≡ true → length f ≡ 32) → All32 q → length q ≡ subproof_count m n b → Old32 (split n) → length (old_root H m n b f q) ≡ 32
  unfolding old_root Old32
  old_part n m b f q z lt e a l low =
      ⊎_elim (λ h. rw (either_high H (λ x y. x) m n b f q z lt h) (node_32 _ _))
      (λ h.
      let c = sub_low m n (split n) b z lt refl h in
      let i = init_length q in
      rw (either_low H (λ x y. x) m n b f q z lt h) (low m b f (init q) z h e (init_32 q a) (omega arith)))
      (lt_or_ge (split n) m)

  pub old_32 : (n : ℕ) → 0 < n → (m : ℕ) (b : Bool) (f : List ℕ) (q : List (List ℕ)) → 0 < m → m ≤ n → (b ≡ true → length f ≡ 32) → All32 q → length q ≡ subproof_count m n b → length (old_root H m n b f q) ≡ 32
  unfolding Old32
  old_32 =
      by_splits Old32 (λ m b f q z le e a l. old_all 1 m b f q z (omega arith) e a l)
      (λ n more low high m b f q z le e a l. ⊎_elim (λ d. old_all n m b f q z d e a l) (λ lt. old_part n m b f q z lt e a l low) (eq-or-lt_of_le le))
