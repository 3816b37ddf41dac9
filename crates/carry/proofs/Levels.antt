-- A level of a consistency path, each root by itself. Assumes nothing.
use mathlib.Core.Path.{◌≡◌, refl}
use mathlib.Core.Bool.{Bool, false}
use mathlib.Core.List.{List, ◌∷◌, ◌++◌}
use Prim.Native.Nat.{ℕ, ◌-◌, ◌<◌, ◌≤◌}
use Rattle.tree.specs.Split.{split}
use Rattle.tree.specs.Joined.{first_nodes, node_at}
use Rattle.tree.specs.Yield.{old_root, new_root}
use Rattle.tree.proofs.Yielding.{both_low, both_high}

module _ (H : List ℕ → List ℕ) (m n k : ℕ) (f : List ℕ) (j : ℕ) (s : List ℕ) (b : Bool) (z : 0 < m) (some : 0 < j) (lt : m < n) (at_split : k ≡ split n) where
  pub old_low : {x : List ℕ} → m ≤ k → x ≡ old_root H m k b f (first_nodes (j - 1) s) → x ≡ old_root H m n b f (first_nodes j s)
  old_low h p = (both_low H m n k f j s b z some lt at_split h (p, refl) refl refl).0

  pub new_low : {x l r : List ℕ} → m ≤ k → x ≡ H (1 ∷ (l ++ r)) → l ≡ new_root H m k b f (first_nodes (j - 1) s) → r ≡ node_at (j - 1) s → x ≡ new_root H m n b f (first_nodes j s)
  new_low h e p q = (both_low H m n k f j s b z some lt at_split h (refl, p) q e).1

  pub old_high : {x l r : List ℕ} → k < m → x ≡ H (1 ∷ (l ++ r)) → l ≡ node_at (j - 1) s → r ≡ old_root H (m - k) (n - k) false f (first_nodes (j - 1) s) → x ≡ old_root H m n b f (first_nodes j s)
  old_high h e p q = (both_high H m n k f j s b z some lt at_split h (q, refl) p e refl).0

  pub new_high : {x l r : List ℕ} → k < m → x ≡ H (1 ∷ (l ++ r)) → l ≡ node_at (j - 1) s → r ≡ new_root H (m - k) (n - k) false f (first_nodes (j - 1) s) → x ≡ new_root H m n b f (first_nodes j s)
  new_high h e p q = (both_high H m n k f j s b z some lt at_split h (refl, q) p refl e).1
