-- One level of a path of j nodes that are joined in a buffer s, as the code goes through it: from what the part below yields, and the node
-- at j - 1, to what the path yields. Assumes nothing.
use mathlib.Core.Path.{◌≡◌, refl, sym, ap, ap₂, ◌∙◌}
use mathlib.Core.Bool.{Bool, true, false}
use mathlib.Core.List.{List, ◌∷◌, ◌++◌}
use Prim.Native.Nat.{ℕ, ◌-◌, ◌*◌, ◌/◌, ◌≤◌, ◌<◌}
use native.Mathlib.Omega.{arith}
use lib.ListN.{length}
use lib.Dec.{ltb, eqb}
use borrow.Author.Tests.{lt-ltb, le-ltb, eq-eqb, ne_eqb}
use Rattle.tree.specs.Split.{split, shape}
use Rattle.tree.specs.Tree.{node}
use Rattle.tree.specs.Count.{inclusion_count, subproof_count}
use Rattle.tree.specs.Yield.{init, inclusion_root, consistency_root_of, old_root, new_root, unyielding, yielded_root, yielded_old, yielded_new}
use Rattle.tree.specs.Joined.{first_nodes, node_at}
use Rattle.tree.proofs.Rfc.{yields_few, yields_low, yields_high, either_all, either_low, either_high}
use Rattle.tree.proofs.Counting.{sub_all}
use Rattle.tree.proofs.Answering.{or_right}
use Rattle.tree.proofs.Joining.{init_first, last_first}

module _ (H : List ℕ → List ℕ) (m n k : ℕ) (f : List ℕ) (j : ℕ) (s : List ℕ) where
  -- an inclusion path, f being the leaf hash
  pub included_few : n ≤ 1 → f ≡ inclusion_root H m n f (first_nodes j s)
  included_few e = sym (yields_few H m n f (first_nodes j s) e)

  module _ {x l r : List ℕ} (some : 0 < j) (more : 1 < n) (at_split : k ≡ split n) (e : x ≡ H (1 ∷ (l ++ r))) where
    pub included_low : m < k → l ≡ inclusion_root H m k f (first_nodes (j - 1) s) → r ≡ node_at (j - 1) s → x ≡ inclusion_root H m n f (first_nodes j s)
    unfolding node
    included_low h p q =
        let y : l ≡ inclusion_root H m (split n) f (init (first_nodes j s)) = p ∙ ap₂ (λ (i : ℕ) (z : List (List ℕ)). inclusion_root H m i f z) at_split (sym (init_first j s some)) in
        e ∙ ap₂ (node H) y (q ∙ sym (last_first j s some)) ∙ sym (yields_low H m n f (first_nodes j s) more (omega arith))

    pub included_high : k ≤ m → l ≡ node_at (j - 1) s → r ≡ inclusion_root H (m - k) (n - k) f (first_nodes (j - 1) s) → x ≡ inclusion_root H m n f (first_nodes j s)
    unfolding node
    included_high h p q =
        let y : r ≡ inclusion_root H (m - split n) (n - split n) f (init (first_nodes j s)) = q ∙ ap₂ (λ (i : ℕ) (z : List (List ℕ)). inclusion_root H (m - i) (n - i) f z) at_split (sym (init_first j s some)) in
        e ∙ ap₂ (node H) (p ∙ sym (last_first j s some)) y ∙ sym (yields_high H m n f (first_nodes j s) more (omega arith))

  -- a consistency path, f being the first root: once for both roots
  module _ (with_later : List ℕ → List ℕ → List ℕ) (b : Bool) (z : 0 < m) where
    Here : List ℕ → Type 0
    Here x = x ≡ consistency_root_of H with_later (shape n) m b f (first_nodes j s)

    whole_known : m ≡ n → b ≡ true → Here f
    unfolding Here
    whole_known e t = sym (either_all H with_later m n b f (first_nodes j s) z e ∙ rw t)

    whole_unknown : {x : List ℕ} → m ≡ n → b ≡ false → j ≡ subproof_count m n b → x ≡ node_at 0 s → Here x
    unfolding Here
    whole_unknown e t c p =
        let d : j ≡ 1 = c ∙ sub_all m n b e ∙ rw t in
        let i : 0 ≡ j - 1 = omega arith in
        p ∙ ap (λ (y : ℕ). node_at y s) i ∙ sym (last_first j s (omega arith)) ∙ sym (either_all H with_later m n b f (first_nodes j s) z e ∙ rw t)

    module _ {x l r : List ℕ} (some : 0 < j) (lt : m < n) (at_split : k ≡ split n) where
      part_low : m ≤ k → x ≡ with_later l r → l ≡ consistency_root_of H with_later (shape k) m b f (first_nodes (j - 1) s) → r ≡ node_at (j - 1) s → Here x
      unfolding Here
      part_low h e p q =
          let y : l ≡ consistency_root_of H with_later (shape (split n)) m b f (init (first_nodes j s)) = p ∙ ap₂ (λ (i : ℕ) (w : List (List ℕ)). consistency_root_of H with_later (shape i) m b f w) at_split (sym (init_first j s some)) in
          e ∙ ap₂ with_later y (q ∙ sym (last_first j s some)) ∙ sym (either_low H with_later m n b f (first_nodes j s) z lt (omega arith))

      part_high : k < m → x ≡ H (1 ∷ (l ++ r)) → l ≡ node_at (j - 1) s → r ≡ consistency_root_of H with_later (shape (n - k)) (m - k) false f (first_nodes (j - 1) s) → Here x
      unfolding Here node
      part_high h e p q =
          let y : r ≡ consistency_root_of H with_later (shape (n - split n)) (m - split n) false f (init (first_nodes j s)) = q ∙ ap₂ (λ (i : ℕ) (w : List (List ℕ)). consistency_root_of H with_later (shape (n - i)) (m - i) false f w) at_split (sym (init_first j s some)) in
          e ∙ ap₂ (node H) (p ∙ sym (last_first j s some)) y ∙ sym (either_high H with_later m n b f (first_nodes j s) z lt (omega arith))

  module _ (b : Bool) (z : 0 < m) where
    pub both_known : m ≡ n → b ≡ true → (f ≡ old_root H m n b f (first_nodes j s)) × (f ≡ new_root H m n b f (first_nodes j s))
    unfolding old_root new_root Here
    both_known e t = (whole_known (λ x y. x) b z e t, whole_known (node H) b z e t)

    pub both_unknown : {x : List ℕ} → m ≡ n → b ≡ false → j ≡ subproof_count m n b → x ≡ node_at 0 s → (x ≡ old_root H m n b f (first_nodes j s)) × (x ≡ new_root H m n b f (first_nodes j s))
    unfolding old_root new_root Here
    both_unknown e t c p = (whole_unknown (λ x y. x) b z e t c p, whole_unknown (node H) b z e t c p)

    module _ (some : 0 < j) (lt : m < n) (at_split : k ≡ split n) where
      pub both_low : {x l w r : List ℕ} → m ≤ k → (x ≡ old_root H m k b f (first_nodes (j - 1) s)) × (l ≡ new_root H m k b f (first_nodes (j - 1) s)) → r ≡ node_at (j - 1) s → w ≡ H (1 ∷ (l ++ r)) →
          (x ≡ old_root H m n b f (first_nodes j s)) × (w ≡ new_root H m n b f (first_nodes j s))
      unfolding old_root new_root Here node
      both_low h p q e = (part_low (λ x y. x) b z some lt at_split h refl p.0 refl, part_low (node H) b z some lt at_split h e p.1 q)

      pub both_high : {x y l v w : List ℕ} → k < m → (x ≡ old_root H (m - k) (n - k) false f (first_nodes (j - 1) s)) × (y ≡ new_root H (m - k) (n - k) false f (first_nodes (j - 1) s)) → l ≡ node_at (j - 1) s → v ≡ H (1 ∷ (l ++ x)) → w ≡ H (1 ∷ (l ++ y)) →
          (v ≡ old_root H m n b f (first_nodes j s)) × (w ≡ new_root H m n b f (first_nodes j s))
      unfolding old_root new_root Here
      both_high h p q e d = (part_high (λ x y. x) b z some lt at_split h e q p.0, part_high (node H) b z some lt at_split h d q p.1)

-- what the first hashes of any buffer yield, and back
module _ (H : List ℕ → List ℕ) (m n : ℕ) (f s : List ℕ) where
  pub yielded_short : length s / 32 < inclusion_count m n → f ≡ yielded_root H m n f s
  unfolding yielded_root
  yielded_short h = rw (lt-ltb (length s / 32) (inclusion_count m n) h)

  yielded_long : 32 * inclusion_count m n ≤ length s → yielded_root H m n f s ≡ inclusion_root H m n f (first_nodes (inclusion_count m n) s)
  unfolding yielded_root
  yielded_long h = rw (le-ltb (length s / 32) (inclusion_count m n) (omega arith))

  module _ (j : ℕ) (c : j ≡ inclusion_count m n) (h : 32 * j ≤ length s) where
    from_count : yielded_root H m n f s ≡ inclusion_root H m n f (first_nodes j s)
    from_count = yielded_long (omega arith) ∙ ap (λ (i : ℕ). inclusion_root H m n f (first_nodes i s)) (sym c)

    pub yielded_by : {x : List ℕ} → x ≡ inclusion_root H m n f (first_nodes j s) → x ≡ yielded_root H m n f s
    yielded_by e = e ∙ sym from_count

    pub yielded_in : {x : List ℕ} → x ≡ yielded_root H m n f s → x ≡ inclusion_root H m n f (first_nodes j s)
    yielded_in e = e ∙ from_count

  -- both roots of a consistency path
  module _ (b : Bool) where
    pub unyielded : unyielding m n b s ≡ true → (f ≡ yielded_old H m n b f s) × (f ≡ yielded_new H m n b f s)
    unfolding yielded_old yielded_new
    unyielded e = (rw e, rw e)

    pub none_first : m ≡ 0 → unyielding m n b s ≡ true
    unfolding unyielding
    none_first e = rw (eq-eqb m 0 e)

    pub first_past : ltb n m ≡ true → unyielding m n b s ≡ true
    unfolding unyielding
    first_past e = or_right (eqb m 0) _ (rw e)

    pub few_nodes : (j : ℕ) → j ≡ subproof_count m n b → ltb (length s / 32) j ≡ true → unyielding m n b s ≡ true
    unfolding unyielding
    few_nodes j c e = or_right (eqb m 0) _ (or_right (ltb n m) _ (ap (ltb (length s / 32)) (sym c) ∙ e))

    yields : 0 < m → m ≤ n → 32 * subproof_count m n b ≤ length s → unyielding m n b s ≡ false
    unfolding unyielding
    yields z l h = rw (ne_eqb m 0 (λ e. omega arith), le-ltb n m l, le-ltb (length s / 32) (subproof_count m n b) (omega arith))

    module _ (j : ℕ) (z : 0 < m) (l : m ≤ n) (c : j ≡ subproof_count m n b) (h : 32 * j ≤ length s) where
      old_count : yielded_old H m n b f s ≡ old_root H m n b f (first_nodes j s)
      unfolding yielded_old
      old_count = rw (yields z l (omega arith), c)

      new_count : yielded_new H m n b f s ≡ new_root H m n b f (first_nodes j s)
      unfolding yielded_new
      new_count = rw (yields z l (omega arith), c)

      pub both_by : {x y : List ℕ} → (x ≡ old_root H m n b f (first_nodes j s)) × (y ≡ new_root H m n b f (first_nodes j s)) → (x ≡ yielded_old H m n b f s) × (y ≡ yielded_new H m n b f s)
      both_by e = (e.0 ∙ sym old_count, e.1 ∙ sym new_count)

      pub both_in : {x y : List ℕ} → (x ≡ yielded_old H m n b f s) × (y ≡ yielded_new H m n b f s) → (x ≡ old_root H m n b f (first_nodes j s)) × (y ≡ new_root H m n b f (first_nodes j s))
      both_in e = (e.0 ∙ old_count, e.1 ∙ new_count)
