-- One level of paths that are joined in buffers, as the code goes through it: from what is known below to what is known above.
-- Assumes nothing.
use mathlib.Core.Path.{◌≡◌, sym, ap, ap₂, ◌∙◌}
use mathlib.Core.Bool.{false}
use mathlib.Core.List.{List, [], ◌∷◌, ◌++◌, append-nil, append_assoc}
use Prim.Native.Nat.{ℕ, suc, ◌+◌, ◌-◌, ◌*◌, ◌≤◌, ◌<◌}
use native.Mathlib.Omega.{arith}
use lib.ListN.{length, take, drop}
use lib.Seq.{take-suc, take-length, take_all, drop-drop}
use Rattle.tree.specs.Split.{split}
use Rattle.tree.specs.Yield.{init, last, inclusion_root, old_root, new_root}
use Rattle.tree.specs.Joined.{first_nodes, node_at, nodes_from}
use Rattle.tree.proofs.Yielding.{included_low, included_high}
use Rattle.tree.proofs.Joining.{first_length, init_first, last_first}
use Rattle.carry.specs.Strings.{string, Difference, alike, topmost}
use Rattle.carry.specs.Compare.{differ}
use Rattle.carry.specs.Forward.{conflict, forward}
use Rattle.carry.specs.Inner.{path_from}
use Rattle.carry.proofs.Stepping.{differ_low, differ_high, conflict_all, conflict_low, conflict_here, conflict_beyond, forward_all, forward_low, forward_here, forward_beyond}

-- a path ends in its last node
pub init_last : (p : List (List ℕ)) → 0 < length p → p ≡ init p ++ (last p ∷ [])
unfolding init last
init_last p h =
    let e : suc (length p - 1) ≡ length p = omega arith in
    sym (take-length p) ∙ ap (λ (k : ℕ). take k p) (sym e) ∙ take-suc p (length p - 1) [] (omega arith)

-- the nodes from i up to q, and the last of them
from_more : (i q : ℕ) (s : List ℕ) → i < q → nodes_from i (q - i) s ≡ nodes_from i (q - 1 - i) s ++ (node_at (q - 1) s ∷ [])
from_more i q s h =
    let t = drop (32 * i) s in
    let l = first_length (q - i) t in
    let e : q - i - 1 ≡ q - 1 - i = omega arith in
    let d : 32 * i + 32 * (q - i - 1) ≡ 32 * (q - 1) = omega arith in
    init_last (first_nodes (q - i) t) (omega arith)
    ∙ ap₂ (λ (a : List (List ℕ)) (b : List ℕ). a ++ (b ∷ [])) (init_first (q - i) t (omega arith) ∙ ap (λ (j : ℕ). first_nodes j t) e)
    (last_first (q - i) t (omega arith) ∙ ap (take 32) (drop-drop (32 * (q - i - 1)) (32 * i) s ∙ ap (λ (j : ℕ). drop j s) d))

module _ (H : List ℕ → List ℕ) where
  -- comparing: two paths of j nodes, joined in s and t
  module _ (m n k : ℕ) (h g : List ℕ) (j : ℕ) (s t : List ℕ) (some : 0 < j) (more : 1 < n) (at_split : k ≡ split n) {u x v y : List ℕ} {below : Difference} where
    difference_low : m < k → u ≡ inclusion_root H m k h (first_nodes (j - 1) s) → x ≡ node_at (j - 1) s → v ≡ inclusion_root H m k g (first_nodes (j - 1) t) → y ≡ node_at (j - 1) t →
        below ≡ differ H m k h (first_nodes (j - 1) s) g (first_nodes (j - 1) t) → topmost (string u x) (string v y) below ≡ differ H m n h (first_nodes j s) g (first_nodes j t)
    difference_low l pu px pv py pb =
        rw (pu, px, pv, py, pb, differ_low H m n h (first_nodes j s) g (first_nodes j t) more (omega arith), init_first j s some, last_first j s some, init_first j t some, last_first j t some, at_split)

    difference_high : k ≤ m → x ≡ node_at (j - 1) s → u ≡ inclusion_root H (m - k) (n - k) h (first_nodes (j - 1) s) → y ≡ node_at (j - 1) t → v ≡ inclusion_root H (m - k) (n - k) g (first_nodes (j - 1) t) →
        below ≡ differ H (m - k) (n - k) h (first_nodes (j - 1) s) g (first_nodes (j - 1) t) → topmost (string x u) (string y v) below ≡ differ H m n h (first_nodes j s) g (first_nodes j t)
    difference_high l px pu py pv pb =
        rw (pu, px, pv, py, pb, differ_high H m n h (first_nodes j s) g (first_nodes j t) more (omega arith), init_first j s some, last_first j s some, init_first j t some, last_first j t some, at_split)

    -- both roots, and what differs
    module _ {p q : List ℕ} {d : Difference} where
      pub level_low : m < k → x ≡ node_at (j - 1) s → y ≡ node_at (j - 1) t → (u ≡ inclusion_root H m k h (first_nodes (j - 1) s)) × ((v ≡ inclusion_root H m k g (first_nodes (j - 1) t)) × (below ≡ differ H m k h (first_nodes (j - 1) s) g (first_nodes (j - 1) t))) →
          (p ≡ H (string u x)) × (q ≡ H (string v y)) → d ≡ topmost (string u x) (string v y) below →
          (p ≡ inclusion_root H m n h (first_nodes j s)) × ((q ≡ inclusion_root H m n g (first_nodes j t)) × (d ≡ differ H m n h (first_nodes j s) g (first_nodes j t)))
      level_low l px py b e f =
          (included_low H m n k h j s some more at_split e.0 l b.0 px, (included_low H m n k g j t some more at_split e.1 l b.1.0 py, f ∙ difference_low l b.0 px b.1.0 py b.1.1))

      pub level_high : k ≤ m → x ≡ node_at (j - 1) s → y ≡ node_at (j - 1) t → (u ≡ inclusion_root H (m - k) (n - k) h (first_nodes (j - 1) s)) × ((v ≡ inclusion_root H (m - k) (n - k) g (first_nodes (j - 1) t)) × (below ≡ differ H (m - k) (n - k) h (first_nodes (j - 1) s) g (first_nodes (j - 1) t))) →
          (p ≡ H (string x u)) × (q ≡ H (string y v)) → d ≡ topmost (string x u) (string y v) below →
          (p ≡ inclusion_root H m n h (first_nodes j s)) × ((q ≡ inclusion_root H m n g (first_nodes j t)) × (d ≡ differ H m n h (first_nodes j s) g (first_nodes j t)))
      level_high l px py b e f =
          (included_high H m n k h j s some more at_split e.0 l px b.0, (included_high H m n k g j t some more at_split e.1 l py b.1.0, f ∙ difference_high l px b.0 py b.1.0 b.1.1))

  -- carrying: i nodes of the old path in s, and j of the consistency path in t
  module _ (x m n k : ℕ) (h f : List ℕ) (i j : ℕ) (s t : List ℕ) (z : 0 < m) where
    pub walked_all : {d : Difference} → m ≡ n → d ≡ alike → d ≡ conflict H m n x h (first_nodes i s) f (first_nodes j t)
    walked_all e p = p ∙ sym (conflict_all H m n x h (first_nodes i s) f (first_nodes j t) z e)

    pub path_all : (w : List ℕ) → m ≡ n → path_from i 0 w j s t j ≡ forward H m n x (first_nodes i s) f (first_nodes j t)
    unfolding path_from first_nodes
    path_all w e =
        let o : j - j ≡ 0 = omega arith in
        rw o (append-nil (first_nodes i s) ∙ sym (forward_all H m n x h (first_nodes i s) f (first_nodes j t) z e))

    module _ (lt : m < n) (at_split : k ≡ split n) (some : 0 < j) where
      pub walked_low : {d : Difference} → m ≤ k → d ≡ conflict H m k x h (first_nodes i s) f (first_nodes (j - 1) t) → d ≡ conflict H m n x h (first_nodes i s) f (first_nodes j t)
      walked_low l p = p ∙ rw (conflict_low H m n x h (first_nodes i s) f (first_nodes j t) z lt (omega arith), init_first j t some, at_split)

      -- one node more of the consistency path
      longer : (low hashed : ℕ) (w : List ℕ) (high : ℕ) → high < j → path_from low hashed w high s t j ≡ path_from low hashed w high s t (j - 1) ++ (node_at (j - 1) t ∷ [])
      unfolding path_from
      longer low hashed w high b =
          let a = first_nodes low s in
          let e = first_nodes hashed w in
          let r = nodes_from high (j - 1 - high) t in
          let y = node_at (j - 1) t ∷ [] in
          ap (λ (r : List (List ℕ)). a ++ (e ++ r)) (from_more high j t b) ∙ ap (λ (r : List (List ℕ)). a ++ r) (sym (append_assoc e r y)) ∙ sym (append_assoc a (e ++ r) y)

      pub path_low : (low hashed : ℕ) (w : List ℕ) (high : ℕ) → high < j → m ≤ k → path_from low hashed w high s t (j - 1) ≡ forward H m k x (first_nodes i s) f (first_nodes (j - 1) t) →
          path_from low hashed w high s t j ≡ forward H m n x (first_nodes i s) f (first_nodes j t)
      path_low low hashed w high b l p =
          longer low hashed w high b ∙ rw (p, forward_low H m n x h (first_nodes i s) f (first_nodes j t) z lt (omega arith), init_first j t some, last_first j t some, at_split)

      module _ (hi : k < m) (side : 0 < i) {y a c o : List ℕ} where
        pub walked_here : {d below : Difference} → x < k → d ≡ topmost (string y a) (string c o) below → below ≡ alike → y ≡ inclusion_root H x k h (first_nodes (i - 1) s) → a ≡ node_at (i - 1) s → c ≡ node_at (j - 1) t →
            o ≡ old_root H (m - k) (n - k) false f (first_nodes (j - 1) t) → d ≡ conflict H m n x h (first_nodes i s) f (first_nodes j t)
        walked_here l p pb py pa pc po =
            p ∙ rw (pb, py, pa, pc, po, conflict_here H m n x h (first_nodes i s) f (first_nodes j t) z lt (omega arith) (omega arith), init_first i s side, last_first i s side, init_first j t some, last_first j t some, at_split)

        pub walked_beyond : {d below : Difference} → k ≤ x → d ≡ topmost (string a y) (string c o) below → a ≡ node_at (i - 1) s → y ≡ inclusion_root H (x - k) (m - k) h (first_nodes (i - 1) s) → c ≡ node_at (j - 1) t →
            o ≡ old_root H (m - k) (n - k) false f (first_nodes (j - 1) t) → below ≡ conflict H (m - k) (n - k) (x - k) h (first_nodes (i - 1) s) f (first_nodes (j - 1) t) →
            d ≡ conflict H m n x h (first_nodes i s) f (first_nodes j t)
        walked_beyond l p pa py pc po pb =
            p ∙ rw (py, pa, pc, po, pb, conflict_beyond H m n x h (first_nodes i s) f (first_nodes j t) z lt (omega arith) (omega arith), init_first i s side, last_first i s side, init_first j t some, last_first j t some, at_split)

      pub path_here : (w : List ℕ) → k < m → 0 < i → x < k → length w ≡ 32 → w ≡ new_root H (m - k) (n - k) false f (first_nodes (j - 1) t) → path_from (i - 1) 1 w j s t j ≡ forward H m n x (first_nodes i s) f (first_nodes j t)
      unfolding path_from first_nodes
      path_here w hi side l len pw =
          let o : j - j ≡ 0 = omega arith in
          let e : take 32 w ≡ w = take_all 32 w (omega arith) in
          rw (o, e) (ap (λ (v : List ℕ). first_nodes (i - 1) s ++ (v ∷ [])) pw ∙ rw (forward_here H m n x h (first_nodes i s) f (first_nodes j t) z lt (omega arith) (omega arith), init_first i s side, init_first j t some, at_split))

      pub path_beyond : (low hashed : ℕ) (w : List ℕ) (high : ℕ) → high < j → k < m → 0 < i → k ≤ x → path_from low hashed w high s t (j - 1) ≡ forward H (m - k) (n - k) (x - k) (first_nodes (i - 1) s) f (first_nodes (j - 1) t) →
          path_from low hashed w high s t j ≡ forward H m n x (first_nodes i s) f (first_nodes j t)
      path_beyond low hashed w high b hi side l p =
          longer low hashed w high b ∙ rw (p, forward_beyond H m n x h (first_nodes i s) f (first_nodes j t) z lt (omega arith) (omega arith), init_first i s side, init_first j t some, last_first j t some, at_split)
