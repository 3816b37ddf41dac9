-- The two parts of n leaf hashes that stand in a buffer s from an index i on, as the builders go through them. Assumes nothing.
use mathlib.Core.Path.{◌≡◌, refl, sym, ap, ap₂, ◌∙◌}
use mathlib.Core.Bool.{Bool, true, false}
use mathlib.Core.List.{List, [], ◌∷◌, ◌++◌}
use Prim.Native.Nat.{ℕ, ◌+◌, ◌-◌, ◌*◌, ◌≤◌, ◌<◌}
use native.Mathlib.Omega.{arith}
use lib.ListN.{length, take, drop, length-append}
use lib.Seq.{take_at, drop_at, drop-drop, take_all, paste}
use Rattle.tree.specs.Split.{split}
use Rattle.tree.specs.Tree.{node, root, path, subproof}
use Rattle.tree.specs.Joined.{node_at, nodes_from}
use Rattle.octets.specs.Bytes.{over, joined}
use Rattle.tree.specs.Equations.{left, right}
use Rattle.tree.proofs.Splitting.{split_ends}
use Rattle.tree.proofs.Rfc.{root_one, root_split, path_one, path_low, path_high, sub_all, sub_low, sub_high}
use Rattle.tree.proofs.Completing.{root_32}
use Rattle.tree.proofs.Joining.{first_length, take_from, drop_from, one_from, all_from, joined_snoc}

module _ (i n : ℕ) (s : List ℕ) where
  pub from_length : length (nodes_from i n s) ≡ n
  from_length = first_length n (drop (32 * i) s)

  from_one : n ≡ 1 → nodes_from i n s ≡ node_at i s ∷ []
  from_one e = ap (λ (j : ℕ). nodes_from i j s) e ∙ one_from i s

  module _ (k : ℕ) (more : 1 < n) (at_split : k ≡ split n) where
    from_more : 1 < length (nodes_from i n s)
    from_more = let e = from_length in omega arith

    from_split : split (length (nodes_from i n s)) ≡ k
    from_split = ap split from_length ∙ sym at_split

    pub from_left : left (nodes_from i n s) ≡ nodes_from i k s
    from_left = let b = split_ends n more in ap (λ (j : ℕ). take j (nodes_from i n s)) from_split ∙ take_from i n k s (omega arith)

    pub from_right : right (nodes_from i n s) ≡ nodes_from (i + k) (n - k) s
    from_right = let b = split_ends n more in ap (λ (j : ℕ). drop j (nodes_from i n s)) from_split ∙ drop_from i n k s (omega arith)

module _ (H : List ℕ → List ℕ) (i n : ℕ) (s : List ℕ) where
  pub root_single : {x : List ℕ} → n ≡ 1 → x ≡ node_at i s → x ≡ root H (nodes_from i n s)
  root_single e p = p ∙ sym (ap (root H) (from_one i n s e) ∙ root_one H (node_at i s))

  pub path_single : (m : ℕ) → n ≡ 1 → path H m (nodes_from i n s) ≡ []
  path_single m e = ap (path H m) (from_one i n s e) ∙ path_one H m (node_at i s)

  module _ (k : ℕ) (more : 1 < n) (at_split : k ≡ split n) where
    first : List (List ℕ)
    first = nodes_from i k s

    rest : List (List ℕ)
    rest = nodes_from (i + k) (n - k) s

    -- MTH
    pub root_parts : {x l r : List ℕ} → x ≡ H (1 ∷ (l ++ r)) → l ≡ root H (nodes_from i k s) → r ≡ root H (nodes_from (i + k) (n - k) s) → x ≡ root H (nodes_from i n s)
    unfolding node
    root_parts e p q =
        e ∙ ap₂ (node H) (p ∙ ap (root H) (sym (from_left i n s k more at_split))) (q ∙ ap (root H) (sym (from_right i n s k more at_split)))
        ∙ sym (root_split H (nodes_from i n s) (from_more i n s k more at_split))

    -- PATH
    pub path_first : (m : ℕ) → m < k → path H m (nodes_from i n s) ≡ path H m (nodes_from i k s) ++ (root H (nodes_from (i + k) (n - k) s) ∷ [])
    path_first m h =
        let e = from_split i n s k more at_split in
        path_low H m (nodes_from i n s) (from_more i n s k more at_split) (omega arith) ∙ rw (from_left i n s k more at_split, from_right i n s k more at_split)

    pub path_rest : (m : ℕ) → k ≤ m → path H m (nodes_from i n s) ≡ path H (m - k) (nodes_from (i + k) (n - k) s) ++ (root H (nodes_from i k s) ∷ [])
    path_rest m h =
        let e = from_split i n s k more at_split in
        path_high H m (nodes_from i n s) (from_more i n s k more at_split) (omega arith) ∙ rw (from_left i n s k more at_split, from_right i n s k more at_split, e)

  -- SUBPROOF
  module _ (m : ℕ) (b : Bool) (z : 0 < m) where
    pub sub_known : m ≡ n → b ≡ true → subproof H m (nodes_from i n s) b ≡ []
    sub_known e t = sub_all H m (nodes_from i n s) b z (e ∙ sym (from_length i n s)) ∙ rw t

    pub sub_unknown : m ≡ n → b ≡ false → subproof H m (nodes_from i n s) b ≡ root H (nodes_from i n s) ∷ []
    sub_unknown e t = sub_all H m (nodes_from i n s) b z (e ∙ sym (from_length i n s)) ∙ rw t

    module _ (k : ℕ) (lt : m < n) (at_split : k ≡ split n) where
      some : 1 < n
      some = omega arith

      inner : m < length (nodes_from i n s)
      inner = let e = from_length i n s in omega arith

      pub sub_first : m ≤ k → subproof H m (nodes_from i n s) b ≡ subproof H m (nodes_from i k s) b ++ (root H (nodes_from (i + k) (n - k) s) ∷ [])
      sub_first h =
          let e = from_split i n s k some at_split in
          sub_low H m (nodes_from i n s) b z inner (omega arith) ∙ rw (from_left i n s k some at_split, from_right i n s k some at_split)

      pub sub_rest : k < m → subproof H m (nodes_from i n s) b ≡ subproof H (m - k) (nodes_from (i + k) (n - k) s) false ++ (root H (nodes_from i k s) ∷ [])
      sub_rest h =
          let e = from_split i n s k some at_split in
          sub_high H m (nodes_from i n s) b z inner (omega arith) ∙ rw (from_left i n s k some at_split, from_right i n s k some at_split, e)

-- a path q of one more hash h than p
pub record Grows (p q : List (List ℕ)) (h : List ℕ) : Type 0 where
  pub is : q ≡ p ++ (h ∷ [])
  pub wide : length h ≡ 32
  pub bytes : length (joined q) ≡ length (joined p) + 32

grows : (p q : List (List ℕ)) (h : List ℕ) → q ≡ p ++ (h ∷ []) → length h ≡ 32 → Grows p q h
grows p q h e w =
    let d = length-append (joined p) h in
    record { is = e; wide = w; bytes = ap (λ (x : List (List ℕ)). length (joined x)) e ∙ ap length (joined_snoc p h) ∙ omega arith }

module _ (H : List ℕ → List ℕ) (H32 : (s : List ℕ) → length (H s) ≡ 32) (i n : ℕ) (s : List ℕ) (room : 32 * (i + n) ≤ length s) where
  root_bytes_lem : (j l : ℕ) → 32 * (j + l) ≤ length s → length (root H (nodes_from j l s)) ≡ 32
  root_bytes_lem j l h = root_32 H H32 (nodes_from j l s) (all_from j l s h)

  module _ (k : ℕ) (more : 1 < n) (at_split : k ≡ split n) (m : ℕ) where
    pub path_grows_first : m < k → Grows (path H m (nodes_from i k s)) (path H m (nodes_from i n s)) (root H (nodes_from (i + k) (n - k) s))
    path_grows_first h = let b = split_ends n more in grows _ _ _ (path_first H i n s k more at_split m h) (root_bytes_lem (i + k) (n - k) (omega arith))

    pub path_grows_rest : k ≤ m → Grows (path H (m - k) (nodes_from (i + k) (n - k) s)) (path H m (nodes_from i n s)) (root H (nodes_from i k s))
    path_grows_rest h = let b = split_ends n more in grows _ _ _ (path_rest H i n s k more at_split m h) (root_bytes_lem i k (omega arith))

  module _ (m : ℕ) (b : Bool) (z : 0 < m) where
    pub sub_grows_all : m ≡ n → b ≡ false → Grows [] (subproof H m (nodes_from i n s) b) (root H (nodes_from i n s))
    sub_grows_all e t = grows _ _ _ (sub_unknown H i n s m b z e t) (root_bytes_lem i n room)

    module _ (k : ℕ) (lt : m < n) (at_split : k ≡ split n) where
      pub sub_grows_first : m ≤ k → Grows (subproof H m (nodes_from i k s) b) (subproof H m (nodes_from i n s) b) (root H (nodes_from (i + k) (n - k) s))
      sub_grows_first h = let e = split_ends n (omega arith) in grows _ _ _ (sub_first H i n s m b z k lt at_split h) (root_bytes_lem (i + k) (n - k) (omega arith))

      pub sub_grows_rest : k < m → Grows (subproof H (m - k) (nodes_from (i + k) (n - k) s) false) (subproof H m (nodes_from i n s) b) (root H (nodes_from i k s))
      sub_grows_rest h = let e = split_ends n (omega arith) in grows _ _ _ (sub_rest H i n s m b z k lt at_split h) (root_bytes_lem i k (omega arith))

-- writing hashes one behind the other
pub over_none : (p : List (List ℕ)) (o : List ℕ) → p ≡ [] → (0 ≡ length (joined p)) × (o ≡ over (joined p) o)
unfolding over joined
over_none p o e = rw e (refl, refl)

-- one more, at c, in a buffer that was o
pub over_more : (o : List ℕ) {p q : List (List ℕ)} {h x y : List ℕ} {c r : ℕ} → Grows p q h → c ≡ length (joined p) → x ≡ over (joined p) o → r ≡ c + 32 → y ≡ paste x c h 32 → (r ≡ length (joined q)) × (y ≡ over (joined q) o)
unfolding over
over_more o {p = p} {q = q} {h = h} {x = x} {c = c} w d f t g =
    let n = length (joined p) in
    let u : take n x ≡ joined p = ap (take n) f ∙ take_at (joined p) (drop n o) n refl in
    let v : drop (n + 32) x ≡ drop (n + 32) o = sym (drop-drop 32 n x) ∙ ap (drop 32) (ap (drop n) f ∙ drop_at (joined p) (drop n o) n refl) ∙ drop-drop 32 n o in
    let k : take 32 h ≡ h = take_all 32 h (omega arith) in
    (omega arith, g ∙ ap (λ (j : ℕ). paste x j h 32) d ∙ rw (u, v, k, w.bytes, w.is, joined_snoc p h))
