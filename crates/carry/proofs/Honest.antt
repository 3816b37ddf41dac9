-- Both proofs built from one list of leaf hashes carry to the list's own path. Assumes nothing but the hash's length, where it is asked.
use mathlib.Core.Path.{◌≡◌, refl, sym, ap, ap₂, ◌∙◌}
use mathlib.Core.Logic.{⊎_elim}
use mathlib.Core.Bool.{Bool, true, false, false≢true, cond, ◌||◌}
use mathlib.Core.List.{List, [], ◌∷◌, ◌++◌}
use Prim.Native.Nat.{ℕ, zero, suc, ◌+◌, ◌-◌, ◌*◌, ◌/◌, ◌≤◌, ◌<◌}
use native.Mathlib.Omega.{arith}
use native.Mathlib.Nat.{eq-or-lt_of_le}
use lib.Dec.{leb, ltb, eqb}
use lib.ListN.{length, take, drop, get_or, length-take, length-drop}
use lib.Seq.{take-nil, take_all, take-take, get_or-take, get_or-drop}
use borrow.Author.Tests.{leb-false, ltb-false, eqb-false}
use Rattle.tree.specs.Split.{split}
use Rattle.tree.specs.Tree.{root, path, subproof, consistency}
use Rattle.tree.specs.Yield.{init, last, inclusion_root, old_root, new_root}
use Rattle.tree.specs.Equations.{left, right}
use Rattle.tree.specs.Limits.{largest_size}
use Rattle.tree.specs.Count.{inclusion_count, consistency_count}
use Rattle.tree.specs.Joined.{first_nodes, nodes, node_at}
use Rattle.octets.specs.Bytes.{joined}
use Rattle.tree.specs.Verdict.{inclusion_verdict, consistency_verdict}
use Rattle.tree.specs.Build.{Outcome, refused, wrote, into, unfit, inclusion_built, consistency_built}
use Rattle.octets.proofs.Order.{lt_or_ge}
use Rattle.tree.proofs.Splitting.{split_ends, split_same}
use Rattle.tree.proofs.Rfc.{init_snoc, last_snoc, length_left, length_right, by_parts, path_low, path_high, sub_low, sub_high}
use Rattle.tree.proofs.Counting.{path_length, subproof_length}
use Rattle.tree.proofs.Completing.{inclusion_complete, subproof_complete, consistency_complete, root_32, path_32, subproof_32}
use Rattle.tree.proofs.Accepting.{inclusion_accepts, consistency_accepted, consistency_accepts}
use Rattle.octets.proofs.Sameness.{same_of}
use Rattle.tree.proofs.Joining.{All32, all_take, at_first, take_from, nodes_first, nodes_length, all_nodes, joined_length, nodes_joined}
use Rattle.tree.proofs.Building.{complete}
use Rattle.carry.specs.Limits.{pair_bytes}
use Rattle.carry.specs.Strings.{string, Difference, alike, topmost}
use Rattle.carry.specs.Forward.{carried, forwarded, conflict, forward, carry}
use Rattle.carry.specs.Carries.{Honest}
use Rattle.carry.proofs.Pairing.{top_same}
use Rattle.carry.proofs.Sizing.{at_32}
use Rattle.carry.proofs.Carrying.{long}
use Rattle.carry.proofs.Stepping.{conflict_all, conflict_low, conflict_here, conflict_beyond, forward_all, forward_low, forward_here, forward_beyond}

pub drop_take : {A : Type 0} (n m : ℕ) (l : List A) → drop n (take m l) ≡ take (m - n) (drop n l)
drop_take zero m l = let e : m ≡ m - 0 = omega arith in ap (λ (k : ℕ). take k l) e
drop_take (suc n) zero l = let e : 0 ≡ 0 - suc n = omega arith in ap (λ (k : ℕ). take k (drop (suc n) l)) e
drop_take (suc n) (suc m) [] = sym (take-nil (suc m - suc n))
drop_take (suc n) (suc m) (x ∷ l) =
    let e : m - n ≡ suc m - suc n = omega arith in
    drop_take n m l ∙ ap (λ (k : ℕ). take k (drop n l)) e

-- two strings of the same children
topmost_same : (a b c d : List ℕ) (below : Difference) → a ≡ c → b ≡ d → topmost (string a b) (string c d) below ≡ below
topmost_same a b c d below e f = top_same (string a b) (string c d) below (same_of (string a b) (string c d) (ap₂ string e f))

module _ (H : List ℕ → List ℕ) where
  conflict_at : (m x : ℕ) (f : List ℕ) {n n' : ℕ} {h h' : List ℕ} {p p' q q' : List (List ℕ)} → n ≡ n' → h ≡ h' → p ≡ p' → q ≡ q' → conflict H m n x h p f q ≡ conflict H m n' x h' p' f q'
  conflict_at m x f e₁ e₂ e₃ e₄ = rw (e₁, e₂, e₃, e₄)

  forward_at : (m x : ℕ) (f : List ℕ) {n n' : ℕ} {p p' q q' : List (List ℕ)} → n ≡ n' → p ≡ p' → q ≡ q' → forward H m n x p f q ≡ forward H m n' x p' f q'
  forward_at m x f e₁ e₂ e₃ = rw (e₁, e₂, e₃)

  yields_at : (x : ℕ) {n n' : ℕ} {h h' : List ℕ} {p p' : List (List ℕ)} → n ≡ n' → h ≡ h' → p ≡ p' → inclusion_root H x n h p ≡ inclusion_root H x n' h' p'
  yields_at x e₁ e₂ e₃ = rw (e₁, e₂, e₃)

  roots_at : (m : ℕ) (f : List ℕ) {n n' : ℕ} {q q' : List (List ℕ)} → n ≡ n' → q ≡ q' → (old_root H m n false f q ≡ old_root H m n' false f q') × (new_root H m n false f q ≡ new_root H m n' false f q')
  roots_at m f e₁ e₂ = rw (e₁, e₂) (refl, refl)

  -- place x of the first m of l: nothing differs, and the path is the list's
  Held : ℕ → ℕ → Bool → List ℕ → List (List ℕ) → Type 0
  Held m x b f l =
      (conflict H m (length l) x (get_or l x []) (path H x (take m l)) f (subproof H m l b) ≡ alike)
      × (forward H m (length l) x (path H x (take m l)) f (subproof H m l b) ≡ path H x l)

  Holds : List (List ℕ) → Type 0
  Holds l = (m x : ℕ) (b : Bool) (f : List ℕ) → x < m → m ≤ length l → Held m x b f l

  held_all : (l : List (List ℕ)) (m x : ℕ) (b : Bool) (f : List ℕ) → 0 < m → m ≡ length l → Held m x b f l
  unfolding Held
  held_all l m x b f z e =
      let p = path H x (take m l) in
      let q = subproof H m l b in
      (conflict_all H m (length l) x (get_or l x []) p f q z e, forward_all H m (length l) x (get_or l x []) p f q z e ∙ ap (path H x) (take_all m l (omega arith)))

  module _ (l : List (List ℕ)) (m x : ℕ) (b : Bool) (f : List ℕ) (xm : x < m) (lt : m < length l) where
    z : 0 < m
    z = omega arith

    more : 1 < length l
    more = omega arith

    held_low : m ≤ split (length l) → Held m x b f (left l) → Held m x b f l
    unfolding Held
    held_low h ih =
        let n = length l in
        let k = split n in
        let y = root H (right l) in
        let q = subproof H m (left l) b in
        let e = sub_low H m l b z lt h in
        let i : init (subproof H m l b) ≡ q = ap init e ∙ init_snoc q y in
        let t : last (subproof H m l b) ≡ y = ap last e ∙ last_snoc q y in
        let p : path H x (take m (left l)) ≡ path H x (take m l) = ap (path H x) (take-take m k l h) in
        let g : get_or (left l) x [] ≡ get_or l x [] = get_or-take k l x [] (omega arith) in
        let u = length_left l more in (
          conflict_low H m n x (get_or l x []) (path H x (take m l)) f (subproof H m l b) z lt h ∙ conflict_at m x f (sym u) (sym g) (sym p) i ∙ ih.0,
          forward_low H m n x (get_or l x []) (path H x (take m l)) f (subproof H m l b) z lt h ∙ ap₂ (λ (r : List (List ℕ)) (s : List ℕ). r ++ (s ∷ [])) (forward_at m x f (sym u) (sym p) i ∙ ih.1) t ∙ sym (path_low H x l more (omega arith)),
        )

    module _ (h : split (length l) < m) where
      -- the first m have the same first part
      n_old : length (take m l) ≡ m
      n_old = simp length-take (omega arith)

      split_old : split (length (take m l)) ≡ split (length l)
      split_old = ap split n_old ∙ split_same (length l) m more h (omega arith)

      left_old : left (take m l) ≡ left l
      left_old = ap (λ (j : ℕ). take j (take m l)) split_old ∙ take-take (split (length l)) m l (omega arith)

      right_old : right (take m l) ≡ take (m - split (length l)) (right l)
      right_old = ap (λ (j : ℕ). drop j (take m l)) split_old ∙ drop_take (split (length l)) m l

      many : 1 < length (take m l)
      many = let e = n_old in let s = split_ends (length l) more in omega arith

      init_q : init (subproof H m l b) ≡ subproof H (m - split (length l)) (right l) false
      init_q = ap init (sub_high H m l b z lt h) ∙ init_snoc (subproof H (m - split (length l)) (right l) false) (root H (left l))

      last_q : last (subproof H m l b) ≡ root H (left l)
      last_q = ap last (sub_high H m l b z lt h) ∙ last_snoc (subproof H (m - split (length l)) (right l) false) (root H (left l))

      -- the roots that the rest of the consistency path yields
      rest : (old_root H (m - split (length l)) (length l - split (length l)) false f (init (subproof H m l b)) ≡ root H (take (m - split (length l)) (right l)))
          × (new_root H (m - split (length l)) (length l - split (length l)) false f (init (subproof H m l b)) ≡ root H (right l))
      rest =
          let v = length_right l more in
          let c = subproof_complete H (m - split (length l)) (right l) false f (omega arith) (omega arith) (λ t. absurd (false≢true t)) in
          let r = roots_at (m - split (length l)) f (sym v) init_q in
          (r.0 ∙ c.0, r.1 ∙ c.1)

      held_here : x < split (length l) → Held m x b f l
      unfolding Held
      held_here s =
          let n = length l in
          let k = split n in
          let p = path H x (take m l) in
          let e = path_low H x (take m l) many (let d = split_old in omega arith) in
          let i : init p ≡ path H x (left l) = ap init e ∙ init_snoc (path H x (left (take m l))) (root H (right (take m l))) ∙ ap (path H x) left_old in
          let t : last p ≡ root H (take (m - k) (right l)) = ap last e ∙ last_snoc (path H x (left (take m l))) (root H (right (take m l))) ∙ ap (root H) right_old in
          let g : get_or (left l) x [] ≡ get_or l x [] = get_or-take k l x [] s in
          let u = length_left l more in
          let y : inclusion_root H x k (get_or l x []) (init p) ≡ root H (left l) = yields_at x (sym u) (sym g) i ∙ inclusion_complete H x (left l) (omega arith) in (
            conflict_here H m n x (get_or l x []) p f (subproof H m l b) z lt h s ∙ topmost_same _ _ _ _ alike (y ∙ sym last_q) (t ∙ sym rest.0),
            forward_here H m n x (get_or l x []) p f (subproof H m l b) z lt h s ∙ ap₂ (λ (r : List (List ℕ)) (w : List ℕ). r ++ (w ∷ [])) i rest.1 ∙ sym (path_low H x l more s),
          )

      held_beyond : split (length l) ≤ x → Held (m - split (length l)) (x - split (length l)) false f (right l) → Held m x b f l
      unfolding Held
      held_beyond s ih =
          let n = length l in
          let k = split n in
          let p = path H x (take m l) in
          let e = path_high H x (take m l) many (let d = split_old in omega arith) in
          let o : x - split (length (take m l)) ≡ x - k = ap (λ (j : ℕ). x - j) split_old in
          let i : init p ≡ path H (x - k) (take (m - k) (right l)) = ap init e ∙ init_snoc (path H (x - split (length (take m l))) (right (take m l))) (root H (left (take m l))) ∙ ap₂ (λ (j : ℕ) (r : List (List ℕ)). path H j r) o right_old in
          let t : last p ≡ root H (left l) = ap last e ∙ last_snoc (path H (x - split (length (take m l))) (right (take m l))) (root H (left (take m l))) ∙ ap (root H) left_old in
          let d : k + (x - k) ≡ x = omega arith in
          let g : get_or (right l) (x - k) [] ≡ get_or l x [] = get_or-drop k l (x - k) [] ∙ ap (λ (j : ℕ). get_or l j []) d in
          let v = length_right l more in
          let w : length (take (m - k) (right l)) ≡ m - k = simp (length-take, length-drop) (omega arith) in
          let a : get_or (take (m - k) (right l)) (x - k) [] ≡ get_or l x [] = get_or-take (m - k) (right l) (x - k) [] (omega arith) ∙ g in
          let y : inclusion_root H (x - k) (m - k) (get_or l x []) (init p) ≡ root H (take (m - k) (right l)) = yields_at (x - k) (sym w) (sym a) i ∙ inclusion_complete H (x - k) (take (m - k) (right l)) (omega arith) in (
            conflict_beyond H m n x (get_or l x []) p f (subproof H m l b) z lt h s ∙ topmost_same _ _ _ _ (conflict H (m - k) (n - k) (x - k) (get_or l x []) (init p) f (init (subproof H m l b))) (t ∙ sym last_q) (y ∙ sym rest.0) ∙ conflict_at (m - k) (x - k) f (sym v) (sym g) i init_q ∙ ih.0,
            forward_beyond H m n x (get_or l x []) p f (subproof H m l b) z lt h s ∙ ap₂ (λ (r : List (List ℕ)) (c : List ℕ). r ++ (c ∷ [])) (forward_at (m - k) (x - k) f (sym v) i init_q ∙ ih.1) last_q ∙ sym (path_high H x l more s),
          )

  held : (l : List (List ℕ)) → 0 < length l → Holds l
  unfolding Holds
  held =
      by_parts Holds (λ h m x b f xm le. held_all (h ∷ []) m x b f (omega arith) (omega arith))
      (λ l more low high m x b f xm le.
      let k = split (length l) in
      let s = split_ends (length l) more in
      let u = length_left l more in
      let v = length_right l more in
      ⊎_elim (λ e. held_all l m x b f (omega arith) e)
      (λ lt.
      ⊎_elim (λ h. ⊎_elim (λ s. held_here l m x b f xm lt h s) (λ s. held_beyond l m x b f xm lt h s (high (m - k) (x - k) false f (omega arith) (omega arith))) (lt_or_ge x k))
      (λ h. held_low l m x b f xm lt h (low m x b f xm (omega arith)))
      (lt_or_ge k m))
      (eq-or-lt_of_le le))

  pub honest_list : (l : List (List ℕ)) (m x : ℕ) (f : List ℕ) → x < m → m ≤ length l →
      (conflict H m (length l) x (get_or l x []) (path H x (take m l)) f (consistency H m l) ≡ alike) × (forward H m (length l) x (path H x (take m l)) f (consistency H m l) ≡ path H x l)
  unfolding Holds Held consistency
  honest_list l m x f xm le = held l (omega arith) m x true f xm le

forwarded_carried : (w : List ℕ) → forwarded alike w ≡ carried w
unfolding forwarded
forwarded_carried w = refl

-- the list's own proofs are accepted, and carry to its own path
module _ (H : List ℕ → List ℕ) (H32 : (s : List ℕ) → length (H s) ≡ 32) (l : List (List ℕ)) (all : All32 l) (m x : ℕ) (xm : x < m) (le : m ≤ length l) (most : length l ≤ largest_size) where
  taken : length (take m l) ≡ m
  taken = simp length-take (omega arith)

  old_path_32 : All32 (path H x (take m l))
  old_path_32 = path_32 H H32 (take m l) (let e = taken in omega arith) x (all_take m l all)

  proof_32 : All32 (consistency H m l)
  unfolding consistency
  proof_32 = subproof_32 H H32 l (omega arith) m true (omega arith) le all

  pub own_inclusion : inclusion_verdict H (get_or l x []) x m (root H (take m l)) (joined (path H x (take m l))) ≡ 0
  own_inclusion =
      let p = path H x (take m l) in
      inclusion_accepts H (get_or l x []) x m (root H (take m l)) (joined p) record {
        leaf_32 = at_32 l x all (omega arith);
        root_32 = root_32 H H32 (take m l) (all_take m l all);
        below = xm;
        in_range = omega arith;
        counted = joined_length p old_path_32 ∙ ap (λ (i : ℕ). 32 * i) (path_length H x (take m l) ∙ ap (inclusion_count x) taken);
        yields = yields_at H x (sym taken) (sym (get_or-take m l x [] xm)) (nodes_joined p old_path_32) ∙ inclusion_complete H x (take m l) (let e = taken in omega arith);
      }

  pub own_consistency : consistency_verdict H m (length l) (root H (take m l)) (root H l) (joined (consistency H m l)) ≡ 0
  unfolding consistency consistency_count
  own_consistency =
      let q = consistency H m l in
      let g = consistency_complete H m l (omega arith) le in
      let o = root H (take m l) in
      let e = nodes_joined q proof_32 in
      consistency_accepts H m (length l) o (root H l) (joined q) record {
        first_32 = root_32 H H32 (take m l) (all_take m l all);
        second_32 = root_32 H H32 l all;
        some = omega arith;
        order = le;
        in_range = most;
        counted = joined_length q proof_32 ∙ ap (λ (i : ℕ). 32 * i) (subproof_length H m l true);
        yields_first = ap (old_root H m (length l) true o) e ∙ g.0;
        yields_second = ap (new_root H m (length l) true o) e ∙ g.1;
      }

  pub own_carried : (room pair : ℕ) → length (joined (path H x l)) ≤ room → pair_bytes ≤ pair →
      carry H (get_or l x []) x m (length l) (root H (take m l)) (root H l) (joined (path H x (take m l))) (joined (consistency H m l)) room pair ≡ carried (joined (path H x l))
  own_carried room pair fits long-pair =
      let n = length l in
      let o = root H (take m l) in
      let p = path H x (take m l) in
      let q = consistency H m l in
      let own = honest_list H l m x o xm le in
      let bytes = joined_length (path H x l) (path_32 H H32 l (omega arith) x all) in
      let count = path_length H x l in
      long H (get_or l x []) x m n o (root H l) (joined p) (joined q) room pair (sym own_inclusion) refl (sym own_consistency) refl (omega arith) long-pair
      ∙ ap₂ forwarded (conflict_at H m x o refl refl (nodes_joined p old_path_32) (nodes_joined q proof_32) ∙ own.0)
      (ap joined (forward_at H m x o refl (nodes_joined p old_path_32) (nodes_joined q proof_32) ∙ own.1)) ∙ forwarded_carried (joined (path H x l))

-- ---- on bytes

-- the nodes of the first m hashes of a buffer
first_take : (m : ℕ) (s : List ℕ) → first_nodes m (take (32 * m) s) ≡ first_nodes m s
unfolding first_nodes
first_take zero s = refl
first_take (suc m) s =
    let e : 32 * suc m - 32 ≡ 32 * m = omega arith in
    ap₂ ◌∷◌ (take-take 32 (32 * suc m) s (omega arith)) (ap (first_nodes m) (drop_take 32 (32 * suc m) s ∙ ap (λ (i : ℕ). take i (drop 32 s)) e) ∙ first_take m (drop 32 s))

module _ (m : ℕ) (s : List ℕ) (le : m ≤ length s / 32) where
  taken_count : length (take (32 * m) s) / 32 ≡ m
  taken_count = let e : length (take (32 * m) s) ≡ 32 * m = simp length-take (omega arith) in omega arith

  taken_nodes : nodes (take (32 * m) s) ≡ take m (nodes s)
  taken_nodes =
      nodes_first (take (32 * m) s) ∙ ap (λ (i : ℕ). first_nodes i (take (32 * m) s)) taken_count ∙ first_take m s
      ∙ sym (ap (take m) (nodes_first s) ∙ take_from 0 (length s / 32) m s le)

  taken_at : (x : ℕ) → x < m → node_at x (take (32 * m) s) ≡ node_at x s
  taken_at x l =
      let e : length (take (32 * m) s) / 32 ≡ m = taken_count in
      sym (at_first m x (take (32 * m) s) l) ∙ ap (λ (p : List (List ℕ)). get_or p x []) (first_take m s) ∙ at_first m x s l

-- what a builder that wrote built
built : (b : Bool) (n : ℕ) (o : Outcome) (w : List ℕ) → cond b (refused n) o ≡ wrote w → (b ≡ false) × (o ≡ wrote w)
built true n o w e = absurd (let z : ◌≡◌ {A = ℕ} 0 1 = cc in omega arith)
built false n o w e = (refl, e)

neither : (a b : Bool) → (a || b) ≡ false → (a ≡ false) × (b ≡ false)
neither true b e = absurd (false≢true (sym e))
neither false b e = (refl, e)

built_into : (room : ℕ) (x w : List ℕ) → into room x ≡ wrote w → x ≡ w
unfolding into
built_into room x w e = let p = built (ltb room (length x)) 9 (wrote x) w e in let q = p.1 in cc

module _ (H : List ℕ → List ℕ) where
  path_built : (s w : List ℕ) (place room : ℕ) → inclusion_built H s place room ≡ wrote w → (place < length s / 32) × (joined (path H place (nodes s)) ≡ w)
  unfolding inclusion_built
  path_built s w place room e =
      let a = built (unfit s) 10 _ w e in
      let b = built (leb (length s / 32) place) 6 _ w a.1 in
      (leb-false (length s / 32) place b.0, built_into room (joined (path H place (nodes s))) w b.1)

  proof_built : (s w : List ℕ) (first room : ℕ) → consistency_built H s first room ≡ wrote w → (0 < first) × (first ≤ length s / 32) × (joined (consistency H first (nodes s)) ≡ w)
  unfolding consistency_built
  proof_built s w first room e =
      let a = built (unfit s) 10 _ w e in
      let b = built (eqb first 0 || ltb (length s / 32) first) 6 _ w a.1 in
      let r = neither (eqb first 0) (ltb (length s / 32) first) b.0 in
      (let f = eqb-false first 0 r.0 in omega arith, ltb-false (length s / 32) first r.1, built_into room (joined (consistency H first (nodes s))) w b.1)

  module _ (H32 : (s : List ℕ) → length (H s) ≡ 32) where
    carry_at : (place m : ℕ) (r : List ℕ) (room pair : ℕ) {h h' o o' p p' c c' w w' : List ℕ} {n n' : ℕ} → h ≡ h' → o ≡ o' → n ≡ n' → p ≡ p' → c ≡ c' → w ≡ w' →
        carry H h place m n o r p c room pair ≡ carried w → carry H h' place m n' o' r p' c' room pair ≡ carried w'
    carry_at place m r room pair e₁ e₂ e₃ e₄ e₅ e₆ f = rw (← e₁, ← e₂, ← e₃, ← e₄, ← e₅, ← e₆) f

    pub honest : Honest H
    honest = record {
      carries = λ leaves p c w place m r₁ r₂ r₃ room pair ep ec ew fits l.
          let T = take (32 * m) leaves in
          let a = path_built T p place r₁ ep in
          let b = proof_built leaves c m r₂ ec in
          let d = path_built leaves w place r₃ ew in
          let k = taken_count m leaves b.1 in
          let t = taken_nodes m leaves b.1 in
          let size = nodes_length leaves in
          let most = (consistency_accepted H m (length leaves / 32) _ _ c ((complete H H32).consistency leaves c m r₂ ec)).in_range in
          let at : get_or (nodes leaves) place [] ≡ node_at place leaves = ap (λ (y : List (List ℕ)). get_or y place []) (nodes_first leaves) ∙ at_first (length leaves / 32) place leaves d.0 in
          carry_at place m (root H (nodes leaves)) room pair at (sym (ap (root H) t)) size (ap (λ (y : List (List ℕ)). joined (path H place y)) (sym t) ∙ a.1) b.2 d.1
          (own_carried H H32 (nodes leaves) (all_nodes leaves) m place (let i = a.0 in omega arith) (omega arith) (omega arith) room pair (let j = ap length d.1 in omega arith) l);
    }
