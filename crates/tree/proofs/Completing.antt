-- Completeness: the definition's paths yield the roots, and have hashes of 32 bytes. Assumes nothing but the hash's length, where it is asked.
use mathlib.Core.Path.{◌≡◌, refl, sym, ap, ap₂, ◌∙◌}
use mathlib.Core.Logic.{⊎_elim}
use mathlib.Core.Bool.{Bool, true, false, false≢true, cond}
use mathlib.Core.List.{List, [], ◌∷◌}
use Prim.Native.Nat.{ℕ, zero, suc, ◌-◌, ◌≤◌, ◌<◌}
use native.Mathlib.Omega.{arith}
use native.Mathlib.Nat.{eq-or-lt_of_le}
use lib.ListN.{length, take, drop, get_or, length-take}
use lib.Seq.{take-nil, take_all, take-take, get_or-take, get_or-drop}
use Rattle.tree.specs.Split.{split}
use Rattle.tree.specs.Tree.{node, root, path, subproof, consistency}
use Rattle.tree.specs.Yield.{init, last, inclusion_root, old_root, new_root}
use Rattle.tree.specs.Equations.{left, right}
use Rattle.octets.proofs.Order.{lt_or_ge}
use Rattle.tree.proofs.Splitting.{split_ends, split_same}
use Rattle.tree.proofs.Rfc.{init_snoc, last_snoc, length_left, length_right, by_parts, root_none, root_one, root_split, path_one, path_low, path_high, sub_all, sub_low, sub_high, yields_few, yields_low, yields_high, equations}
use Rattle.tree.proofs.Joining.{All32, all_none, all_append, all_one, all_take, all_drop}

drop_take : {A : Type 0} (n m : ℕ) (l : List A) → drop n (take m l) ≡ take (m - n) (drop n l)
drop_take zero m l = let e : m ≡ m - 0 = omega arith in ap (λ (k : ℕ). take k l) e
drop_take (suc n) zero l = let e : 0 ≡ 0 - suc n = omega arith in ap (λ (k : ℕ). take k (drop (suc n) l)) e
drop_take (suc n) (suc m) [] = sym (take-nil (suc m - suc n))
drop_take (suc n) (suc m) (x ∷ l) =
    let e : m - n ≡ suc m - suc n = omega arith in
    drop_take n m l ∙ ap (λ (k : ℕ). take k (drop n l)) e

at_right : (m k : ℕ) (l : List (List ℕ)) → k ≤ m → get_or (drop k l) (m - k) [] ≡ get_or l m []
at_right m k l h = get_or-drop k l (m - k) [] ∙ ap (λ (i : ℕ). get_or l i []) (omega arith)

module _ (H : List ℕ → List ℕ) where
  -- the path of a place yields the root
  Reaches : List (List ℕ) → Type 0
  Reaches l = (m : ℕ) → m < length l → inclusion_root H m (length l) (get_or l m []) (path H m l) ≡ root H l

  reaches_one : (h : List ℕ) → Reaches (h ∷ [])
  unfolding Reaches
  reaches_one h m lt =
      let e : m ≡ 0 = omega arith in
      yields_few H m 1 (get_or (h ∷ []) m []) (path H m (h ∷ [])) (omega arith) ∙ ap (λ (i : ℕ). get_or (h ∷ []) i []) e ∙ sym (root_one H h)

  module _ (l : List (List ℕ)) (more : 1 < length l) (m : ℕ) (lt : m < length l) where
    reaches_low : m < split (length l) → inclusion_root H m (length (left l)) (get_or (left l) m []) (path H m (left l)) ≡ root H (left l) → inclusion_root H m (length l) (get_or l m []) (path H m l) ≡ root H l
    reaches_low h ih =
        let x = root H (right l) in
        let p = path H m (left l) in
        let e = path_low H m l more h in
        let i : init (path H m l) ≡ p = ap init e ∙ init_snoc p x in
        let t : last (path H m l) ≡ x = ap last e ∙ last_snoc p x in
        let g : inclusion_root H m (split (length l)) (get_or l m []) p ≡ root H (left l) =
        ap₂ (λ (j : ℕ) (y : List ℕ). inclusion_root H m j y p) (sym (length_left l more)) (sym (get_or-take (split (length l)) l m [] h)) ∙ ih in
        yields_low H m (length l) (get_or l m []) (path H m l) more h ∙ rw (i, t) (ap (λ (y : List ℕ). node H y x) g ∙ sym (root_split H l more))

    reaches_high : split (length l) ≤ m → inclusion_root H (m - split (length l)) (length (right l)) (get_or (right l) (m - split (length l)) []) (path H (m - split (length l)) (right l)) ≡ root H (right l) → inclusion_root H m (length l) (get_or l m []) (path H m l) ≡ root H l
    reaches_high h ih =
        let x = root H (left l) in
        let p = path H (m - split (length l)) (right l) in
        let e = path_high H m l more h in
        let i : init (path H m l) ≡ p = ap init e ∙ init_snoc p x in
        let t : last (path H m l) ≡ x = ap last e ∙ last_snoc p x in
        let g : inclusion_root H (m - split (length l)) (length l - split (length l)) (get_or l m []) p ≡ root H (right l) =
        ap₂ (λ (j : ℕ) (y : List ℕ). inclusion_root H (m - split (length l)) j y p) (sym (length_right l more)) (sym (at_right m (split (length l)) l h)) ∙ ih in
        yields_high H m (length l) (get_or l m []) (path H m l) more h ∙ rw (i, t) (ap (node H x) g ∙ sym (root_split H l more))

  reaches : (l : List (List ℕ)) → 0 < length l → Reaches l
  unfolding Reaches
  reaches =
      by_parts Reaches reaches_one
      (λ l more low high m lt.
      let u = length_left l more in
      let v = length_right l more in
      ⊎_elim (λ h. reaches_low l more m lt h (low m (omega arith))) (λ h. reaches_high l more m lt h (high (m - split (length l)) (omega arith))) (lt_or_ge m (split (length l))))

  pub inclusion_complete : (m : ℕ) (l : List (List ℕ)) → m < length l → inclusion_root H m (length l) (get_or l m []) (path H m l) ≡ root H l
  unfolding Reaches
  inclusion_complete m l h = reaches l (omega arith) m h

  -- the consistency path yields both roots, if the root that stands for the first m is theirs
  Both : ℕ → Bool → List ℕ → List (List ℕ) → Type 0
  Both m b f l = (old_root H m (length l) b f (subproof H m l b) ≡ root H (take m l)) × (new_root H m (length l) b f (subproof H m l b) ≡ root H l)

  Yields : List (List ℕ) → Type 0
  Yields l = (m : ℕ) (b : Bool) (f : List ℕ) → 0 < m → m ≤ length l → (b ≡ true → f ≡ root H (take m l)) → Both m b f l

  both_all : (l : List (List ℕ)) (m : ℕ) (b : Bool) (f : List ℕ) → 0 < m → m ≡ length l → (b ≡ true → f ≡ root H (take m l)) → Both m b f l
  unfolding Both
  both_all l m true f z e first =
      let p = subproof H m l true in
      let w : root H (take m l) ≡ root H l = ap (root H) (take_all m l (omega arith)) in
      (((equations H).old m (length l) f p z).known e ∙ first refl, ((equations H).new m (length l) f p z).known e ∙ first refl ∙ w)
  both_all l m false f z e first =
      let p = subproof H m l false in
      let w : root H l ≡ root H (take m l) = ap (root H) (sym (take_all m l (omega arith))) in
      let t : last p ≡ root H l = ap last (sub_all H m l false z e) ∙ last_snoc [] (root H l) in
      (((equations H).old m (length l) f p z).unknown e ∙ t ∙ w, ((equations H).new m (length l) f p z).unknown e ∙ t)

  module _ (l : List (List ℕ)) (m : ℕ) (b : Bool) (f : List ℕ) (z : 0 < m) (lt : m < length l) where
    several : 1 < length l
    several = omega arith

    both_low : m ≤ split (length l) → Both m b f (left l) → Both m b f l
    unfolding Both
    both_low h ih =
        let x = root H (right l) in
        let q = subproof H m (left l) b in
        let p = subproof H m l b in
        let e = sub_low H m l b z lt h in
        let i : init p ≡ q = ap init e ∙ init_snoc q x in
        let t : last p ≡ x = ap last e ∙ last_snoc q x in
        let u = sym (length_left l several) in (
          ((equations H).old m (length l) f p z).low b lt h ∙ ap₂ (λ (j : ℕ) (r : List (List ℕ)). old_root H m j b f r) u i ∙ ih.0 ∙ ap (root H) (take-take m (split (length l)) l h),
          ((equations H).new m (length l) f p z).low b lt h ∙ ap₂ (node H) (ap₂ (λ (j : ℕ) (r : List (List ℕ)). new_root H m j b f r) u i ∙ ih.1) t ∙ sym (root_split H l several),
        )

    -- the first m are the first part and some of the rest
    old_split : split (length l) < m → root H (take m l) ≡ node H (root H (left l)) (root H (take (m - split (length l)) (right l)))
    old_split h =
        let k = split (length l) in
        let s = split_ends (length l) several in
        let n : length (take m l) ≡ m = simp length-take (omega arith) in
        let g : split (length (take m l)) ≡ k = ap split n ∙ split_same (length l) m several h (omega arith) in
        root_split H (take m l) (omega arith)
        ∙ ap₂ (λ (x y : List (List ℕ)). node H (root H x) (root H y)) (ap (λ (j : ℕ). take j (take m l)) g ∙ take-take k m l (omega arith)) (ap (λ (j : ℕ). drop j (take m l)) g ∙ drop_take k m l)

    both_high : split (length l) < m → Both (m - split (length l)) false f (right l) → Both m b f l
    unfolding Both
    both_high h ih =
        let k = split (length l) in
        let x = root H (left l) in
        let q = subproof H (m - k) (right l) false in
        let p = subproof H m l b in
        let e = sub_high H m l b z lt h in
        let i : init p ≡ q = ap init e ∙ init_snoc q x in
        let t : last p ≡ x = ap last e ∙ last_snoc q x in
        let u = sym (length_right l several) in (
          ((equations H).old m (length l) f p z).high b lt h ∙ ap₂ (node H) t (ap₂ (λ (j : ℕ) (r : List (List ℕ)). old_root H (m - k) j false f r) u i ∙ ih.0) ∙ sym (old_split h),
          ((equations H).new m (length l) f p z).high b lt h ∙ ap₂ (node H) t (ap₂ (λ (j : ℕ) (r : List (List ℕ)). new_root H (m - k) j false f r) u i ∙ ih.1) ∙ sym (root_split H l several),
        )

  both : (l : List (List ℕ)) → 0 < length l → Yields l
  unfolding Yields
  both =
      by_parts Yields (λ h m b f z le first. both_all (h ∷ []) m b f z (omega arith) first)
      (λ l more low high m b f z le first.
      let k = split (length l) in
      let u = length_left l more in
      let v = length_right l more in
      ⊎_elim (λ e. both_all l m b f z e first)
      (λ lt.
      ⊎_elim (λ h. both_high l m b f z lt h (high (m - k) false f (omega arith) (omega arith) (λ e. absurd (false≢true e))))
      (λ h. both_low l m b f z lt h (low m b f z (omega arith) (λ e. first e ∙ ap (root H) (sym (take-take m k l h)))))
      (lt_or_ge k m))
      (eq-or-lt_of_le le))

  pub subproof_complete : (m : ℕ) (l : List (List ℕ)) (b : Bool) (f : List ℕ) → 0 < m → m ≤ length l → (b ≡ true → f ≡ root H (take m l)) →
      (old_root H m (length l) b f (subproof H m l b) ≡ root H (take m l)) × (new_root H m (length l) b f (subproof H m l b) ≡ root H l)
  unfolding Yields Both
  subproof_complete m l b f z h first = both l (omega arith) m b f z h first

  pub consistency_complete : (m : ℕ) (l : List (List ℕ)) → 0 < m → m ≤ length l →
      (old_root H m (length l) true (root H (take m l)) (consistency H m l) ≡ root H (take m l)) × (new_root H m (length l) true (root H (take m l)) (consistency H m l) ≡ root H l)
  unfolding Yields Both consistency
  consistency_complete m l z h = both l (omega arith) m true (root H (take m l)) z h (λ e. refl)

  -- the hashes of roots and paths have 32 bytes, if those of the leaves have
  module _ (H32 : (s : List ℕ) → length (H s) ≡ 32) where
    node_32 : (x y : List ℕ) → length (node H x y) ≡ 32
    unfolding node
    node_32 x y = H32 _

    pub root_32 : (l : List (List ℕ)) → All32 l → length (root H l) ≡ 32
    unfolding All32
    root_32 [] a = rw (root_none H) (H32 [])
    root_32 (h ∷ []) a = rw (root_one H h) a.0
    root_32 (h ∷ i ∷ l) a = rw (root_split H (h ∷ i ∷ l) (omega arith)) (node_32 _ _)

    pub path_32 : (l : List (List ℕ)) → 0 < length l → (m : ℕ) → All32 l → All32 (path H m l)
    path_32 =
        by_parts (λ l. (m : ℕ) → All32 l → All32 (path H m l)) (λ h m a. rw (path_one H m h) all_none)
        (λ l more low high m a.
        let p = all_take (split (length l)) l a in
        let q = all_drop (split (length l)) l a in
        ⊎_elim (λ h. rw (path_low H m l more h) (all_append (path H m (left l)) _ (low m p) (all_one _ (root_32 (right l) q))))
        (λ h. rw (path_high H m l more h) (all_append (path H (m - split (length l)) (right l)) _ (high (m - split (length l)) q) (all_one _ (root_32 (left l) p))))
        (lt_or_ge m (split (length l))))

    whole_32 : (b : Bool) (x : List ℕ) → length x ≡ 32 → All32 (cond b [] (x ∷ []))
    unfolding All32
    whole_32 true x e = tt
    whole_32 false x e = (e, tt)

    pub subproof_32 : (l : List (List ℕ)) → 0 < length l → (m : ℕ) (b : Bool) → 0 < m → m ≤ length l → All32 l → All32 (subproof H m l b)
    subproof_32 =
        by_parts (λ l. (m : ℕ) (b : Bool) → 0 < m → m ≤ length l → All32 l → All32 (subproof H m l b)) (λ h m b z le a. all (h ∷ []) m b z (omega arith) a)
        (λ l more low high m b z le a.
        let k = split (length l) in
        let u = length_left l more in
        let v = length_right l more in
        let p = all_take k l a in
        let q = all_drop k l a in
        ⊎_elim (λ e. all l m b z e a)
        (λ lt.
        ⊎_elim (λ h. rw (sub_high H m l b z lt h) (all_append (subproof H (m - k) (right l) false) _ (high (m - k) false (omega arith) (omega arith) q) (all_one _ (root_32 (left l) p))))
        (λ h. rw (sub_low H m l b z lt h) (all_append (subproof H m (left l) b) _ (low m b z (omega arith) p) (all_one _ (root_32 (right l) q))))
        (lt_or_ge k m))
        (eq-or-lt_of_le le))
      where
        all : (l : List (List ℕ)) (m : ℕ) (b : Bool) → 0 < m → m ≡ length l → All32 l → All32 (subproof H m l b)
        all l m b z e a = rw (sub_all H m l b z e) (whole_32 b (root H l) (root_32 l a))
