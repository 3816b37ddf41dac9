-- What a walk finds is a collision of H, or the new path yields the new root. Assumes nothing but the hash's length.
use mathlib.Core.Path.{◌≡◌, refl, sym, ap, ap₂, ◌∙◌}
use mathlib.Core.Logic.{⊎_elim}
use mathlib.Core.Bool.{Bool, true, false, false≢true}
use mathlib.Core.List.{List, [], ◌∷◌, ◌++◌}
use Prim.Native.Nat.{ℕ, ◌+◌, ◌-◌, ◌≤◌, ◌<◌}
use native.Mathlib.Omega.{arith}
use native.Mathlib.Nat.{eq-or-lt_of_le}
use lib.ListN.{length, length-append}
use Rattle.tree.specs.Split.{split}
use Rattle.tree.specs.Tree.{node}
use Rattle.tree.specs.Count.{inclusion_count, subproof_count}
use Rattle.tree.specs.Yield.{init, last, inclusion_root, old_root, new_root}
use Rattle.octets.proofs.Order.{lt_or_ge}
use Rattle.tree.proofs.Splitting.{split_ends, split_same, by_splits}
use Rattle.tree.proofs.Rfc.{init_snoc, last_snoc, yields_low, yields_high, either_all, either_low, either_high}
use Rattle.tree.proofs.Counting.{count_low, count_high, sub_low, sub_high}
use Rattle.tree.proofs.Joining.{All32, all_append, all_one}
use Rattle.carry.specs.Strings.{Difference, alike, apart, Collides}
use Rattle.carry.specs.Forward.{conflict, forward}
use Rattle.carry.proofs.Stepping.{conflict_all, conflict_low, conflict_here, conflict_beyond, forward_all, forward_low, forward_here, forward_beyond}
use Rattle.carry.proofs.Sizing.{last_32, init_32, init_length, inclusion_32, new_32, old_32}
use Rattle.carry.proofs.Differing.{level}

module _ (H : List ℕ → List ℕ) where
  -- what a walk shows, where y is what the new path yields, and r the new root
  abbrev pub Right : List ℕ → List ℕ → Difference → Type 0
  Right y r alike = y ≡ r
  Right y r (apart s t) = Collides H s t

  right_by : (y r y' r' : List ℕ) (d : Difference) → (y ≡ r → y' ≡ r') → Right y r d → Right y' r' d
  right_by y r y' r' alike f w = f w
  right_by y r y' r' (apart s t) f w = w

  -- one node more
  snoc_low : (x n : ℕ) (h : List ℕ) (p : List (List ℕ)) (y : List ℕ) → 1 < n → x < split n → inclusion_root H x n h (p ++ (y ∷ [])) ≡ node H (inclusion_root H x (split n) h p) y
  snoc_low x n h p y more l = yields_low H x n h (p ++ (y ∷ [])) more l ∙ ap₂ (λ (q : List (List ℕ)) (z : List ℕ). node H (inclusion_root H x (split n) h q) z) (init_snoc p y) (last_snoc p y)

  snoc_high : (x n : ℕ) (h : List ℕ) (p : List (List ℕ)) (y : List ℕ) → 1 < n → split n ≤ x → inclusion_root H x n h (p ++ (y ∷ [])) ≡ node H y (inclusion_root H (x - split n) (n - split n) h p)
  snoc_high x n h p y more l = yields_high H x n h (p ++ (y ∷ [])) more l ∙ ap₂ (λ (q : List (List ℕ)) (z : List ℕ). node H z (inclusion_root H (x - split n) (n - split n) h q)) (init_snoc p y) (last_snoc p y)

  -- the roots, by the split
  root_all : (m n : ℕ) (b : Bool) (f : List ℕ) (q : List (List ℕ)) → 0 < m → m ≡ n → old_root H m n b f q ≡ new_root H m n b f q
  unfolding old_root new_root
  root_all m n b f q z e = either_all H (λ x y. x) m n b f q z e ∙ sym (either_all H (node H) m n b f q z e)

  module _ (m n : ℕ) (b : Bool) (f : List ℕ) (q : List (List ℕ)) (z : 0 < m) (lt : m < n) where
    pub old_low : m ≤ split n → old_root H m n b f q ≡ old_root H m (split n) b f (init q)
    unfolding old_root
    old_low l = either_low H (λ x y. x) m n b f q z lt l

    pub new_low : m ≤ split n → new_root H m n b f q ≡ node H (new_root H m (split n) b f (init q)) (last q)
    unfolding new_root
    new_low l = either_low H (node H) m n b f q z lt l

    pub old_high : split n < m → old_root H m n b f q ≡ node H (last q) (old_root H (m - split n) (n - split n) false f (init q))
    unfolding old_root
    old_high l = either_high H (λ x y. x) m n b f q z lt l

    pub new_high : split n < m → new_root H m n b f q ≡ node H (last q) (new_root H (m - split n) (n - split n) false f (init q))
    unfolding new_root
    new_high l = either_high H (node H) m n b f q z lt l

  module _ (H32 : (s : List ℕ) → length (H s) ≡ 32) where
    unfoldable Good : ℕ → Type 0
    Good n = (m : ℕ) (b : Bool) (x : ℕ) (h : List ℕ) (p : List (List ℕ)) (f : List ℕ) (q : List (List ℕ)) → x < m → m ≤ n → length h ≡ 32 → (b ≡ true → length f ≡ 32) → All32 p → All32 q → length p ≡ inclusion_count x m → length q ≡ subproof_count m n b →
        inclusion_root H x m h p ≡ old_root H m n b f q → Right (inclusion_root H x n h (forward H m n x p f q)) (new_root H m n b f q) (conflict H m n x h p f q)

    -- the new path has the count of the place at n, of nodes of 32 bytes
    unfoldable Sized : ℕ → Type 0
    Sized n = (m : ℕ) (b : Bool) (x : ℕ) (h : List ℕ) (p : List (List ℕ)) (f : List ℕ) (q : List (List ℕ)) → x < m → m ≤ n → (b ≡ true → length f ≡ 32) → All32 p → All32 q → length p ≡ inclusion_count x m → length q ≡ subproof_count m n b →
        All32 (forward H m n x p f q) × (length (forward H m n x p f q) ≡ inclusion_count x n)

    module _ (n m : ℕ) (b : Bool) (x : ℕ) (h : List ℕ) (p : List (List ℕ)) (f : List ℕ) (q : List (List ℕ)) (xm : x < m) (lf : b ≡ true → length f ≡ 32) (pa : All32 p) (qa : All32 q) (pl : length p ≡ inclusion_count x m) (ql : length q ≡ subproof_count m n b) where
      sized_all : m ≡ n → All32 (forward H m n x p f q) × (length (forward H m n x p f q) ≡ inclusion_count x n)
      sized_all e = rw (forward_all H m n x h p f q (omega arith) e) (pa, pl ∙ ap (inclusion_count x) e)

      good_all : m ≡ n → inclusion_root H x m h p ≡ old_root H m n b f q → Right (inclusion_root H x n h (forward H m n x p f q)) (new_root H m n b f q) (conflict H m n x h p f q)
      good_all e y =
          rw (forward_all H m n x h p f q (omega arith) e, conflict_all H m n x h p f q (omega arith) e)
          (ap (λ (j : ℕ). inclusion_root H x j h p) (sym e) ∙ y ∙ root_all m n b f q (omega arith) e)

      module _ (lt : m < n) where
        more : 1 < n
        more = omega arith

        z : 0 < m
        z = omega arith

        sized_low : m ≤ split n → Sized (split n) → All32 (forward H m n x p f q) × (length (forward H m n x p f q) ≡ inclusion_count x n)
        unfolding Sized
        sized_low l g =
            let c = sub_low m n (split n) b z lt refl l in
            let d = count_low x n (split n) more refl (omega arith) in
            let i = init_length q in
            let r = g m b x h p f (init q) xm l lf pa (init_32 q qa) pl (omega arith) in
            let k = r.1 in
            rw (forward_low H m n x h p f q z lt l) (all_append (forward H m (split n) x p f (init q)) _ r.0 (all_one (last q) (last_32 q qa (omega arith))), simp length-append (omega arith))

        good_low : m ≤ split n → inclusion_root H x m h p ≡ old_root H m n b f q → length h ≡ 32 → Good (split n) → Right (inclusion_root H x n h (forward H m n x p f q)) (new_root H m n b f q) (conflict H m n x h p f q)
        unfolding Good
        good_low l y lh g =
            let c = sub_low m n (split n) b z lt refl l in
            let i = init_length q in
            let F = forward H m (split n) x p f (init q) in
            rw (forward_low H m n x h p f q z lt l, conflict_low H m n x h p f q z lt l, new_low m n b f q z lt l)
            (right_by (inclusion_root H x (split n) h F) (new_root H m (split n) b f (init q)) _ _ (conflict H m (split n) x h p f (init q)) (λ e. snoc_low x n h F (last q) more (omega arith) ∙ ap (λ (r : List ℕ). node H r (last q)) e)
            (g m b x h p f (init q) xm l lh lf pa (init_32 q qa) pl (omega arith) (y ∙ old_low m n b f q z lt l)))

        module _ (hi : split n < m) where
          same_split : split m ≡ split n
          same_split = split_same n m more hi (omega arith)

          counted : length q ≡ 1 + subproof_count (m - split n) (n - split n) false
          counted = ql ∙ sub_high m n (split n) b z lt refl hi

          sized_here : x < split n → All32 (forward H m n x p f q) × (length (forward H m n x p f q) ≡ inclusion_count x n)
          sized_here l =
              let s = split_ends n more in
              let c = counted in
              let d = count_low x n (split n) more refl l in
              let e = count_low x m (split n) (omega arith) (sym same_split) l in
              let i = init_length p in
              let j = init_length q in
              rw (forward_here H m n x h p f q z lt hi l) (
                all_append (init p) _ (init_32 p pa) (all_one _ (new_32 H H32 (m - split n) (n - split n) false f (init q) (omega arith) (λ t. absurd (false≢true t)) (init_32 q qa) (omega arith) (omega arith))),
                simp length-append (omega arith),
              )

          sized_beyond : split n ≤ x → Sized (n - split n) → All32 (forward H m n x p f q) × (length (forward H m n x p f q) ≡ inclusion_count x n)
          unfolding Sized
          sized_beyond l g =
              let s = split_ends n more in
              let c = counted in
              let d = count_high x n (split n) more refl l in
              let e = count_high x m (split n) (omega arith) (sym same_split) l in
              let i = init_length p in
              let j = init_length q in
              let r = g (m - split n) false (x - split n) h (init p) f (init q) (omega arith) (omega arith) (λ t. absurd (false≢true t)) (init_32 p pa) (init_32 q qa) (omega arith) (omega arith) in
              let t = r.1 in
              rw (forward_beyond H m n x h p f q z lt hi l) (all_append (forward H (m - split n) (n - split n) (x - split n) (init p) f (init q)) _ r.0 (all_one (last q) (last_32 q qa (omega arith))), simp length-append (omega arith))

          module _ (y : inclusion_root H x m h p ≡ old_root H m n b f q) (lh : length h ≡ 32) where
            O-32 : length (old_root H (m - split n) (n - split n) false f (init q)) ≡ 32
            O-32 =
                let c = counted in
                let j = init_length q in
                old_32 H H32 (n - split n) (omega arith) (m - split n) false f (init q) (omega arith) (omega arith) (λ t. absurd (false≢true t)) (init_32 q qa) (omega arith)

            good_here : x < split n → Right (inclusion_root H x n h (forward H m n x p f q)) (new_root H m n b f q) (conflict H m n x h p f q)
            unfolding node
            good_here l =
                let s = split_ends n more in
                let c = counted in
                let e = count_low x m (split n) (omega arith) (sym same_split) l in
                let N = new_root H (m - split n) (n - split n) false f (init q) in
                let w = inclusion_root H x (split n) h (init p) in
                let one : inclusion_root H x m h p ≡ node H w (last p) = yields_low H x m h p (omega arith) (let t = same_split in omega arith) ∙ ap (λ (j : ℕ). node H (inclusion_root H x j h (init p)) (last p)) same_split in
                rw (forward_here H m n x h p f q z lt hi l, conflict_here H m n x h p f q z lt hi l, new_high m n b f q z lt hi)
                (level H (Right (inclusion_root H x n h (init p ++ (N ∷ []))) (node H (last q) N)) w (last p) (last q) (old_root H (m - split n) (n - split n) false f (init q)) alike
                (inclusion_32 H H32 x (split n) h (init p) (omega arith) lh) (last_32 p pa (omega arith)) (last_32 q qa (omega arith)) O-32 (sym one ∙ y ∙ old_high m n b f q z lt hi) (λ s t v. v)
                (λ u v. snoc_low x n h (init p) N more l ∙ ap (λ (r : List ℕ). node H r N) u))

            good_beyond : split n ≤ x → Good (n - split n) → Right (inclusion_root H x n h (forward H m n x p f q)) (new_root H m n b f q) (conflict H m n x h p f q)
            unfolding Good node
            good_beyond l g =
                let s = split_ends n more in
                let c = counted in
                let e = count_high x m (split n) (omega arith) (sym same_split) l in
                let i = init_length p in
                let j = init_length q in
                let N = new_root H (m - split n) (n - split n) false f (init q) in
                let F = forward H (m - split n) (n - split n) (x - split n) (init p) f (init q) in
                let D = conflict H (m - split n) (n - split n) (x - split n) h (init p) f (init q) in
                let w = inclusion_root H (x - split n) (m - split n) h (init p) in
                let one : inclusion_root H x m h p ≡ node H (last p) w = yields_high H x m h p (omega arith) (let t = same_split in omega arith) ∙ ap (λ (j : ℕ). node H (last p) (inclusion_root H (x - j) (m - j) h (init p))) same_split in
                rw (forward_beyond H m n x h p f q z lt hi l, conflict_beyond H m n x h p f q z lt hi l, new_high m n b f q z lt hi)
                (level H (Right (inclusion_root H x n h (F ++ (last q ∷ []))) (node H (last q) N)) (last p) w (last q) (old_root H (m - split n) (n - split n) false f (init q)) D
                (last_32 p pa (omega arith)) (inclusion_32 H H32 (x - split n) (m - split n) h (init p) (omega arith) lh) (last_32 q qa (omega arith)) O-32 (sym one ∙ y ∙ old_high m n b f q z lt hi) (λ s t v. v)
                (λ u v. right_by (inclusion_root H (x - split n) (n - split n) h F) N _ _ D (λ r. snoc_high x n h F (last q) more l ∙ ap (node H (last q)) r)
                (g (m - split n) false (x - split n) h (init p) f (init q) (omega arith) (omega arith) lh (λ t. absurd (false≢true t)) (init_32 p pa) (init_32 q qa) (omega arith) (omega arith) v)))

    pub forward_sized : (n : ℕ) → 0 < n → (m : ℕ) (b : Bool) (x : ℕ) (h : List ℕ) (p : List (List ℕ)) (f : List ℕ) (q : List (List ℕ)) → x < m → m ≤ n → (b ≡ true → length f ≡ 32) → All32 p → All32 q → length p ≡ inclusion_count x m → length q ≡ subproof_count m n b →
        All32 (forward H m n x p f q) × (length (forward H m n x p f q) ≡ inclusion_count x n)
    unfolding Sized
    forward_sized =
        by_splits Sized (λ m b x h p f q xm le lf pa qa pl ql. sized_all 1 m b x h p f q xm lf pa qa pl ql (omega arith))
        (λ n more gl gr m b x h p f q xm le lf pa qa pl ql.
        ⊎_elim (λ e. sized_all n m b x h p f q xm lf pa qa pl ql e)
        (λ lt.
        ⊎_elim (λ hi. ⊎_elim (λ l. sized_here n m b x h p f q xm lf pa qa pl ql lt hi l) (λ l. sized_beyond n m b x h p f q xm lf pa qa pl ql lt hi l gr) (lt_or_ge x (split n)))
        (λ lo. sized_low n m b x h p f q xm lf pa qa pl ql lt lo gl)
        (lt_or_ge (split n) m))
        (eq-or-lt_of_le le))

    pub forward_sound : (n : ℕ) → 0 < n → (m : ℕ) (b : Bool) (x : ℕ) (h : List ℕ) (p : List (List ℕ)) (f : List ℕ) (q : List (List ℕ)) → x < m → m ≤ n → length h ≡ 32 → (b ≡ true → length f ≡ 32) → All32 p → All32 q → length p ≡ inclusion_count x m → length q ≡ subproof_count m n b →
        inclusion_root H x m h p ≡ old_root H m n b f q → Right (inclusion_root H x n h (forward H m n x p f q)) (new_root H m n b f q) (conflict H m n x h p f q)
    unfolding Good
    forward_sound =
        by_splits Good (λ m b x h p f q xm le lh lf pa qa pl ql y. good_all 1 m b x h p f q xm lf pa qa pl ql (omega arith) y)
        (λ n more gl gr m b x h p f q xm le lh lf pa qa pl ql y.
        ⊎_elim (λ e. good_all n m b x h p f q xm lf pa qa pl ql e y)
        (λ lt.
        ⊎_elim (λ hi. ⊎_elim (λ l. good_here n m b x h p f q xm lf pa qa pl ql lt hi y lh l) (λ l. good_beyond n m b x h p f q xm lf pa qa pl ql lt hi y lh l gr) (lt_or_ge x (split n)))
        (λ lo. good_low n m b x h p f q xm lf pa qa pl ql lt lo y lh gl)
        (lt_or_ge (split n) m))
        (eq-or-lt_of_le le))
