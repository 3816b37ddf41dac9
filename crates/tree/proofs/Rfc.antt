-- The equations of RFC 9162, section 2.1, one law a line, over any hash: later proofs go by these. Assumes nothing.
use mathlib.Core.Path.{◌≡◌, refl, sym, ap, ◌∙◌}
use mathlib.Core.Logic.{⊎_elim}
use mathlib.Core.Bool.{Bool, true, false, cond}
use mathlib.Core.List.{List, [], ◌∷◌, ◌++◌, map}
use Prim.Native.Nat.{ℕ, zero, suc, ◌+◌, ◌-◌, ◌^◌, ◌≤◌, ◌<◌}
use native.Mathlib.Omega.{arith}
use native.Mathlib.Nat.{eq-or-lt_of_le}
use lib.ListN.{length, take, drop, length-append, length-take, length-drop, length-map}
use lib.Seq.{take_at, get_or_at}
use borrow.Author.Tests.{lt-ltb, le-ltb, eq-eqb, ne_eqb, le-leb, lt-leb}
use Rattle.tree.specs.Split.{split, Shape, one, fork, size, shape}
use Rattle.tree.specs.Tree.{leaf, node, root_of, root, mth, path_of, path, subproof_of, subproof, consistency}
use Rattle.tree.specs.Yield.{init, last, inclusion_root_of, inclusion_root, consistency_root_of, old_root, new_root}
use Rattle.tree.specs.Equations.{left, right, Mth, Root, Equations}
use Rattle.tree.proofs.Splitting.{split_ends, split_is, split_holds, shape_one, shape_few, shape_fork, size_shape, by_splits}

pub init_snoc : (p : List (List ℕ)) (x : List ℕ) → init (p ++ (x ∷ [])) ≡ p
unfolding init
init_snoc p x = take_at p (x ∷ []) (length (p ++ (x ∷ [])) - 1) (simp length-append (omega arith))

pub last_snoc : (p : List (List ℕ)) (x : List ℕ) → last (p ++ (x ∷ [])) ≡ x
unfolding last
last_snoc p x = get_or_at p x [] [] (length (p ++ (x ∷ [])) - 1) (simp length-append (omega arith))

-- the two parts of n leaves, and their lengths
module _ (n : ℕ) (more : 1 < n) where
  pub size_left : size (shape (split n)) ≡ split n
  size_left = let s = split_ends n more in size_shape (split n) s.2

  pub size_right : size (shape (n - split n)) ≡ n - split n
  size_right = let s = split_ends n more in size_shape (n - split n) (omega arith)

module _ {A : Type 0} (l : List A) (more : 1 < length l) where
  pub length_left : length (take (split (length l)) l) ≡ split (length l)
  length_left = let s = split_ends (length l) more in simp length-take (omega arith)

  pub length_right : length (drop (split (length l)) l) ≡ length l - split (length l)
  length_right = simp length-drop

-- what holds of one leaf hash, and of more if of both parts, holds of every list but the empty one
pub by_parts :
    (P : List (List ℕ) → Type 0) → ((h : List ℕ) → P (h ∷ [])) → ((l : List (List ℕ)) → 1 < length l → P (left l) → P (right l) → P l) →
    (l : List (List ℕ)) → 0 < length l → P l
by_parts P o s l h = by_splits (λ n. (t : List (List ℕ)) → length t ≡ n → P t) single step (length l) h l refl
  where
    single : (t : List (List ℕ)) → length t ≡ 1 → P t
    single [] e = absurd (omega arith)
    single (x ∷ []) e = o x
    single (x ∷ y ∷ t) e = absurd (omega arith)

    step : (n : ℕ) → 1 < n → ((t : List (List ℕ)) → length t ≡ split n → P t) → ((t : List (List ℕ)) → length t ≡ n - split n → P t) → (t : List (List ℕ)) → length t ≡ n → P t
    step n more low high t e =
        let d : split (length t) ≡ split n = ap split e in
        let u = length_left t (omega arith) in
        let v = length_right t (omega arith) in
        s t (omega arith) (low (left t) (u ∙ d)) (high (right t) (omega arith))

module _ (H : List ℕ → List ℕ) where
  -- section 2.1.1
  pub root_none : root H [] ≡ H []
  unfolding root
  root_none = refl

  pub root_one : (h : List ℕ) → root H (h ∷ []) ≡ h
  unfolding root root_of
  root_one h = rw shape_one

  pub root_some : (l : List (List ℕ)) → 0 < length l → root H l ≡ root_of H (shape (length l)) l
  unfolding root
  root_some [] h = absurd (omega arith)
  root_some (x ∷ l) h = refl

  pub root_fork : (a b : Shape) (l : List (List ℕ)) → root_of H (fork a b) l ≡ node H (root_of H a (take (size a) l)) (root_of H b (drop (size a) l))
  unfolding root_of
  root_fork a b l = refl

  pub root_split : (l : List (List ℕ)) → 1 < length l → root H l ≡ node H (root H (left l)) (root H (right l))
  root_split l h =
      let s = split_ends (length l) h in
      let u = length_left l h in
      let v = length_right l h in
      root_some l (omega arith) ∙ rw (shape_fork (length l) h, root_fork, size_left (length l) h, root_some (left l) (omega arith), root_some (right l) (omega arith), u, v)

  -- section 2.1.3.1
  pub path_one : (m : ℕ) (h : List ℕ) → path H m (h ∷ []) ≡ []
  unfolding path path_of
  path_one m h = rw shape_one

  pub path_left : (a b : Shape) (m : ℕ) (l : List (List ℕ)) → m < size a → path_of H (fork a b) m l ≡ path_of H a m (take (size a) l) ++ (root_of H b (drop (size a) l) ∷ [])
  unfolding path_of
  path_left a b m l h = rw (lt-ltb m (size a) h)

  pub path_right : (a b : Shape) (m : ℕ) (l : List (List ℕ)) → size a ≤ m → path_of H (fork a b) m l ≡ path_of H b (m - size a) (drop (size a) l) ++ (root_of H a (take (size a) l) ∷ [])
  unfolding path_of
  path_right a b m l h = rw (le-ltb m (size a) h)

  module _ (m : ℕ) (l : List (List ℕ)) (more : 1 < length l) where
    pub path_low : m < split (length l) → path H m l ≡ path H m (left l) ++ (root H (right l) ∷ [])
    unfolding path
    path_low h =
        let s = split_ends (length l) more in
        let u = length_left l more in
        let v = length_right l more in
        let z = size_left (length l) more in
        rw (shape_fork (length l) more, path_left (shape (split (length l))) (shape (length l - split (length l))) m l (omega arith), root_some (right l) (omega arith), z, u, v)

    pub path_high : split (length l) ≤ m → path H m l ≡ path H (m - split (length l)) (right l) ++ (root H (left l) ∷ [])
    unfolding path
    path_high h =
        let s = split_ends (length l) more in
        let u = length_left l more in
        let v = length_right l more in
        let z = size_left (length l) more in
        rw (shape_fork (length l) more, path_right (shape (split (length l))) (shape (length l - split (length l))) m l (omega arith), root_some (left l) (omega arith), z, u, v)

  -- section 2.1.4.1
  sub_whole : (s : Shape) (m : ℕ) (l : List (List ℕ)) (b : Bool) → m ≡ size s → subproof_of H s m l b ≡ cond b [] (root_of H s l ∷ [])
  unfolding subproof_of size
  sub_whole one m l b e = refl
  sub_whole (fork a c) m l b e = rw (eq-eqb m (size a + size c) e)

  pub sub_all : (m : ℕ) (l : List (List ℕ)) (b : Bool) → 0 < m → m ≡ length l → subproof H m l b ≡ cond b [] (root H l ∷ [])
  unfolding subproof
  sub_all m l b z e = sub_whole (shape (length l)) m l b (e ∙ sym (size_shape (length l) (omega arith))) ∙ rw (← (root_some l (omega arith)))

  module _ (m : ℕ) (l : List (List ℕ)) (b : Bool) (some : 0 < m) (lt : m < length l) where
    more : 1 < length l
    more = omega arith

    part : m < size (shape (split (length l))) + size (shape (length l - split (length l)))
    part = let s = split_ends (length l) more in let u = size_left (length l) more in let v = size_right (length l) more in omega arith

    pub sub_low : m ≤ split (length l) → subproof H m l b ≡ subproof H m (left l) b ++ (root H (right l) ∷ [])
    unfolding subproof subproof_of
    sub_low h =
        let s = split_ends (length l) more in
        let u = length_left l more in
        let v = length_right l more in
        let z = size_left (length l) more in
        rw (
          shape_fork (length l) more,
          ne_eqb m (size (shape (split (length l))) + size (shape (length l - split (length l)))) (λ e. let p = part in omega arith),
          le-leb m (size (shape (split (length l)))) (omega arith),
          root_some (right l) (omega arith),
          z,
          u,
          v,
        )

    pub sub_high : split (length l) < m → subproof H m l b ≡ subproof H (m - split (length l)) (right l) false ++ (root H (left l) ∷ [])
    unfolding subproof subproof_of
    sub_high h =
        let s = split_ends (length l) more in
        let u = length_left l more in
        let v = length_right l more in
        let z = size_left (length l) more in
        rw (
          shape_fork (length l) more,
          ne_eqb m (size (shape (split (length l))) + size (shape (length l - split (length l)))) (λ e. let p = part in omega arith),
          lt-leb m (size (shape (split (length l)))) (omega arith),
          root_some (left l) (omega arith),
          z,
          u,
          v,
        )

  -- what an inclusion path yields
  pub yields_few : (m n : ℕ) (h : List ℕ) (p : List (List ℕ)) → n ≤ 1 → inclusion_root H m n h p ≡ h
  unfolding inclusion_root inclusion_root_of
  yields_few m n h p e = rw (shape_few n e)

  module _ (m n : ℕ) (h : List ℕ) (p : List (List ℕ)) (more : 1 < n) where
    pub yields_low : m < split n → inclusion_root H m n h p ≡ node H (inclusion_root H m (split n) h (init p)) (last p)
    unfolding inclusion_root inclusion_root_of
    yields_low u =
        let e = size_left n more in
        rw (shape_fork n more, lt-ltb m (size (shape (split n))) (omega arith))

    pub yields_high : split n ≤ m → inclusion_root H m n h p ≡ node H (last p) (inclusion_root H (m - split n) (n - split n) h (init p))
    unfolding inclusion_root inclusion_root_of
    yields_high u =
        let e = size_left n more in
        rw (shape_fork n more, le-ltb m (size (shape (split n))) (omega arith), e)

  -- what a consistency path yields: once for both roots
  module _ (with_later : List ℕ → List ℕ → List ℕ) (m n : ℕ) (b : Bool) (f : List ℕ) (p : List (List ℕ)) where
    yields_whole : (s : Shape) → m ≡ size s → consistency_root_of H with_later s m b f p ≡ cond b f (last p)
    unfolding consistency_root_of size
    yields_whole one e = refl
    yields_whole (fork a c) e = rw (eq-eqb m (size a + size c) e)

    pub either_all : 0 < m → m ≡ n → consistency_root_of H with_later (shape n) m b f p ≡ cond b f (last p)
    either_all z e = yields_whole (shape n) (e ∙ sym (size_shape n (omega arith)))

    module _ (some : 0 < m) (lt : m < n) where
      several : 1 < n
      several = omega arith

      within : m < size (shape (split n)) + size (shape (n - split n))
      within = let s = split_ends n several in let u = size_left n several in let v = size_right n several in omega arith

      pub either_low : m ≤ split n → consistency_root_of H with_later (shape n) m b f p ≡ with_later (consistency_root_of H with_later (shape (split n)) m b f (init p)) (last p)
      unfolding consistency_root_of
      either_low h =
          let z = size_left n several in
          rw (shape_fork n several, ne_eqb m (size (shape (split n)) + size (shape (n - split n))) (λ e. let q = within in omega arith), le-leb m (size (shape (split n))) (omega arith))

      pub either_high : split n < m → consistency_root_of H with_later (shape n) m b f p ≡ node H (last p) (consistency_root_of H with_later (shape (n - split n)) (m - split n) false f (init p))
      unfolding consistency_root_of
      either_high h =
          let z = size_left n several in
          rw (shape_fork n several, ne_eqb m (size (shape (split n)) + size (shape (n - split n))) (λ e. let q = within in omega arith), lt-leb m (size (shape (split n))) (omega arith), z)

  -- a first size that is a power of two brings its own root
  Own : ℕ → Type 0
  Own n = (j : ℕ) (f : List ℕ) (p : List (List ℕ)) → 0 < 2 ^ j → 2 ^ j ≤ n → old_root H (2 ^ j) n true f p ≡ f

  own_all : (n j : ℕ) (f : List ℕ) (p : List (List ℕ)) → 0 < 2 ^ j → 2 ^ j ≡ n → old_root H (2 ^ j) n true f p ≡ f
  unfolding old_root
  own_all n j f p z e = either_all (λ x y. x) (2 ^ j) n true f p z e

  own_part : (n j : ℕ) (f : List ℕ) (p : List (List ℕ)) → 0 < 2 ^ j → 2 ^ j < n → old_root H (2 ^ j) (split n) true f (init p) ≡ f → old_root H (2 ^ j) n true f p ≡ f
  unfolding old_root
  own_part n j f p z lt e = either_low (λ x y. x) (2 ^ j) n true f p z lt (split_holds n j lt (omega arith)) ∙ e

  old_own : (n : ℕ) → 0 < n → Own n
  unfolding Own
  old_own =
      by_splits Own (λ j f p z le. own_all 1 j f p z (omega arith))
      (λ n more low high j f p z le.
      ⊎_elim (λ e. own_all n j f p z e) (λ lt. own_part n j f p z lt (low j f (init p) z (split_holds n j lt more))) (eq-or-lt_of_le le))

  -- section 2.1.1, of the inputs
  map_take : (n : ℕ) (l : List (List ℕ)) → map (leaf H) (take n l) ≡ take n (map (leaf H) l)
  map_take zero l = refl
  map_take (suc n) [] = refl
  map_take (suc n) (x ∷ l) = ap (λ (t : List (List ℕ)). leaf H x ∷ t) (map_take n l)

  map_drop : (n : ℕ) (l : List (List ℕ)) → map (leaf H) (drop n l) ≡ drop n (map (leaf H) l)
  map_drop zero l = refl
  map_drop (suc n) [] = refl
  map_drop (suc n) (x ∷ l) = map_drop n l

  of_inputs : Mth H
  unfolding mth leaf node
  of_inputs = record {
    none = root_none;
    single = λ d. root_one (leaf H d);
    more = λ ds h.
        let e : length (map (leaf H) ds) ≡ length ds = length-map ds (leaf H) in
        root_split (map (leaf H) ds) (omega arith) ∙ rw (e, map_take, map_drop);
  }

  of_leaves_lem : Root H
  unfolding node
  of_leaves_lem = record { none = root_none; single = root_one; more = root_split }

  -- all of them
  pub equations : Equations H
  unfolding consistency old_root new_root Own
  equations = record {
    split_is = split_is;
    of_inputs = of_inputs;
    of_leaves_lem = of_leaves_lem;
    paths = λ m. record { single = path_one m; low = path_low m; high = path_high m };
    consistencies = λ m l z. record {
      start = refl;
      known = sub_all m l true z;
      unknown = sub_all m l false z;
      low = λ b lt. sub_low m l b z lt;
      high = λ b lt. sub_high m l b z lt;
    };
    included = λ m n h p. record {
      single = λ e. yields_few m n h p (omega arith);
      low = yields_low m n h p;
      high = yields_high m n h p;
    };
    old = λ m n f p z. record {
      known = either_all (λ x y. x) m n true f p z;
      unknown = either_all (λ x y. x) m n false f p z;
      low = λ b lt. either_low (λ x y. x) m n b f p z lt;
      high = λ b lt. either_high (λ x y. x) m n b f p z lt;
      own = λ j e lt. rw e (old_own n (omega arith) j f p (omega arith) (omega arith));
    };
    new = λ m n f p z. record {
      known = either_all (node H) m n true f p z;
      unknown = either_all (node H) m n false f p z;
      low = λ b lt. either_low (node H) m n b f p z lt;
      high = λ b lt. either_high (node H) m n b f p z lt;
    };
  }
