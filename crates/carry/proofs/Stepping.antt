-- The definitions of comparing and carrying by the split, one law a line: later proofs go by these. Assumes nothing.
use mathlib.Core.Path.{◌≡◌, refl, sym, ◌∙◌}
use mathlib.Core.Bool.{false}
use mathlib.Core.List.{List, [], ◌∷◌, ◌++◌}
use Prim.Native.Nat.{ℕ, ◌+◌, ◌-◌, ◌≤◌, ◌<◌}
use native.Mathlib.Omega.{arith}
use borrow.Author.Tests.{lt-ltb, le-ltb, eq-eqb, ne_eqb, le-leb, lt-leb}
use Rattle.tree.specs.Split.{split, Shape, one, fork, size, shape}
use Rattle.tree.specs.Yield.{init, last, inclusion_root, old_root, new_root}
use Rattle.tree.proofs.Splitting.{split_ends, shape_one, shape_fork, size_shape}
use Rattle.tree.proofs.Rfc.{size_left, size_right}
use Rattle.carry.specs.Strings.{string, alike, topmost}
use Rattle.carry.specs.Compare.{differ_of, differ}
use Rattle.carry.specs.Forward.{conflict_of, conflict, forward_of, forward}

module _ (H : List ℕ → List ℕ) where
  -- comparing
  module _ (m n : ℕ) (h : List ℕ) (p : List (List ℕ)) (g : List ℕ) (q : List (List ℕ)) where
    pub differ_one : n ≡ 1 → differ H m n h p g q ≡ alike
    unfolding differ differ_of
    differ_one e = rw (e, shape_one)

    module _ (more : 1 < n) where
      pub differ_low : m < split n → differ H m n h p g q ≡ topmost (string (inclusion_root H m (split n) h (init p)) (last p)) (string (inclusion_root H m (split n) g (init q)) (last q)) (differ H m (split n) h (init p) g (init q))
      unfolding differ differ_of inclusion_root
      differ_low u =
          let e = size_left n more in
          rw (shape_fork n more, lt-ltb m (size (shape (split n))) (omega arith))

      pub differ_high : split n ≤ m → differ H m n h p g q ≡ topmost (string (last p) (inclusion_root H (m - split n) (n - split n) h (init p))) (string (last q) (inclusion_root H (m - split n) (n - split n) g (init q))) (differ H (m - split n) (n - split n) h (init p) g (init q))
      unfolding differ differ_of inclusion_root
      differ_high u =
          let e = size_left n more in
          rw (shape_fork n more, le-ltb m (size (shape (split n))) (omega arith), e)

  -- carrying
  module _ (m n x : ℕ) (h : List ℕ) (p : List (List ℕ)) (f : List ℕ) (q : List (List ℕ)) where
    conflict_whole : (s : Shape) → m ≡ size s → conflict_of H s m x h p f q ≡ alike
    unfolding conflict_of size
    conflict_whole one e = refl
    conflict_whole (fork a b) e = rw (eq-eqb m (size a + size b) e)

    pub conflict_all : 0 < m → m ≡ n → conflict H m n x h p f q ≡ alike
    unfolding conflict
    conflict_all z e = conflict_whole (shape n) (e ∙ sym (size_shape n (omega arith)))

    forward_whole : (s : Shape) → m ≡ size s → forward_of H s m x p f q ≡ p
    unfolding forward_of size
    forward_whole one e = refl
    forward_whole (fork a b) e = rw (eq-eqb m (size a + size b) e)

    pub forward_all : 0 < m → m ≡ n → forward H m n x p f q ≡ p
    unfolding forward
    forward_all z e = forward_whole (shape n) (e ∙ sym (size_shape n (omega arith)))

    module _ (some : 0 < m) (lt : m < n) where
      several : 1 < n
      several = omega arith

      within : m ≡ size (shape (split n)) + size (shape (n - split n)) → ⊥
      within e = let s = split_ends n several in let u = size_left n several in let v = size_right n several in omega arith

      pub conflict_low : m ≤ split n → conflict H m n x h p f q ≡ conflict H m (split n) x h p f (init q)
      unfolding conflict conflict_of
      conflict_low l =
          let z = size_left n several in
          rw (shape_fork n several, ne_eqb m (size (shape (split n)) + size (shape (n - split n))) within, le-leb m (size (shape (split n))) (omega arith))

      pub forward_low : m ≤ split n → forward H m n x p f q ≡ forward H m (split n) x p f (init q) ++ (last q ∷ [])
      unfolding forward forward_of
      forward_low l =
          let z = size_left n several in
          rw (shape_fork n several, ne_eqb m (size (shape (split n)) + size (shape (n - split n))) within, le-leb m (size (shape (split n))) (omega arith))

      module _ (hi : split n < m) where
        pub conflict_here : x < split n → conflict H m n x h p f q ≡ topmost (string (inclusion_root H x (split n) h (init p)) (last p)) (string (last q) (old_root H (m - split n) (n - split n) false f (init q))) alike
        unfolding conflict conflict_of inclusion_root old_root
        conflict_here l =
            let z = size_left n several in
            rw (shape_fork n several, ne_eqb m (size (shape (split n)) + size (shape (n - split n))) within, lt-leb m (size (shape (split n))) (omega arith), lt-ltb x (size (shape (split n))) (omega arith), z)

        pub conflict_beyond : split n ≤ x → conflict H m n x h p f q ≡ topmost (string (last p) (inclusion_root H (x - split n) (m - split n) h (init p))) (string (last q) (old_root H (m - split n) (n - split n) false f (init q))) (conflict H (m - split n) (n - split n) (x - split n) h (init p) f (init q))
        unfolding conflict conflict_of inclusion_root old_root
        conflict_beyond l =
            let z = size_left n several in
            rw (shape_fork n several, ne_eqb m (size (shape (split n)) + size (shape (n - split n))) within, lt-leb m (size (shape (split n))) (omega arith), le-ltb x (size (shape (split n))) (omega arith), z)

        pub forward_here : x < split n → forward H m n x p f q ≡ init p ++ (new_root H (m - split n) (n - split n) false f (init q) ∷ [])
        unfolding forward forward_of new_root
        forward_here l =
            let z = size_left n several in
            rw (shape_fork n several, ne_eqb m (size (shape (split n)) + size (shape (n - split n))) within, lt-leb m (size (shape (split n))) (omega arith), lt-ltb x (size (shape (split n))) (omega arith), z)

        pub forward_beyond : split n ≤ x → forward H m n x p f q ≡ forward H (m - split n) (n - split n) (x - split n) (init p) f (init q) ++ (last q ∷ [])
        unfolding forward forward_of
        forward_beyond l =
            let z = size_left n several in
            rw (shape_fork n several, ne_eqb m (size (shape (split n)) + size (shape (n - split n))) within, lt-leb m (size (shape (split n))) (omega arith), le-ltb x (size (shape (split n))) (omega arith), z)
