-- The laws of `same`. Assumes nothing.
use mathlib.Core.Path.{◌≡◌, refl, sym, ap, ap₂, ◌∙◌}
use mathlib.Core.Bool.{Bool, true, false, false≢true, ◌&&◌}
use mathlib.Core.List.{List, [], ◌∷◌}
use Prim.Native.Nat.{ℕ, ◌+◌, ◌<◌}
use native.Mathlib.Numerals.{add-one}
use lib.ListN.{length, get_or, drop}
use lib.Dec.{eqb}
use lib.Seq.{drop-cons, drop-length}
use borrow.Author.Tests.{eq-eqb, ne_eqb, eqb-true}
use Rattle.octets.specs.Bytes.{same}

and_left : (a b : Bool) → (a && b) ≡ true → a ≡ true
and_left true b e = refl
and_left false b e = e

and_right : (a b : Bool) → (a && b) ≡ true → b ≡ true
and_right true b e = e
and_right false b e = absurd (false≢true e)

pub same_refl : (s : List ℕ) → same s s ≡ true
unfolding same
same_refl [] = refl
same_refl (x ∷ s) = rw (eq-eqb x x refl, same_refl s)

pub same_true : (s t : List ℕ) → same s t ≡ true → s ≡ t
unfolding same
same_true [] [] e = refl
same_true [] (y ∷ t) e = absurd (false≢true e)
same_true (x ∷ s) [] e = absurd (false≢true e)
same_true (x ∷ s) (y ∷ t) e = ap₂ ◌∷◌ (eqb-true x y (and_left (eqb x y) (same s t) e)) (same_true s t (and_right (eqb x y) (same s t) e))

pub same_of : (s t : List ℕ) → s ≡ t → same s t ≡ true
same_of s t e = rw e (same_refl t)

-- a test that is true exactly where two byte strings are the same
pub same_by : (r : Bool) (s t : List ℕ) → (r ≡ true → s ≡ t) → (s ≡ t → r ≡ true) → r ≡ same s t
same_by true s t p q = sym (same_of s t (p refl))
same_by false s t p q = go (same s t) refl
  where
    go : (b : Bool) → same s t ≡ b → false ≡ b
    go true e = q (same_true s t e)
    go false e = refl

-- strings of two lengths, and strings byte by byte
pub other_length : (a b : List ℕ) → (length a ≡ length b → ⊥) → same a b ≡ false
other_length a b h = go (same a b) refl
  where
    go : (r : Bool) → same a b ≡ r → r ≡ false
    go true e = absurd (h (ap length (same_true a b e)))
    go false e = refl

module _ (a b : List ℕ) (i : ℕ) where
  module _ (ha : i < length a) (hb : i < length b) where
    this : same (drop i a) (drop i b) ≡ (eqb (get_or a i 0) (get_or b i 0) && same (drop (i + 1) a) (drop (i + 1) b))
    unfolding same
    this = rw (drop-cons a i 0 ha, drop-cons b i 0 hb, add-one)

    pub differ : (get_or a i 0 ≡ get_or b i 0 → ⊥) → same (drop i a) (drop i b) ≡ false
    differ h = this ∙ rw (ne_eqb (get_or a i 0) (get_or b i 0) h)

    pub agree : get_or a i 0 ≡ get_or b i 0 → same (drop i a) (drop i b) ≡ same (drop (i + 1) a) (drop (i + 1) b)
    agree h = this ∙ rw (eq-eqb (get_or a i 0) (get_or b i 0) h)

  pub end : i ≡ length a → i ≡ length b → same (drop i a) (drop i b) ≡ true
  unfolding same
  end p q = ap₂ same (ap (λ (k : ℕ). drop k a) p ∙ drop-length a) (ap (λ (k : ℕ). drop k b) q ∙ drop-length b)
