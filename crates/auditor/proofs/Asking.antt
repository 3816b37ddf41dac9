-- The number of a page call, by what the leaf hash of the page said. Assumes nothing.
use mathlib.Core.Path.{◌≡◌, refl, sym, ◌∙◌}
use mathlib.Core.Bool.{Bool, true, false}
use mathlib.Core.List.{List, ◌∷◌}
use Prim.Native.Nat.{ℕ}
use native.Mathlib.Omega.{arith}
use lib.Dec.{ltb}
use lib.ListN.{length}
use Rattle.octets.specs.Limits.{most_item}
use Rattle.hash.specs.Answers.{value_number, value_bytes}

-- a leaf hash is refused exactly where the page is too long, and then with 1
pub refused_1 : (page : List ℕ) (n : ℕ) → n ≡ value_number most_item page → (n ≡ 0 → ⊥) → (ltb most_item (length page) ≡ true) × (n ≡ 1)
unfolding value_number
refused_1 page n e z = go (ltb most_item (length page)) refl
  where
    go : (b : Bool) → ltb most_item (length page) ≡ b → (ltb most_item (length page) ≡ true) × (n ≡ 1)
    go true t = (t, e ∙ rw t)
    go false t = absurd (z (e ∙ rw t))

pub taken_0 : (H : List ℕ → List ℕ) (page h : List ℕ) (n : ℕ) → n ≡ value_number most_item page → n ≡ 0 → h ≡ value_bytes most_item page (H (0 ∷ page)) →
    (ltb most_item (length page) ≡ false) × (h ≡ H (0 ∷ page))
unfolding value_number value_bytes
taken_0 H page h n e z f = go (ltb most_item (length page)) refl
  where
    go : (b : Bool) → ltb most_item (length page) ≡ b → (ltb most_item (length page) ≡ false) × (h ≡ H (0 ∷ page))
    go true t = absurd (one_zero (sym (rw t at (sym e ∙ z))))
      where
        one_zero : ◌≡◌ {A = ℕ} 0 1 → ⊥
        one_zero w = omega arith
    go false t = (t, f ∙ rw t)
