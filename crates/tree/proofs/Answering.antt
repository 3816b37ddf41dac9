-- Which number a verdict gives, by what holds: one law for each test, in the order of the tests, once for both verdicts. Assumes nothing.
use mathlib.Core.Path.{◌≡◌, refl}
use mathlib.Core.Bool.{Bool, true, false, cond, not, ◌&&◌, ◌||◌}
use mathlib.Core.List.{List}
use Prim.Native.Nat.{ℕ, ◌/◌, ◌%◌, ◌≤◌, ◌<◌}
use native.Mathlib.Omega.{arith}
use lib.ListN.{length}
use lib.Dec.{ltb, eqb}
use borrow.Author.Tests.{lt-ltb, le-ltb, le-leb, lt-leb, eq-eqb, ne_eqb}
use Rattle.tree.specs.Limits.{largest_size}
use Rattle.tree.specs.Verdict.{judged, no_place, no_sizes}

module _ (one two path : List ℕ) (outside : Bool) (count : ℕ) (agrees : Bool) where
  abbrev Says : ℕ → Type 0
  Says n = n ≡ judged one two path outside count agrees

  pub one_5 : (length one ≡ 32 → ⊥) → Says 5
  unfolding judged
  one_5 x = rw (ne_eqb (length one) 32 x)

  module _ (a : length one ≡ 32) where
    pub two_5 : (length two ≡ 32 → ⊥) → Says 5
    unfolding judged
    two_5 x = rw (eq-eqb (length one) 32 a, ne_eqb (length two) 32 x)

    module _ (b : length two ≡ 32) where
      pub path_10 : (length path % 32 ≡ 0 → ⊥) → Says 10
      unfolding judged
      path_10 x = rw (eq-eqb (length one) 32 a, eq-eqb (length two) 32 b, ne_eqb (length path % 32) 0 x)

      module _ (c : length path % 32 ≡ 0) where
        pub outside_6 : outside ≡ true → Says 6
        unfolding judged
        outside_6 x = rw (eq-eqb (length one) 32 a, eq-eqb (length two) 32 b, eq-eqb (length path % 32) 0 c, x)

        module _ (d : outside ≡ false) where
          pub count_7 : (length path / 32 ≡ count → ⊥) → Says 7
          unfolding judged
          count_7 x = rw (eq-eqb (length one) 32 a, eq-eqb (length two) 32 b, eq-eqb (length path % 32) 0 c, d, ne_eqb (length path / 32) count x)

          module _ (e : length path / 32 ≡ count) where
            pub other_8 : agrees ≡ false → Says 8
            unfolding judged
            other_8 x = rw (eq-eqb (length one) 32 a, eq-eqb (length two) 32 b, eq-eqb (length path % 32) 0 c, d, eq-eqb (length path / 32) count e, x)

            pub right_0 : agrees ≡ true → Says 0
            unfolding judged
            right_0 x = rw (eq-eqb (length one) 32 a, eq-eqb (length two) 32 b, eq-eqb (length path % 32) 0 c, d, eq-eqb (length path / 32) count e, x)

-- and no number is above 10
by_six : (a b c d e f : Bool) → cond a 5 (cond b 5 (cond c 10 (cond d 6 (cond e 7 (cond f 8 0))))) ≤ 10
by_six true b c d e f = omega arith
by_six false true c d e f = omega arith
by_six false false true d e f = omega arith
by_six false false false true e f = omega arith
by_six false false false false true f = omega arith
by_six false false false false false true = omega arith
by_six false false false false false false = omega arith

pub at_most_10 : (one two path : List ℕ) (outside : Bool) (count : ℕ) (agrees : Bool) → judged one two path outside count agrees ≤ 10
unfolding judged
at_most_10 one two path outside count agrees =
    by_six (not (eqb (length one) 32)) (not (eqb (length two) 32)) (not (eqb (length path % 32) 0)) outside (not (eqb (length path / 32) count)) (not agrees)

-- which numbers are out of range
pub or_right : (a b : Bool) → b ≡ true → (a || b) ≡ true
or_right true b e = refl
or_right false b e = e

pub place_none : (place size : ℕ) → size ≡ 0 → no_place place size ≡ true
unfolding no_place
place_none place size h = rw (eq-eqb size 0 h)

pub place_past : (place size : ℕ) → size ≤ place → no_place place size ≡ true
unfolding no_place
place_past place size h = or_right (eqb size 0) _ (or_right (ltb largest_size size) _ (le-leb size place h))

pub place_in : (place size : ℕ) → (size ≡ 0 → ⊥) → size ≤ largest_size → place < size → no_place place size ≡ false
unfolding no_place
place_in place size a b c = rw (ne_eqb size 0 a, le-ltb largest_size size b, lt-leb size place c)

pub sizes_none : (first second : ℕ) → first ≡ 0 → no_sizes first second ≡ true
unfolding no_sizes
sizes_none first second h = rw (eq-eqb first 0 h)

pub sizes_past : (first second : ℕ) → second < first → no_sizes first second ≡ true
unfolding no_sizes
sizes_past first second h = or_right (eqb first 0) _ (or_right (ltb largest_size second) _ (lt-ltb second first h))

pub sizes_in : (first second : ℕ) → (first ≡ 0 → ⊥) → second ≤ largest_size → first ≤ second → no_sizes first second ≡ false
unfolding no_sizes
sizes_in first second a b c = rw (ne_eqb first 0 a, le-ltb largest_size second b, le-ltb second first c)

-- which pairs of roots agree
pub first_apart_lem : (a b : Bool) → a ≡ false → (a && b) ≡ false
first_apart_lem a b e = rw e

pub second_apart : (a b : Bool) → a ≡ true → b ≡ false → (a && b) ≡ false
second_apart a b e d = rw (e, d)

pub both_agree : (a b : Bool) → a ≡ true → b ≡ true → (a && b) ≡ true
both_agree a b e d = rw (e, d)
