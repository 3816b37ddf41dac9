-- A field that was filled: what its vector says of the value, and how long it is. Assumes nothing.
use mathlib.Core.Path.{◌≡◌, refl, ap, sym, ◌∙◌}
use mathlib.Core.List.{List, ◌++◌}
use mathlib.Core.Bool.{Bool, true, false, cond}
use Prim.Native.Nat.{ℕ, ◌+◌, ◌≤◌}
use native.Mathlib.Omega.{arith}
use lib.ListN.{length, length-append}
use lib.Dec.{ltb, eqb}
use borrow.Author.Tests.{ltb-false, eqb-true}
use Rattle.fields.specs.declared.layout.Inner.{Inner}
use Rattle.fields.specs.declared.layout.Field.{Field}
use Rattle.fields.specs.declared.layout.Field.TheVariants.{Uint, Vector, OneOf, Fixed}
use Rattle.fields.specs.Checked.{good, bad, moved, Checked}
use Rattle.octets.specs.Numbers.{width_of, be}
use Rattle.fields.specs.Layout.{inside, allowed}
use Rattle.fields.specs.Write.{Value, number_in, bytes_in, wrap, body_size, wholes, fine, vector_bytes, vector_filled, one_of_filled, fixed_filled, fill, laid}
use Rattle.fields.proofs.Answers.{bad_good, good_bad, same_good, same_place, same_number}
use Rattle.octets.proofs.Numbers.{be_length}
use Rattle.fields.proofs.Bodies.{value}
use Rattle.fields.proofs.Places.{shift, shift_add, inside_shift, inside_place}

-- a vector that was filled
pub record FilledVector (w least most : ℕ) (i : Inner) (v : List ℕ) (at : ℕ) (b : List ℕ) : Type 0 where
  pub low : least ≤ body_size i (length v)
  pub high : body_size i (length v) ≤ most
  pub round : wholes i (length v) ≡ true
  pub fine : inside i (wrap i v) (at + w) ≡ good tt
  pub is : b ≡ be w (length (wrap i v)) ++ wrap i v
  pub size : length b ≡ w + body_size i (length v)

pub filled_vector : (w least most : ℕ) (i : Inner) (v : List ℕ) (at : ℕ) (b : List ℕ) → vector_filled w least most i v at ≡ good b → FilledVector w least most i v at b
unfolding vector_filled
filled_vector w least most i v at b e =
    go (ltb n least) (ltb most n) (wholes i (length v)) (inside i (wrap i v) (at + w)) refl refl refl refl e
  where
    n : ℕ
    n = body_size i (length v)

    go : (p q r : Bool) (x : Checked Unit) → ltb n least ≡ p → ltb most n ≡ q → wholes i (length v) ≡ r → inside i (wrap i v) (at + w) ≡ x → cond p (bad 5 at) (cond q (bad 5 at) (cond r (fine x (be w (length (wrap i v)) ++ wrap i v)) (bad 10 at))) ≡ good b → FilledVector w least most i v at b
    go true q r x hp hq hr hx e = bad_good 5 at b e
    go false true r x hp hq hr hx e = bad_good 5 at b e
    go false false false x hp hq hr hx e = bad_good 10 at b e
    go false false true (bad y z) hp hq hr hx e = bad_good y z b e
    go false false true (good u) hp hq hr hx e =
        let o = value i v hr in
        let s : be w (length (wrap i v)) ++ wrap i v ≡ b = same_good _ b e in
        record {
          low = ltb-false _ _ hp;
          high = ltb-false _ _ hq;
          round = hr;
          fine = hx;
          is = sym s;
          size = omega (arith, ap length s, length-append (be w (length (wrap i v))) (wrap i v), be_length w (length (wrap i v)), o.size);
        }

-- a vector that was refused, was refused at its start or within what it would take
refused_vector : (w least most : ℕ) (i : Inner) (v : List ℕ) (x y : ℕ) → vector_filled w least most i v 0 ≡ bad x y → y ≤ w + most
unfolding vector_filled
refused_vector w least most i v x y e =
    go (ltb n least) (ltb most n) (wholes i (length v)) (inside i (wrap i v) (0 + w)) refl refl refl e
  where
    n : ℕ
    n = body_size i (length v)

    go : (p q r : Bool) (z : Checked Unit) → ltb most n ≡ q → wholes i (length v) ≡ r → inside i (wrap i v) (0 + w) ≡ z → cond p (bad 5 0) (cond q (bad 5 0) (cond r (fine z (vector_bytes w i v)) (bad 10 0))) ≡ bad x y → y ≤ w + most
    go true q r z hq hr hz e = omega (arith, same_place 5 x 0 y e)
    go false true r z hq hr hz e = omega (arith, same_place 5 x 0 y e)
    go false false false z hq hr hz e = omega (arith, same_place 10 x 0 y e)
    go false false true (good u) hq hr hz e = good_bad x y _ e
    go false false true (bad u k) hq hr hz e =
        omega (arith, same_place u x k y e, (inside_place i (wrap i v) (0 + w) u k hz).1, (value i v hr).size, ltb-false most n hq)

-- a value that is taken as it is or not at all
taken : (c : Bool) (b r : List ℕ) (x at : ℕ) → cond c (good b) (bad x at) ≡ good r → (c ≡ true) × (r ≡ b)
taken true b r x at e = (refl, sym (same_good b r e))
taken false b r x at e = bad_good x at r e

not_taken : (c : Bool) (b : List ℕ) (x at u y : ℕ) → cond c (good b) (bad x at) ≡ bad u y → (c ≡ false) × (u ≡ x) × (y ≡ at)
not_taken true b x at u y e = good_bad u y b e
not_taken false b x at u y e = (refl, same_number x u at y e, same_place x u at y e)

-- one of few that was filled, or refused
pub filled_one_of : (w least most n at : ℕ) (b : List ℕ) → one_of_filled w least most n at ≡ good b → (allowed least most n ≡ true) × (b ≡ be w n)
unfolding one_of_filled
filled_one_of w least most n at b e = taken (allowed least most n) (be w n) b 4 at e

pub refused_one_of : (w least most n at x y : ℕ) → one_of_filled w least most n at ≡ bad x y → (allowed least most n ≡ false) × (x ≡ 4) × (y ≡ at)
unfolding one_of_filled
refused_one_of w least most n at x y e = not_taken (allowed least most n) (be w n) 4 at x y e

-- bytes of fixed length that were filled, or refused
pub filled_fixed : (n : ℕ) (v : List ℕ) (at : ℕ) (b : List ℕ) → fixed_filled n v at ≡ good b → (length v ≡ n) × (b ≡ v)
unfolding fixed_filled
filled_fixed n v at b e = let h = taken (eqb (length v) n) v b 5 at e in (eqb-true (length v) n h.0, h.1)

pub refused_fixed : (n : ℕ) (v : List ℕ) (at x y : ℕ) → fixed_filled n v at ≡ bad x y → (x ≡ 5) × (y ≡ at)
unfolding fixed_filled
refused_fixed n v at x y e = let h = not_taken (eqb (length v) n) v 5 at x y e in (h.1, h.2)

-- the most bytes that a field takes
abbrev pub most : Field → ℕ
most (Uint w) = width_of w
most (Vector w least m i) = width_of w + m
most (OneOf w least m) = width_of w
most (Fixed n) = n

pub fill_short : (f : Field) (v : Value) (at : ℕ) (b : List ℕ) → fill f v at ≡ good b → length b ≤ most f
fill_short (Uint w) v at b e = omega (arith, ap length (same_good _ b e), be_length (width_of w) (number_in v))
fill_short (Vector w least m i) v at b e =
    let h = filled_vector (width_of w) least m i (bytes_in v) at b e in omega (arith, h.size, h.high)
fill_short (OneOf w least m) v at b e =
    let h = filled_one_of (width_of w) least m (number_in v) at b e in omega (arith, ap length h.1, be_length (width_of w) (number_in v))
fill_short (Fixed n) v at b e = let h = filled_fixed n (bytes_in v) at b e in omega (arith, ap length h.1, h.0)

pub fill_near : (f : Field) (v : Value) (x y : ℕ) → fill f v 0 ≡ bad x y → y ≤ most f
fill_near (Uint w) v x y e = good_bad x y _ e
fill_near (Vector w least m i) v x y e = refused_vector (width_of w) least m i (bytes_in v) x y e
fill_near (OneOf w least m) v x y e = omega (arith, (refused_one_of (width_of w) least m (number_in v) 0 x y e).2)
fill_near (Fixed n) v x y e = omega (arith, (refused_fixed n (bytes_in v) 0 x y e).1)

-- a field's bytes are those that it is laid out as
pub fill_laid : (f : Field) (v : Value) (at : ℕ) (b : List ℕ) → fill f v at ≡ good b → b ≡ laid f v
fill_laid (Uint w) v at b e = sym (same_good _ b e)
fill_laid (Vector w least m i) v at b e = (filled_vector (width_of w) least m i (bytes_in v) at b e).is
fill_laid (OneOf w least m) v at b e = (filled_one_of (width_of w) least m (number_in v) at b e).1
fill_laid (Fixed n) v at b e = (filled_fixed n (bytes_in v) at b e).1

-- a field at a place is the field at the start, its refusal moved there
shifted_fine : (x : Checked Unit) (at : ℕ) (b : List ℕ) → fine (shift at x) b ≡ moved at (fine x b)
shifted_fine (good u) at b = refl
shifted_fine (bad x p) at b = refl

taken_moved : (c : Bool) (b : List ℕ) (x at : ℕ) → cond c (good b) (bad x at) ≡ moved at (cond c (good b) (bad x 0))
taken_moved true b x at = refl
taken_moved false b x at = let a : at ≡ at + 0 = omega arith in ap (bad x) a

pub fill_moved : (f : Field) (v : Value) (at : ℕ) → fill f v at ≡ moved at (fill f v 0)
unfolding vector_filled one_of_filled fixed_filled
fill_moved (Uint w) v at = refl
fill_moved (OneOf w least m) v at = taken_moved (allowed least m (number_in v)) (be (width_of w) (number_in v)) 4 at
fill_moved (Fixed n) v at = taken_moved (eqb (length (bytes_in v)) n) (bytes_in v) 5 at
fill_moved (Vector w least m i) x at =
    let v = bytes_in x in
    let n = width_of w in
    let a : at ≡ at + 0 = omega arith in
    let j : at + n ≡ at + (0 + n) = omega arith in
    let s : inside i (wrap i v) (at + n) ≡ shift at (inside i (wrap i v) (0 + n)) =
    ap (inside i (wrap i v)) j ∙ inside_shift i (wrap i v) (at + (0 + n)) ∙ shift_add at (0 + n) (inside i (wrap i v) 0) ∙ ap (shift at) (sym (inside_shift i (wrap i v) (0 + n))) in
    go (ltb (body_size i (length v)) least) (ltb m (body_size i (length v))) (wholes i (length v)) (inside i (wrap i v) (at + n)) (inside i (wrap i v) (0 + n)) (vector_bytes n i v) s a
  where
    go : (p q r : Bool) (y z : Checked Unit) (b : List ℕ) → y ≡ shift at z → at ≡ at + 0 → cond p (bad 5 at) (cond q (bad 5 at) (cond r (fine y b) (bad 10 at))) ≡ moved at (cond p (bad 5 0) (cond q (bad 5 0) (cond r (fine z b) (bad 10 0))))
    go true q r y z b e a = ap (bad 5) a
    go false true r y z b e a = ap (bad 5) a
    go false false false y z b e a = ap (bad 10) a
    go false false true y z b e a = ap (λ (x : Checked Unit). fine x b) e ∙ shifted_fine z at b
