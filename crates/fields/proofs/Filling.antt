-- A layout's fields checked one after the other. Assumes nothing.
use mathlib.Core.Path.{◌≡◌, refl, ap, ap₂, sym, ◌∙◌}
use mathlib.Core.List.{List, ◌∷◌}
use Prim.Native.Nat.{ℕ, ◌+◌, ◌≤◌, ◌<◌}
use native.Mathlib.Omega.{arith}
use native.Mathlib.Numerals.{add-one}
use native.Mathlib.Nat.{add_assoc}
use lib.ListN.{length, get_or, drop, length-append}
use lib.Seq.{drop-cons, drop-length}
use Rattle.fields.specs.declared.layout.Field.{Field}
use Rattle.fields.specs.declared.layout.Field.TheVariants.{Uint, Vector, OneOf, Fixed}
use Rattle.fields.specs.Checked.{Checked, good, bad, then, moved}
use Rattle.fields.specs.Write.{Value, uint, fill, Filled, join, write, held}
use Rattle.fields.specs.Inner.{ends}
use Rattle.octets.specs.Numbers.{width_of}
use Rattle.octets.specs.declared.number.Width.TheVariants.{One}
use Rattle.fields.specs.Effect.{takes}
use Rattle.fields.proofs.Answers.{bad_good, good_bad, same_good}
use Rattle.octets.proofs.Numbers.{be_length}
use Rattle.fields.proofs.Fills.{most, fill_short, fill_near, fill_moved}

abbrev pub nothing : Filled
nothing = record { field = Uint One; value = uint 0 }

ends_join : (at : ℕ) (b : List ℕ) (a : Checked (List ℕ)) → ends at (join b a) ≡ ends (at + length b) a
ends_join at b (good r) = ap good (ap (λ (k : ℕ). at + k) (length-append b r) ∙ sym (add_assoc at (length b) (length r)))
ends_join at b (bad x y) = refl

-- a field whose number is not judged: how long it is does not depend on it
abbrev pub Unjudged : Field → Type 0
Unjudged (Uint w) = Unit
Unjudged (Vector w least most i) = Unit
Unjudged (OneOf w least most) = ⊥
Unjudged (Fixed n) = Unit

pub takes_held : (f : Field) (n : ℕ) (v : List ℕ) (at : ℕ) → Unjudged f → takes (fill f (held f 0 v) at) ≡ takes (fill f (held f n v) at)
takes_held (Uint w) n v at h = ap good (be_length (width_of w) 0 ∙ sym (be_length (width_of w) n))
takes_held (Vector w least most i) n v at h = refl
takes_held (OneOf w least most) n v at h = absurd h
takes_held (Fixed m) n v at h = refl

module _ (fs : List Filled) (at i : ℕ) (more : i < length fs) (f : Filled) (is : get_or fs i nothing ≡ f) where
  pub this : write (drop i fs) at ≡ then (fill f.field f.value at) (λ b. join b (write (drop (i + 1) fs) (at + length b)))
  unfolding write
  this =
      ap (λ (l : List Filled). write l at)
      (drop-cons fs i nothing more ∙ ap₂ (λ (g : Filled) (k : ℕ). g ∷ drop k fs) is (sym (add-one i)))

  pub stops : (x y : ℕ) → takes (fill f.field f.value at) ≡ bad x y → ends at (write (drop i fs) at) ≡ bad x y
  stops x y e = ap (ends at) this ∙ go (fill f.field f.value at) e
    where
      go : (a : Checked (List ℕ)) → takes a ≡ bad x y → ends at (then a (λ b. join b (write (drop (i + 1) fs) (at + length b)))) ≡ bad x y
      go (good b) e = good_bad x y (length b) e
      go (bad p q) e = e

  pub goes : (m : ℕ) → takes (fill f.field f.value at) ≡ good m → ends at (write (drop i fs) at) ≡ ends (at + m) (write (drop (i + 1) fs) (at + m))
  goes m e = ap (ends at) this ∙ go (fill f.field f.value at) e
    where
      go : (a : Checked (List ℕ)) → takes a ≡ good m → ends at (then a (λ b. join b (write (drop (i + 1) fs) (at + length b)))) ≡ ends (at + m) (write (drop (i + 1) fs) (at + m))
      go (good b) e =
          ends_join at b (write (drop (i + 1) fs) (at + length b))
          ∙ ap (λ (k : ℕ). ends (at + k) (write (drop (i + 1) fs) (at + k))) (same_good (length b) m e)
      go (bad p q) e = bad_good p q m e

pub ended : (fs : List Filled) (at i : ℕ) → i ≡ length fs → ends at (write (drop i fs) at) ≡ good at
unfolding write
ended fs at i e = rw (e, drop-length fs) (ap good (omega arith))

-- what a field takes, or where it is refused, is within the most that it can take
pub takes_short : (f : Field) (v : Value) (m : ℕ) → takes (fill f v 0) ≡ good m → m ≤ most f
takes_short f v m e = go (fill f v 0) refl e
  where
    go : (a : Checked (List ℕ)) → fill f v 0 ≡ a → takes a ≡ good m → m ≤ most f
    go (good b) h e = omega (arith, same_good (length b) m e, fill_short f v 0 b h)
    go (bad x y) h e = bad_good x y m e

pub takes_near : (f : Field) (v : Value) (x y : ℕ) → takes (fill f v 0) ≡ bad x y → y ≤ most f
takes_near f v x y e = go (fill f v 0) refl e
  where
    go : (a : Checked (List ℕ)) → fill f v 0 ≡ a → takes a ≡ bad x y → y ≤ most f
    go (good b) h e = good_bad x y (length b) e
    go (bad u z) h e = let q : z ≡ y = cc in omega (arith, fill_near f v u z h)

-- what a field takes, and its refusal, at any place
pub takes_moved : (f : Field) (v : Value) (at m : ℕ) → takes (fill f v 0) ≡ good m → takes (fill f v at) ≡ good m
takes_moved f v at m e = ap takes (fill_moved f v at) ∙ go (fill f v 0) e
  where
    go : (a : Checked (List ℕ)) → takes a ≡ good m → takes (moved at a) ≡ good m
    go (good b) e = e
    go (bad x y) e = bad_good x y m e

pub not_moved : (f : Field) (v : Value) (at x y : ℕ) → takes (fill f v 0) ≡ bad x y → takes (fill f v at) ≡ bad x (at + y)
not_moved f v at x y e = ap takes (fill_moved f v at) ∙ go (fill f v 0) e
  where
    go : (a : Checked (List ℕ)) → takes a ≡ bad x y → takes (moved at a) ≡ bad x (at + y)
    go (good b) e = good_bad x y (length b) e
    go (bad u z) e = let p : u ≡ x = cc in let q : z ≡ y = cc in rw (p, q)
