-- What a field that was found says. Assumes nothing.
use mathlib.Core.Path.{◌≡◌, refl, ◌∙◌, sym}
use mathlib.Core.List.{List}
use mathlib.Core.Bool.{Bool, true, false, cond}
use Prim.Native.Nat.{ℕ, ◌+◌, ◌-◌, ◌≤◌, ◌<◌}
use native.Mathlib.Omega.{arith}
use lib.ListN.{length, take, drop, length-drop}
use lib.Dec.{ltb}
use lib.Seq.{length-take-le}
use borrow.Author.Tests.{ltb-false}
use Rattle.fields.specs.declared.layout.Part.{Part}
use Rattle.fields.specs.declared.layout.Inner.{Inner}
use Rattle.fields.specs.declared.layout.Field.{Field}
use Rattle.fields.specs.declared.layout.Field.TheVariants.{Uint, Vector, OneOf, Fixed}
use Rattle.octets.specs.Numbers.{width_of, unbe}
use Rattle.fields.specs.Layout.{inside, number_at, vector_at, allowed, among, one_of_at, fixed_at, field, whole}
use Rattle.fields.specs.Checked.{Checked, good, bad}
use Rattle.fields.proofs.Answers.{bad_good, good_bad, same_good, same_place}
use Rattle.fields.proofs.Places.{inside_place}

-- n bytes that were found
found_there : (n : ℕ) (r : List ℕ) (at : ℕ) (q p : Part) → cond (ltb (length r) n) (bad 2 at) (good q) ≡ good p → (p ≡ q) × (n ≤ length r)
found_there n r at q p e = go (ltb (length r) n) refl e
  where
    go : (b : Bool) → ltb (length r) n ≡ b → cond b (bad 2 at) (good q) ≡ good p → (p ≡ q) × (n ≤ length r)
    go true h e = bad_good 2 at p e
    go false h e = (sym (same_good _ _ e), ltb-false (length r) n h)

-- a number that was found
pub found_number : (w : ℕ) (r : List ℕ) (at : ℕ) (p : Part) → number_at w r at ≡ good p → (p ≡ record { start = at; len = w; value = unbe (take w r) }) × (w ≤ length r)
unfolding number_at
found_number w r at p e = found_there w r at _ p e

-- one of few that was found
pub found_one_of : (w least most : ℕ) (r : List ℕ) (at : ℕ) (p : Part) → one_of_at w least most r at ≡ good p → (number_at w r at ≡ good p) × (allowed least most p.value ≡ true)
unfolding one_of_at
found_one_of w least most r at p e = go (number_at w r at) refl e
  where
    go : (x : Checked Part) → number_at w r at ≡ x → among least most x ≡ good p → (number_at w r at ≡ good p) × (allowed least most p.value ≡ true)
    go (bad x y) h e = bad_good x y p e
    go (good q) h e = last (allowed least most q.value) refl e
      where
        last : (b : Bool) → allowed least most q.value ≡ b → cond b (good q) (bad 4 q.start) ≡ good p → (number_at w r at ≡ good p) × (allowed least most p.value ≡ true)
        last true hb e = (h ∙ e, rw (sym (same_good q p e)) hb)
        last false hb e = bad_good 4 q.start p e

-- bytes of fixed length that were found
pub found_fixed : (n : ℕ) (r : List ℕ) (at : ℕ) (p : Part) → fixed_at n r at ≡ good p → (p ≡ record { start = at; len = n; value = n }) × (n ≤ length r)
unfolding fixed_at
found_fixed n r at p e = found_there n r at _ p e

-- a vector that was found
pub record FoundVector (w least most : ℕ) (i : Inner) (r : List ℕ) (at : ℕ) (p : Part) : Type 0 where
  pub is : p ≡ record { start = at + w; len = unbe (take w r); value = unbe (take w r) }
  pub prefix : w ≤ length r
  pub low : least ≤ unbe (take w r)
  pub high : unbe (take w r) ≤ most
  pub room : unbe (take w r) ≤ length r - w
  pub fine : inside i (take (unbe (take w r)) (drop w r)) (at + w) ≡ good tt

pub found_vector : (w least most : ℕ) (i : Inner) (r : List ℕ) (at : ℕ) (p : Part) → vector_at w least most i r at ≡ good p → FoundVector w least most i r at p
unfolding vector_at
found_vector w least most i r at p e =
    go (ltb (length r) w) (ltb n least) (ltb most n) (ltb (length r - w) n) (inside i (take n (drop w r)) (at + w)) refl refl refl refl refl e
  where
    n : ℕ
    n = unbe (take w r)

    go : (a b c d : Bool) (x : Checked Unit) → ltb (length r) w ≡ a → ltb n least ≡ b → ltb most n ≡ c → ltb (length r - w) n ≡ d → inside i (take n (drop w r)) (at + w) ≡ x → cond a (bad 2 at) (cond b (bad 5 at) (cond c (bad 5 at) (cond d (bad 2 at) (whole x (record { start = at + w; len = n; value = n }))))) ≡ good p → FoundVector w least most i r at p
    go true b c d x ha hb hc hd hx e = bad_good 2 at p e
    go false true c d x ha hb hc hd hx e = bad_good 5 at p e
    go false false true d x ha hb hc hd hx e = bad_good 5 at p e
    go false false false true x ha hb hc hd hx e = bad_good 2 at p e
    go false false false false (bad y z) ha hb hc hd hx e = bad_good y z p e
    go false false false false (good u) ha hb hc hd hx e =
        record { is = sym (same_good _ _ e); prefix = ltb-false _ _ ha; low = ltb-false _ _ hb; high = ltb-false _ _ hc; room = ltb-false _ _ hd; fine = hx }

-- a field that was found lies within the bytes
pub found_within : (f : Field) (r : List ℕ) (at : ℕ) (p : Part) → field f r at ≡ good p → p.start + p.len ≤ at + length r
found_within (Uint w) r at p e = let h = found_number (width_of w) r at p e in rw h.0 (omega arith)
found_within (Vector w least most i) r at p e =
    let h = found_vector (width_of w) least most i r at p e in rw h.is (omega (arith, h.room, h.prefix))
found_within (OneOf w least most) r at p e =
    let h = found_number (width_of w) r at p (found_one_of (width_of w) least most r at p e).0 in rw h.0 (omega arith)
found_within (Fixed n) r at p e = let h = found_fixed n r at p e in rw h.0 (omega arith)

-- and ends behind its start
pub found_after : (f : Field) (r : List ℕ) (at : ℕ) (p : Part) → field f r at ≡ good p → at ≤ p.start + p.len
found_after (Uint w) r at p e = let h = found_number (width_of w) r at p e in rw h.0 (omega arith)
found_after (Vector w least most i) r at p e = let h = found_vector (width_of w) least most i r at p e in rw h.is (omega arith)
found_after (OneOf w least most) r at p e =
    let h = found_number (width_of w) r at p (found_one_of (width_of w) least most r at p e).0 in rw h.0 (omega arith)
found_after (Fixed n) r at p e = let h = found_fixed n r at p e in rw h.0 (omega arith)

-- a field that was refused was refused at its start or behind it, within the bytes or at their end
cut_short : (b : Bool) (at x y : ℕ) (q : Part) → cond b (bad 2 at) (good q) ≡ bad x y → (x ≡ 2) × (y ≡ at)
cut_short true at x y q e = (cc, same_place 2 x at y e)
cut_short false at x y q e = good_bad x y q e

pub number_refused : (w : ℕ) (r : List ℕ) (at x y : ℕ) → number_at w r at ≡ bad x y → (x ≡ 2) × (y ≡ at)
unfolding number_at
number_refused w r at x y e = cut_short (ltb (length r) w) at x y _ e

pub fixed_refused : (n : ℕ) (r : List ℕ) (at x y : ℕ) → fixed_at n r at ≡ bad x y → (x ≡ 2) × (y ≡ at)
unfolding fixed_at
fixed_refused n r at x y e = cut_short (ltb (length r) n) at x y _ e

-- 2 or 4, where it starts
pub one_of_refused : (w least most : ℕ) (r : List ℕ) (at x y : ℕ) → one_of_at w least most r at ≡ bad x y → (0 < x) × (x < 5) × (y ≡ at)
unfolding one_of_at
one_of_refused w least most r at x y e = go (number_at w r at) refl e
  where
    go : (z : Checked Part) → number_at w r at ≡ z → among least most z ≡ bad x y → (0 < x) × (x < 5) × (y ≡ at)
    go (bad u v) h e =
        let k = number_refused w r at x y (h ∙ e) in
        (omega (arith, k.0), omega (arith, k.0), k.1)
    go (good q) h e = last (allowed least most q.value) e
      where
        last : (b : Bool) → cond b (good q) (bad 4 q.start) ≡ bad x y → (0 < x) × (x < 5) × (y ≡ at)
        last true e = good_bad x y q e
        last false e =
            let z : x ≡ 4 = cc in
            let s : q.start ≡ at = rw (found_number w r at q h).0 in
            (omega arith, omega arith, same_place 4 x q.start y e ∙ s)

vector_refused : (w least most : ℕ) (i : Inner) (r : List ℕ) (at x y : ℕ) → vector_at w least most i r at ≡ bad x y → (at ≤ y) × (y ≤ at + length r)
unfolding vector_at
vector_refused w least most i r at x y e =
    go (ltb (length r) w) (ltb n least) (ltb most n) (ltb (length r - w) n) (inside i (take n (drop w r)) (at + w)) refl refl refl e
  where
    n : ℕ
    n = unbe (take w r)

    start : (u : ℕ) → ◌≡◌ {A = Checked Part} (bad u at) (bad x y) → (at ≤ y) × (y ≤ at + length r)
    start u e = let z = same_place u x at y e in (omega arith, omega arith)

    go : (a b c d : Bool) (z : Checked Unit) → ltb (length r) w ≡ a → ltb (length r - w) n ≡ d → inside i (take n (drop w r)) (at + w) ≡ z → cond a (bad 2 at) (cond b (bad 5 at) (cond c (bad 5 at) (cond d (bad 2 at) (whole z (record { start = at + w; len = n; value = n }))))) ≡ bad x y → (at ≤ y) × (y ≤ at + length r)
    go true b c d z ha hd hz e = start 2 e
    go false true c d z ha hd hz e = start 5 e
    go false false true d z ha hd hz e = start 5 e
    go false false false true z ha hd hz e = start 2 e
    go false false false false (good u) ha hd hz e = good_bad x y _ e
    go false false false false (bad u v) ha hd hz e =
        let l : length (take n (drop w r)) ≡ n = length-take-le n (drop w r) (rw (length-drop w r) (ltb-false _ _ hd)) in
        let z = same_place u x v y e in
        let p = inside_place i (take n (drop w r)) (at + w) u v hz in
        (omega (arith, p.0), omega (arith, p.1, ltb-false (length r) w ha, ltb-false (length r - w) n hd))

pub refused_at_lem : (f : Field) (r : List ℕ) (at x y : ℕ) → field f r at ≡ bad x y → (at ≤ y) × (y ≤ at + length r)
refused_at_lem (Uint w) r at x y e = let z = (number_refused (width_of w) r at x y e).1 in (omega arith, omega arith)
refused_at_lem (Vector w least most i) r at x y e = vector_refused (width_of w) least most i r at x y e
refused_at_lem (OneOf w least most) r at x y e = let z = (one_of_refused (width_of w) least most r at x y e).2 in (omega arith, omega arith)
refused_at_lem (Fixed n) r at x y e = let z = (fixed_refused n r at x y e).1 in (omega arith, omega arith)
