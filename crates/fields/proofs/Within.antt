-- Over any layout: every part that is read, and the place of every refusal, lies within the bytes. Assumes nothing.
use mathlib.Core.Path.{◌≡◌, refl, ap, sym, subst, ◌∙◌}
use mathlib.Core.List.{List, [], ◌∷◌}
use mathlib.Core.Bool.{Bool, true, false, cond}
use Prim.Native.Nat.{ℕ, suc, ◌+◌, ◌≤◌}
use native.Mathlib.Omega.{arith}
use lib.ListN.{length, take, drop, length-drop}
use lib.Dec.{ltb}
use lib.Seq.{drop-drop}
use Rattle.octets.specs.Numbers.{width_of, unbe}
use Rattle.fields.specs.declared.layout.Part.{Part}
use Rattle.fields.specs.declared.layout.Field.{Field}
use Rattle.fields.specs.declared.layout.Field.TheVariants.{Uint, Vector, OneOf, Fixed}
use Rattle.fields.specs.Checked.{Checked, good, bad}
use Rattle.fields.specs.Layout.{inside, field, next, push, read, found_then, parts_found, bytes_at}
use Rattle.fields.specs.Claims.{Each, Met, FoundBefore}
use Rattle.fields.proofs.Answers.{bad_good, good_bad, same_good, same_place, same_number}
use Rattle.fields.proofs.Founds.{found_vector, found_within, found_after, refused_at_lem}

-- each field with its part
abbrev pub Both : (Field → Part → Type 0) → List Field → List Part → Type 0
Both P [] [] = Unit
Both P [] (p ∷ ps) = ⊥
Both P (f ∷ fs) [] = ⊥
Both P (f ∷ fs) (p ∷ ps) = P f p × Both P fs ps

seconds : (Q : Part → Type 0) (fs : List Field) (ps : List Part) → Both (λ f p. Q p) fs ps → Each Q ps
seconds Q [] [] b = tt
seconds Q [] (p ∷ ps) b = absurd b
seconds Q (f ∷ fs) [] b = absurd b
seconds Q (f ∷ fs) (p ∷ ps) b = (b.0, seconds Q fs ps b.1)

module _ (s : List ℕ) where
  abbrev Inside : Part → Type 0
  Inside p = p.start + p.len ≤ length s

  found_inside : (f : Field) (at : ℕ) (p : Part) → at ≤ length s → field f (drop at s) at ≡ good p → Inside p
  found_inside f at p h e = omega (arith, found_within f (drop at s) at p e, length-drop at s)

  -- what holds of each field that is found holds of all that are read
  pub parts_all : (P : Field → Part → Type 0) → ((f : Field) (at : ℕ) (p : Part) → at ≤ length s → field f (drop at s) at ≡ good p → P f p) → (fs : List Field) (at : ℕ) (ps : List Part) → at ≤ length s → read fs s at ≡ good ps → Both P fs ps
  unfolding read
  parts_all P one [] at ps h e = go (ltb at (length s)) e
    where
      go : (b : Bool) → cond b (bad 3 at) (good []) ≡ good ps → Both P [] ps
      go true e = bad_good 3 at ps e
      go false e = subst (λ (x : List Part). Both P [] x) (same_good [] ps e) tt
  parts_all P one (f ∷ fs) at ps h e = go (field f (drop at s) at) refl e (λ p. parts_all P one fs (p.start + p.len))
    where
      go : (x : Checked Part) → field f (drop at s) at ≡ x → next x (λ p. push p (read fs s (p.start + p.len))) ≡ good ps → ((p : Part) (qs : List Part) → Inside p → read fs s (p.start + p.len) ≡ good qs → Both P fs qs) → Both P (f ∷ fs) ps
      go (bad x y) hx e less = bad_good x y ps e
      go (good p) hx e less = more (read fs s (p.start + p.len)) refl e
        where
          more : (a : Checked (List Part)) → read fs s (p.start + p.len) ≡ a → push p a ≡ good ps → Both P (f ∷ fs) ps
          more (bad x y) ha e = bad_good x y ps e
          more (good qs) ha e = subst (λ (x : List Part). Both P (f ∷ fs) x) (same_good (p ∷ qs) ps e) (one f at p h hx, less p qs (found_inside f at p h hx) ha)

  pub parts_within : (fs : List Field) (at : ℕ) (ps : List Part) → at ≤ length s → read fs s at ≡ good ps → Each Inside ps
  parts_within fs at ps h e = seconds Inside fs ps (parts_all (λ f p. Inside p) found_inside fs at ps h e)

  pub place_within : (fs : List Field) (at x y : ℕ) → at ≤ length s → read fs s at ≡ bad x y → y ≤ length s
  unfolding read
  place_within [] at x y h e = go (ltb at (length s)) refl e
    where
      go : (b : Bool) → ltb at (length s) ≡ b → ◌≡◌ {A = Checked (List Part)} (cond b (bad 3 at) (good [])) (bad x y) → y ≤ length s
      go true q e = omega (arith, same_place 3 x at y e)
      go false q e = good_bad x y _ e
  place_within (f ∷ fs) at x y h e = go (field f (drop at s) at) refl e (λ p. place_within fs (p.start + p.len) x y)
    where
      go : (z : Checked Part) → field f (drop at s) at ≡ z → next z (λ p. push p (read fs s (p.start + p.len))) ≡ bad x y → ((p : Part) → Inside p → read fs s (p.start + p.len) ≡ bad x y → y ≤ length s) → y ≤ length s
      go (bad u v) hz e less = omega (arith, same_place u x v y e, (refused_at_lem f (drop at s) at u v hz).1, length-drop at s)
      go (good p) hz e less = more (read fs s (p.start + p.len)) refl e
        where
          more : (a : Checked (List Part)) → read fs s (p.start + p.len) ≡ a → push p a ≡ bad x y → y ≤ length s
          more (good qs) ha e = good_bad x y _ e
          more (bad u v) ha e = less p (found_inside f at p h hz) (rw ha e)

-- what is read is what is found, and a refusal meets the field behind those found
pub read_found : (fs : List Field) (s : List ℕ) (at : ℕ) (ps : List Part) → read fs s at ≡ good ps → parts_found fs s at ≡ ps
unfolding read parts_found
read_found [] s at ps e = go (ltb at (length s)) e
  where
    go : (b : Bool) → cond b (bad 3 at) (good []) ≡ good ps → [] ≡ ps
    go true e = bad_good 3 at ps e
    go false e = same_good [] ps e
read_found (f ∷ fs) s at ps e = go (field f (drop at s) at) e (λ p. read_found fs s (p.start + p.len))
  where
    go : (x : Checked Part) → next x (λ p. push p (read fs s (p.start + p.len))) ≡ good ps → ((p : Part) (qs : List Part) → read fs s (p.start + p.len) ≡ good qs → parts_found fs s (p.start + p.len) ≡ qs) → found_then x (λ p. parts_found fs s (p.start + p.len)) ≡ ps
    go (bad x y) e less = bad_good x y ps e
    go (good p) e less = more (read fs s (p.start + p.len)) refl e
      where
        more : (a : Checked (List Part)) → read fs s (p.start + p.len) ≡ a → push p a ≡ good ps → p ∷ parts_found fs s (p.start + p.len) ≡ ps
        more (bad x y) ha e = bad_good x y ps e
        more (good qs) ha e = ap (λ (l : List Part). p ∷ l) (less p qs ha) ∙ same_good (p ∷ qs) ps e

met_behind : (fs : List Field) (s : List ℕ) (at x y : ℕ) → read fs s at ≡ bad x y → Met fs s at x y × (at ≤ y)
unfolding read parts_found
met_behind [] s at x y e = go (ltb at (length s)) e
  where
    go : (b : Bool) → ◌≡◌ {A = Checked (List Part)} (cond b (bad 3 at) (good [])) (bad x y) → Met [] s at x y × (at ≤ y)
    go true e = (record { before = tt; some = omega arith; over = λ z. same_number 3 x at y e }, omega (arith, same_place 3 x at y e))
    go false e = good_bad x y _ e
met_behind (f ∷ fs) s at x y e = go (field f (drop at s) at) refl e (λ p. met_behind fs s (p.start + p.len) x y)
  where
    go : (z : Checked Part) → field f (drop at s) at ≡ z → next z (λ p. push p (read fs s (p.start + p.len))) ≡ bad x y → ((p : Part) → read fs s (p.start + p.len) ≡ bad x y → Met fs s (p.start + p.len) x y × (p.start + p.len ≤ y)) → Met (f ∷ fs) s at x y × (at ≤ y)
    go (bad u v) hz e less = (record { before = rw hz tt; some = rw hz (omega arith); over = λ q. absurd (omega (arith, rw hz at q)) }, omega (arith, same_place u x v y e, (refused_at_lem f (drop at s) at u v hz).0))
    go (good p) hz e less = more (read fs s (p.start + p.len)) refl e
      where
        more : (a : Checked (List Part)) → read fs s (p.start + p.len) ≡ a → push p a ≡ bad x y → Met (f ∷ fs) s at x y × (at ≤ y)
        more (good qs) ha e = good_bad x y _ e
        more (bad u v) ha e =
            let r = less p (rw ha e) in
            (record { before = rw hz (r.1, r.0.before); some = rw hz (omega (arith, r.0.some)); over = λ q. r.0.over (omega (arith, rw hz at q)) }, omega (arith, r.1, found_after f (drop at s) at p hz))

-- a layout is refused where its first field starts, or behind it
pub refused_behind : (fs : List Field) (s : List ℕ) (at x y : ℕ) → read fs s at ≡ bad x y → at ≤ y
refused_behind fs s at x y e = (met_behind fs s at x y e).1

pub found_before : FoundBefore
found_before fs s at = (read_found fs s at, λ x y e. (met_behind fs s at x y e).0)

-- no more parts are found than there are fields
pub found_few : (fs : List Field) (s : List ℕ) (at : ℕ) → length (parts_found fs s at) ≤ length fs
unfolding parts_found
found_few [] s at = omega arith
found_few (f ∷ fs) s at = go (field f (drop at s) at) (λ p. found_few fs s (p.start + p.len))
  where
    go : (x : Checked Part) → ((p : Part) → length (parts_found fs s (p.start + p.len)) ≤ length fs) → length (found_then x (λ p. parts_found fs s (p.start + p.len))) ≤ suc (length fs)
    go (bad x y) less = omega arith
    go (good p) less = omega (arith, less p)

-- as many parts as fields
pub read_count : (fs : List Field) (s : List ℕ) (at : ℕ) (ps : List Part) → read fs s at ≡ good ps → length ps ≡ length fs
unfolding read
read_count [] s at ps e = go (ltb at (length s)) e
  where
    go : (b : Bool) → cond b (bad 3 at) (good []) ≡ good ps → length ps ≡ 0
    go true e = bad_good 3 at ps e
    go false e = sym (ap length (same_good [] ps e))
read_count (f ∷ fs) s at ps e = go (field f (drop at s) at) e (λ p. read_count fs s (p.start + p.len))
  where
    go : (x : Checked Part) → next x (λ p. push p (read fs s (p.start + p.len))) ≡ good ps → ((p : Part) (qs : List Part) → read fs s (p.start + p.len) ≡ good qs → length qs ≡ length fs) → length ps ≡ suc (length fs)
    go (bad x y) e less = bad_good x y ps e
    go (good p) e less = more (read fs s (p.start + p.len)) refl e
      where
        more : (a : Checked (List Part)) → read fs s (p.start + p.len) ≡ a → push p a ≡ good ps → length ps ≡ suc (length fs)
        more (bad x y) ha e = bad_good x y ps e
        more (good qs) ha e = sym (ap length (same_good (p ∷ qs) ps e)) ∙ ap suc (less p qs ha)

-- a field that was found is whole: a vector's elements are fine
abbrev pub Whole : List ℕ → Field → Part → Type 0
Whole s (Uint w) p = Unit
Whole s (OneOf w least most) p = Unit
Whole s (Fixed n) p = Unit
Whole s (Vector w least most i) p = (p.start + p.len ≤ length s) × (inside i (bytes_at s p) p.start ≡ good tt)

pub found_whole : (s : List ℕ) (f : Field) (at : ℕ) (p : Part) → at ≤ length s → field f (drop at s) at ≡ good p → Whole s f p
found_whole s (Uint w) at p h e = tt
found_whole s (OneOf w least most) at p h e = tt
found_whole s (Fixed n) at p h e = tt
found_whole s (Vector w least most i) at p h e =
    let u = width_of w in
    let v = found_vector u least most i (drop at s) at p e in
    let n = unbe (take u (drop at s)) in
    let l : at + u + n ≤ length s = omega (arith, v.room, v.prefix, length-drop at s) in
    let f : inside i (take n (drop (at + u) s)) (at + u) ≡ good tt = rw (drop-drop u at s) at v.fine in
    rw v.is (l, f)
