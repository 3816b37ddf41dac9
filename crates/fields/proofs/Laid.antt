-- Fields that were filled, all of them, and what they are laid out as; fields that were read, one after the other. Assumes nothing.
use mathlib.Core.Path.{◌≡◌, refl, ap, ap₂, sym, subst, ◌∙◌}
use mathlib.Core.List.{List, [], ◌∷◌, ◌++◌}
use mathlib.Core.Bool.{Bool, true, false, cond, ◌&&◌}
use Prim.Native.Nat.{ℕ, ◌+◌, ◌^◌, ◌≤◌, ◌<◌}
use native.Mathlib.Omega.{arith}
use lib.ListN.{length, take, drop, length-append, length-drop}
use lib.Seq.{length-take-le}
use lib.Dec.{ltb, leb}
use borrow.Author.Tests.{lt-ltb, le-ltb, ltb-false, leb-true}
use Rattle.octets.specs.Bytes.{Bytes}
use Rattle.octets.specs.Numbers.{width_of, unbe}
use Rattle.octets.proofs.Numbers.{unbe_below}
use Rattle.fields.specs.declared.layout.Part.{Part}
use Rattle.fields.specs.declared.layout.Inner.TheVariants.{Opaque}
use Rattle.fields.specs.declared.layout.Field.{Field}
use Rattle.fields.specs.declared.layout.Field.TheVariants.{Uint, Vector, OneOf, Fixed}
use Rattle.fields.specs.Checked.{Checked, good, bad, then}
use Rattle.fields.specs.Layout.{inside, allowed, number_at, one_of_at, field, next, push, read}
use Rattle.fields.specs.Write.{vector_bytes, vector_filled, body_size, wholes, wrap, fine, fill, laid, Filled, join, write}
use Rattle.fields.specs.Claims.{Each, lead, LongAs, InARow, ReadInARow, Upto, here, past, LeftToRight}
use Rattle.fields.specs.Extensions.{all_laid}
use Rattle.fields.proofs.Answers.{bad_good, same_good}
use Rattle.fields.proofs.Places.{plain_fine}
use Rattle.fields.proofs.Founds.{found_number, found_vector, found_one_of, found_fixed, found_within}
use Rattle.fields.proofs.Fills.{fill_laid}
use Rattle.fields.proofs.Vectors.{bytes_take, bytes_drop}

pub record WasFilled (f : Filled) : Type 0 where
  pub at : ℕ
  pub bytes : List ℕ
  pub fine : fill f.field f.value at ≡ good bytes

-- where all is written, each field was filled, and the bytes are those that the fields are laid out as
pub write_laid : (fs : List Filled) (at : ℕ) (b : List ℕ) → write fs at ≡ good b → Each WasFilled fs × (b ≡ all_laid fs)
unfolding write
write_laid [] at b e = (tt, sym (same_good [] b e))
write_laid (f ∷ fs) at b e = go (fill f.field f.value at) refl e (write_laid fs)
  where
    go : (a : Checked (List ℕ)) → fill f.field f.value at ≡ a → then a (λ c. join c (write fs (at + length c))) ≡ good b → ((n : ℕ) (d : List ℕ) → write fs n ≡ good d → Each WasFilled fs × (d ≡ all_laid fs)) → Each WasFilled (f ∷ fs) × (b ≡ all_laid (f ∷ fs))
    go (bad x y) h e less = bad_good x y b e
    go (good c) h e less = more (write fs (at + length c)) refl e
      where
        more : (a : Checked (List ℕ)) → write fs (at + length c) ≡ a → join c a ≡ good b → Each WasFilled (f ∷ fs) × (b ≡ all_laid (f ∷ fs))
        more (bad x y) ha e = bad_good x y b e
        more (good d) ha e =
            let k = less (at + length c) d ha in
            ((record { at = at; bytes = c; fine = h }, k.0), sym (same_good (c ++ d) b e) ∙ ap₂ ◌++◌ (fill_laid f.field f.value at c h) k.1)

-- and where each field takes its value, all is written
abbrev pub TakesIt : Filled → Type 0
TakesIt f = (n : ℕ) → fill f.field f.value n ≡ good (laid f.field f.value)

pub laid_write : (fs : List Filled) (at : ℕ) → Each TakesIt fs → write fs at ≡ good (all_laid fs)
unfolding write
laid_write [] at h = refl
laid_write (f ∷ fs) at h = let l = laid_write fs (at + length (laid f.field f.value)) h.1 in rw (h.0 at, l)

-- an opaque vector takes bytes whose length is in its range
pub opaque_takes : (w least most : ℕ) (v : List ℕ) (at : ℕ) → least ≤ length v → length v ≤ most → vector_filled w least most Opaque v at ≡ good (vector_bytes w Opaque v)
unfolding vector_filled body_size wholes wrap
opaque_takes w least most v at low high = rw (le-ltb _ _ low, le-ltb _ _ high, plain_fine v (at + w))

-- and refuses others with 5 where it would start
pub opaque_refuses : (w least most : ℕ) (v : List ℕ) (at : ℕ) → (least ≤ length v → length v ≤ most → ⊥) → vector_filled w least most Opaque v at ≡ bad 5 at
unfolding vector_filled body_size wholes
opaque_refuses w least most v at h = go (ltb (length v) least) (ltb most (length v)) refl refl
  where
    go : (p q : Bool) → ltb (length v) least ≡ p → ltb most (length v) ≡ q → cond p (bad 5 at) (cond q (bad 5 at) (fine (inside Opaque (wrap Opaque v) (at + w)) (vector_bytes w Opaque v))) ≡ bad 5 at
    go true q hp hq = refl
    go false true hp hq = refl
    go false false hp hq = absurd (h (ltb-false (length v) least hp) (ltb-false most (length v) hq))

-- a number that was found: where it ends, what it is, and that its bytes hold it
pub record IsNumber (w : ℕ) (s : List ℕ) (at : ℕ) (p : Part) : Type 0 where
  pub end : p.start + p.len ≡ at + w
  pub is : p.value ≡ unbe (take w (drop at s))
  pub below : Bytes s → p.value < 256 ^ w

pub is_number : (w : ℕ) (s : List ℕ) (at : ℕ) (p : Part) → number_at w (drop at s) at ≡ good p → IsNumber w s at p
is_number w s at p e =
    let h = found_number w (drop at s) at p e in
    let l : length (take w (drop at s)) ≡ w = length-take-le w (drop at s) h.1 in
    rw h.0 (record { end = refl; is = refl; below = λ bs. rw l at (unbe_below (bytes_take w (bytes_drop at bs))) })

pub one_of_number : (w least most : ℕ) (s : List ℕ) (at : ℕ) (p : Part) → one_of_at w least most (drop at s) at ≡ good p → IsNumber w s at p × (allowed least most p.value ≡ true)
one_of_number w least most s at p e = let h = found_one_of w least most (drop at s) at p e in (is_number w s at p h.0, h.1)

-- what is allowed lies in the row
pub allowed_within : (least most n : ℕ) → allowed least most n ≡ true → (least ≤ n) × (n ≤ most)
allowed_within least most n h = go (leb least n) (leb n most) refl refl h
  where
    go : (a b : Bool) → leb least n ≡ a → leb n most ≡ b → (a && b) ≡ true → (least ≤ n) × (n ≤ most)
    go true true ha hb h = (leb-true least n ha, leb-true n most hb)
    go true false ha hb h = absurd (let z : false ≡ true = h in let o : ◌≡◌ {A = ℕ} 0 1 = cc in omega arith)
    go false b ha hb h = absurd (let z : false ≡ true = h in let o : ◌≡◌ {A = ℕ} 0 1 = cc in omega arith)

-- a layout that was read: its first field, and the rest from where that ends
pub read_head : (f : Field) (fs : List Field) (s : List ℕ) (at : ℕ) (p : Part) (ps : List Part) → read (f ∷ fs) s at ≡ good (p ∷ ps) → (field f (drop at s) at ≡ good p) × (read fs s (p.start + p.len) ≡ good ps)
unfolding read
read_head f fs s at p ps e = go (field f (drop at s) at) refl e
  where
    go : (x : Checked Part) → field f (drop at s) at ≡ x → next x (λ q. push q (read fs s (q.start + q.len))) ≡ good (p ∷ ps) → (x ≡ good p) × (read fs s (p.start + p.len) ≡ good ps)
    go (bad x y) h e = bad_good x y _ e
    go (good q) h e = more (read fs s (q.start + q.len)) refl e
      where
        more : (a : Checked (List Part)) → read fs s (q.start + q.len) ≡ a → push q a ≡ good (p ∷ ps) → (good q ≡ good p) × (read fs s (p.start + p.len) ≡ good ps)
        more (bad x y) ha e = bad_good x y _ e
        more (good qs) ha e =
            let z : q ≡ p = cc in
            let y : qs ≡ ps = cc in
            (ap good z, ap (λ (k : Part). read fs s (k.start + k.len)) (sym z) ∙ ha ∙ ap good y)

-- the number of each field that was read, of those that are numbers
abbrev pub Numeric : List ℕ → Field → Part → Type 0
Numeric s (Uint w) p = p.value < 256 ^ width_of w
Numeric s (OneOf w least most) p = (p.value < 256 ^ width_of w) × (least ≤ p.value) × (p.value ≤ most)
Numeric s (Fixed n) p = Unit
Numeric s (Vector w least most i) p = Unit

pub found_numeric : (s : List ℕ) → Bytes s → (f : Field) (at : ℕ) (p : Part) → at ≤ length s → field f (drop at s) at ≡ good p → Numeric s f p
found_numeric s bs (Uint w) at p h e = (is_number (width_of w) s at p e).below bs
found_numeric s bs (OneOf w least most) at p h e =
    let n = one_of_number (width_of w) least most s at p e in
    let a = allowed_within least most p.value n.1 in
    (n.0.below bs, a.0, a.1)
found_numeric s bs (Fixed n) at p h e = tt
found_numeric s bs (Vector w least most i) at p h e = tt

-- and one that is refused: at its first field, or behind it
pub read_stops : (f : Field) (fs : List Field) (s : List ℕ) (at x y : ℕ) → field f (drop at s) at ≡ bad x y → read (f ∷ fs) s at ≡ bad x y
unfolding read
read_stops f fs s at x y e = rw e

pub read_goes : (f : Field) (fs : List Field) (s : List ℕ) (at x y : ℕ) (p : Part) → field f (drop at s) at ≡ good p → read fs s (p.start + p.len) ≡ bad x y → read (f ∷ fs) s at ≡ bad x y
unfolding read
read_goes f fs s at x y p e h = rw (e, h)

pub write_stops : (f : Filled) (fs : List Filled) (at x y : ℕ) → fill f.field f.value at ≡ bad x y → write (f ∷ fs) at ≡ bad x y
unfolding write
write_stops f fs at x y e = rw e

pub write_goes : (f : Filled) (fs : List Filled) (at x y : ℕ) (b : List ℕ) → fill f.field f.value at ≡ good b → write fs (at + length b) ≡ bad x y → write (f ∷ fs) at ≡ bad x y
unfolding write
write_goes f fs at x y b e h = rw (e, h)

-- where a field that was found lies
found_lies : (f : Field) (r : List ℕ) (at : ℕ) (p : Part) → field f r at ≡ good p → (p.start ≡ at + lead f) × LongAs f p
found_lies (Uint w) r at p e = let h = (found_number (width_of w) r at p e).0 in rw h (omega arith, refl)
found_lies (Vector w least most i) r at p e = let h = (found_vector (width_of w) least most i r at p e).is in rw h (refl, refl)
found_lies (OneOf w least most) r at p e = let h = (found_number (width_of w) r at p (found_one_of (width_of w) least most r at p e).0).0 in rw h (omega arith, refl)
found_lies (Fixed n) r at p e = let h = (found_fixed n r at p e).0 in rw h (omega arith, refl)

pub read_in_a_row : ReadInARow
unfolding read
read_in_a_row [] s at ps l e = go (ltb at (length s)) refl e
  where
    go : (b : Bool) → ltb at (length s) ≡ b → cond b (bad 3 at) (good []) ≡ good ps → InARow [] ps at (length s)
    go true h e = bad_good 3 at ps e
    go false h e = subst (λ (q : List Part). InARow [] q at (length s)) (same_good [] ps e) (omega (arith, ltb-false at (length s) h))
read_in_a_row (f ∷ fs) s at ps l e = go (field f (drop at s) at) refl e (λ p. read_in_a_row fs s (p.start + p.len))
  where
    go : (x : Checked Part) → field f (drop at s) at ≡ x → next x (λ p. push p (read fs s (p.start + p.len))) ≡ good ps → ((p : Part) (qs : List Part) → p.start + p.len ≤ length s → read fs s (p.start + p.len) ≡ good qs → InARow fs qs (p.start + p.len) (length s)) → InARow (f ∷ fs) ps at (length s)
    go (bad x y) h e less = bad_good x y ps e
    go (good p) h e less = more (read fs s (p.start + p.len)) refl e
      where
        more : (a : Checked (List Part)) → read fs s (p.start + p.len) ≡ a → push p a ≡ good ps → InARow (f ∷ fs) ps at (length s)
        more (bad x y) ha e = bad_good x y ps e
        more (good qs) ha e =
            let k = found_lies f (drop at s) at p h in
            let w : p.start + p.len ≤ length s = omega (arith, found_within f (drop at s) at p h, length-drop at s) in
            subst (λ (q : List Part). InARow (f ∷ fs) q at (length s)) (same_good (p ∷ qs) ps e) (k.0, k.1, less p qs w ha)

-- the first bad field decides
upto_stops : (fs gs : List Field) (f : Field) (s : List ℕ) (at end x y : ℕ) → Upto s fs at end → field f (drop end s) end ≡ bad x y → read (fs ++ (f ∷ gs)) s at ≡ bad x y
upto_stops [] gs f s at end x y here e = read_stops f gs s at x y e
upto_stops (g ∷ fs) gs f s at end x y (past p h u) e = read_goes g (fs ++ (f ∷ gs)) s at x y p h (upto_stops fs gs f s (p.start + p.len) end x y u e)

upto_over : (fs : List Field) (s : List ℕ) (at end : ℕ) → Upto s fs at end → end < length s → read fs s at ≡ bad 3 end
unfolding read
upto_over [] s at end here l = rw (lt-ltb _ _ l)
upto_over (f ∷ fs) s at end (past p h u) l = read_goes f fs s at 3 end p h (upto_over fs s (p.start + p.len) end u l)

written_stops : (fs gs : List Filled) (f : Filled) (at x y : ℕ) (b : List ℕ) → write fs at ≡ good b → fill f.field f.value (at + length b) ≡ bad x y → write (fs ++ (f ∷ gs)) at ≡ bad x y
unfolding write
written_stops [] gs f at x y b e h =
    let z : at + length b ≡ at = omega (arith, ap length (same_good [] b e)) in
    write_stops f gs at x y (rw z at h)
written_stops (g ∷ fs) gs f at x y b e h = go (fill g.field g.value at) refl e (λ n. written_stops fs gs f n x y)
  where
    go : (a : Checked (List ℕ)) → fill g.field g.value at ≡ a → then a (λ c. join c (write fs (at + length c))) ≡ good b → ((n : ℕ) (d : List ℕ) → write fs n ≡ good d → fill f.field f.value (n + length d) ≡ bad x y → write (fs ++ (f ∷ gs)) n ≡ bad x y) → write (g ∷ (fs ++ (f ∷ gs))) at ≡ bad x y
    go (bad u v) ha e less = bad_good u v b e
    go (good c) ha e less = more (write fs (at + length c)) refl e
      where
        more : (a : Checked (List ℕ)) → write fs (at + length c) ≡ a → join c a ≡ good b → write (g ∷ (fs ++ (f ∷ gs))) at ≡ bad x y
        more (bad u v) hb e = bad_good u v b e
        more (good d) hb e =
            let z : at + length b ≡ at + length c + length d = omega (arith, ap length (same_good (c ++ d) b e), length-append c d) in
            write_goes g (fs ++ (f ∷ gs)) at x y c ha (less (at + length c) d hb (rw z at h))

pub left_to_right : LeftToRight
left_to_right = (upto_stops, upto_over, written_stops)
