-- What the older rule read is read now exactly if its extensions are in order, and 15 comes before anything later. Assumes nothing.
use mathlib.Core.Path.{◌≡◌, refl, ap, ap₂, sym, subst, ◌∙◌}
use mathlib.Core.List.{List, [], ◌∷◌, map}
use mathlib.Core.Bool.{Bool, true, false, cond}
use Prim.Native.Nat.{ℕ, ◌+◌, ◌-◌}
use native.Mathlib.Omega.{arith}
use lib.ListN.{length, take, drop, length-drop}
use lib.Dec.{ltb}
use lib.Seq.{drop-drop, length-take-le}
use borrow.Author.Tests.{le-ltb, ltb-false}
use Rattle.octets.specs.Bytes.{Bytes}
use Rattle.octets.specs.Numbers.{width_of, unbe}
use Rattle.fields.specs.declared.layout.Part.{Part}
use Rattle.fields.specs.declared.layout.Order.{Order}
use Rattle.fields.specs.declared.layout.Order.TheVariants.{Ordered, Unordered}
use Rattle.fields.specs.declared.layout.Inner.{Inner}
use Rattle.fields.specs.declared.layout.Inner.TheVariants.{Opaque, ExtensionList, NodeList}
use Rattle.fields.specs.declared.layout.Field.{Field}
use Rattle.fields.specs.declared.layout.Field.TheVariants.{Uint, Vector, OneOf, Fixed}
use Rattle.fields.specs.Checked.{Checked, good, bad}
use Rattle.fields.specs.Layout.{inside, vector_at, field, whole, next, push, read, found_then, parts_found, bytes_at}
use Rattle.fields.specs.Extensions.{Extended, OutOfOrder, unordered, FifteenInList, ListOutOfOrder, FieldInOrder, InOrder, ReadByOrder, OrderFirst}
use Rattle.fields.proofs.Answers.{bad_good, good_bad, same_good, same_place, same_number}
use Rattle.fields.proofs.Places.{inside_some}
use Rattle.fields.proofs.Founds.{FoundVector, found_vector, number_refused, one_of_refused, fixed_refused}
use Rattle.fields.proofs.Vectors.{bytes_take, bytes_drop}
use Rattle.fields.proofs.Extending.{fine_is_extended, fifteen_is_out_of_order}
use Rattle.fields.proofs.Ordering.{fifteen_asked, Fields, found, stopped, ordered, field_fields}

-- the body of a vector of extensions that was found, and a vector whose body is fine
module _ (w least most : ℕ) (o : Order) (s : List ℕ) (at : ℕ) (p : Part) (bs : Bytes s) where
  abbrev body : List ℕ
  body = take (unbe (take w (drop at s))) (drop w (drop at s))

  body_bytes : Bytes body
  body_bytes = bytes_take (unbe (take w (drop at s))) (bytes_drop w (bytes_drop at bs))

  body_at : {i : Inner} → FoundVector w least most i (drop at s) at p → bytes_at s p ≡ body
  body_at h = rw h.is (ap (take (unbe (take w (drop at s)))) (sym (drop-drop w at s)))

  extended_found : vector_at w least most (ExtensionList o) (drop at s) at ≡ good p → Extended o (bytes_at s p)
  extended_found e =
      let h = found_vector w least most (ExtensionList o) (drop at s) at p e in
      rw (body_at h) ((fine_is_extended o body (at + w) body_bytes).0 h.fine)

  found_extended : vector_at w least most (ExtensionList Unordered) (drop at s) at ≡ good p → Extended o (bytes_at s p) → vector_at w least most (ExtensionList o) (drop at s) at ≡ good p
  unfolding vector_at
  found_extended e x =
      let h = found_vector w least most (ExtensionList Unordered) (drop at s) at p e in
      let f = (fine_is_extended o body (at + w) body_bytes).1 (subst (Extended o) (body_at h) x) in
      rw (le-ltb _ _ h.prefix, le-ltb _ _ h.low, le-ltb _ _ h.high, le-ltb _ _ h.room, f) (ap good (sym h.is))

field_in_order : (f : Field) (s : List ℕ) (at : ℕ) (p : Part) → Bytes s → field f (drop at s) at ≡ good p → FieldInOrder f s p
field_in_order (Uint w) s at p bs e = tt
field_in_order (Vector w least most Opaque) s at p bs e = tt
field_in_order (Vector w least most (ExtensionList o)) s at p bs e = extended_found (width_of w) least most o s at p bs e
field_in_order (Vector w least most NodeList) s at p bs e = tt
field_in_order (OneOf w least most) s at p bs e = tt
field_in_order (Fixed n) s at p bs e = tt

in_order_field : (f : Field) (s : List ℕ) (at : ℕ) (p : Part) → Bytes s → field (unordered f) (drop at s) at ≡ good p → FieldInOrder f s p → field f (drop at s) at ≡ good p
in_order_field (Uint w) s at p bs e x = e
in_order_field (Vector w least most Opaque) s at p bs e x = e
in_order_field (Vector w least most (ExtensionList o)) s at p bs e x = found_extended (width_of w) least most o s at p bs e x
in_order_field (Vector w least most NodeList) s at p bs e x = e
in_order_field (OneOf w least most) s at p bs e x = e
in_order_field (Fixed n) s at p bs e x = e

-- the fields that are read are in order
read_in_order : (fs : List Field) (s : List ℕ) (at : ℕ) (ps : List Part) → Bytes s → read fs s at ≡ good ps → InOrder fs s ps
unfolding read
read_in_order [] s at ps bs e = tt
read_in_order (f ∷ fs) s at ps bs e = go (field f (drop at s) at) refl e (λ p. read_in_order fs s (p.start + p.len))
  where
    go : (x : Checked Part) → field f (drop at s) at ≡ x → next x (λ p. push p (read fs s (p.start + p.len))) ≡ good ps → ((p : Part) (qs : List Part) → Bytes s → read fs s (p.start + p.len) ≡ good qs → InOrder fs s qs) → InOrder (f ∷ fs) s ps
    go (bad x y) hx e less = bad_good x y ps e
    go (good p) hx e less = more (read fs s (p.start + p.len)) refl e
      where
        more : (a : Checked (List Part)) → read fs s (p.start + p.len) ≡ a → push p a ≡ good ps → InOrder (f ∷ fs) s ps
        more (bad x y) ha e = bad_good x y ps e
        more (good qs) ha e = subst (InOrder (f ∷ fs) s) (same_good (p ∷ qs) ps e) (field_in_order f s at p bs hx, less p qs bs ha)

-- and fields in order are read
in_order_read : (fs : List Field) (s : List ℕ) (at : ℕ) (ps : List Part) → Bytes s → read (map unordered fs) s at ≡ good ps → InOrder fs s ps → read fs s at ≡ good ps
unfolding read
in_order_read [] s at ps bs e x = e
in_order_read (f ∷ fs) s at ps bs e x = go (field (unordered f) (drop at s) at) refl e (λ p. in_order_read fs s (p.start + p.len))
  where
    gs : List Field
    gs = map unordered fs

    go : (z : Checked Part) → field (unordered f) (drop at s) at ≡ z → next z (λ p. push p (read gs s (p.start + p.len))) ≡ good ps → ((p : Part) (qs : List Part) → Bytes s → read gs s (p.start + p.len) ≡ good qs → InOrder fs s qs → read fs s (p.start + p.len) ≡ good qs) → next (field f (drop at s) at) (λ p. push p (read fs s (p.start + p.len))) ≡ good ps
    go (bad u v) hz e less = bad_good u v ps e
    go (good p) hz e less = more (read gs s (p.start + p.len)) refl e
      where
        more : (a : Checked (List Part)) → read gs s (p.start + p.len) ≡ a → push p a ≡ good ps → next (field f (drop at s) at) (λ p. push p (read fs s (p.start + p.len))) ≡ good ps
        more (bad u v) ha e = bad_good u v ps e
        more (good qs) ha e =
            let q = same_good (p ∷ qs) ps e in
            let y : InOrder (f ∷ fs) s (p ∷ qs) = subst (InOrder (f ∷ fs) s) (sym q) x in
            rw (in_order_field f s at p bs hz y.0, less p qs bs ha y.1) (ap good q)

pub read_by_order : ReadByOrder
read_by_order fs s at ps bs e = (read_in_order fs s at ps bs, in_order_read fs s at ps bs e)

-- what is stopped otherwise is stopped behind lists in order
pub order_first : OrderFirst
unfolding read parts_found
order_first [] s at x y bs e h = tt
order_first (f ∷ fs) s at x y bs e h = go (field f (drop at s) at) (field (unordered f) (drop at s) at) refl (field_fields f (drop at s) at) e (λ p. order_first fs s (p.start + p.len) x y bs)
  where
    gs : List Field
    gs = map unordered fs

    go : (a b : Checked Part) → field f (drop at s) at ≡ a → Fields a b → next a (λ p. push p (read fs s (p.start + p.len))) ≡ bad x y → ((p : Part) → read fs s (p.start + p.len) ≡ bad x y → (x ≡ 15 → ⊥) → InOrder fs s (parts_found gs s (p.start + p.len))) → InOrder (f ∷ fs) s (found_then b (λ p. parts_found gs s (p.start + p.len)))
    go a b ha (found p n o) e less = rw o (field_in_order f s at p bs (ha ∙ n), more (read fs s (p.start + p.len)) refl (rw n at e))
      where
        more : (c : Checked (List Part)) → read fs s (p.start + p.len) ≡ c → push p c ≡ bad x y → InOrder fs s (parts_found gs s (p.start + p.len))
        more (good qs) hc e = good_bad x y _ e
        more (bad u v) hc e = less p (rw hc e) h
    go a b ha (stopped u v w n o) e less = rw o tt
    go a b ha (ordered v n o) e less = absurd (h (same_number 15 x v y (rw n at e)))

-- 15 stands in a list of extensions
fifteen_order : (i : Inner) (b : List ℕ) (at y : ℕ) → Bytes b → inside i b at ≡ bad 15 y → OutOfOrder b at y
fifteen_order Opaque b at y bs e = absurd (fifteen_asked Opaque b at y refl e)
fifteen_order (ExtensionList Ordered) b at y bs e = (fifteen_is_out_of_order b at y bs).0 e
fifteen_order (ExtensionList Unordered) b at y bs e = absurd (fifteen_asked (ExtensionList Unordered) b at y refl e)
fifteen_order NodeList b at y bs e = absurd (fifteen_asked NodeList b at y refl e)

vector_fifteen : (w least most : ℕ) (i : Inner) (s : List ℕ) (at y : ℕ) → Bytes s → vector_at w least most i (drop at s) at ≡ bad 15 y → ListOutOfOrder s y
unfolding vector_at
vector_fifteen w least most i s at y bs e =
    go (ltb (length r) w) (ltb n least) (ltb most n) (ltb (length r - w) n) (inside i (take n (drop w r)) (at + w)) refl refl refl e
  where
    r : List ℕ
    r = drop at s

    n : ℕ
    n = unbe (take w r)

    other : {A : Type 0} (x p : ℕ) → (x ≡ 15 → ⊥) → ◌≡◌ {A = Checked Part} (bad x p) (bad 15 y) → A
    other x p h e = let z : x ≡ 15 = cc in absurd (h z)

    go : (a b c d : Bool) (z : Checked Unit) → ltb (length r) w ≡ a → ltb (length r - w) n ≡ d → inside i (take n (drop w r)) (at + w) ≡ z → cond a (bad 2 at) (cond b (bad 5 at) (cond c (bad 5 at) (cond d (bad 2 at) (whole z (record { start = at + w; len = n; value = n }))))) ≡ bad 15 y → ListOutOfOrder s y
    go true b c d z ha hd hz e = other 2 at (λ q. omega arith) e
    go false true c d z ha hd hz e = other 5 at (λ q. omega arith) e
    go false false true d z ha hd hz e = other 5 at (λ q. omega arith) e
    go false false false true z ha hd hz e = other 2 at (λ q. omega arith) e
    go false false false false (good u) ha hd hz e = good_bad 15 y _ e
    go false false false false (bad x p) ha hd hz e =
        let ex : x ≡ 15 = cc in
        let ep : p ≡ y = cc in
        let o = fifteen_order i (take n (drop w r)) (at + w) y (bytes_take n (bytes_drop w (bytes_drop at bs))) (hz ∙ rw (ex, ep)) in
        let some = inside_some i (take n (drop w r)) (at + w) x p hz in
        let taken : length (take n (drop w r)) ≡ n = length-take-le n (drop w r) (rw (length-drop w r) (ltb-false _ _ hd)) in
        record {
          start = at + w;
          len = n;
          within = omega (arith, ltb-false (length r) w ha, ltb-false (length r - w) n hd, length-drop at s);
          out = subst (λ (b : List ℕ). OutOfOrder b (at + w) y) (ap (take n) (drop-drop w at s)) o;
        }

pub fifteen_in_list : FifteenInList
unfolding read
fifteen_in_list [] s at y bs e = go (ltb at (length s)) e
  where
    go : (b : Bool) → ◌≡◌ {A = Checked (List Part)} (cond b (bad 3 at) (good [])) (bad 15 y) → ListOutOfOrder s y
    go true e = absurd (let z = same_number 3 15 at y e in omega arith)
    go false e = good_bad 15 y _ e
fifteen_in_list (f ∷ fs) s at y bs e = go (field f (drop at s) at) refl e (λ p. fifteen_in_list fs s (p.start + p.len) y bs)
  where
    one : (f : Field) → field f (drop at s) at ≡ bad 15 y → ListOutOfOrder s y
    one (Uint w) h = absurd (let z = (number_refused (width_of w) (drop at s) at 15 y h).0 in omega arith)
    one (Vector w least most i) h = vector_fifteen (width_of w) least most i s at y bs h
    one (OneOf w least most) h = absurd (let z = (one_of_refused (width_of w) least most (drop at s) at 15 y h).1 in omega arith)
    one (Fixed n) h = absurd (let z = (fixed_refused n (drop at s) at 15 y h).0 in omega arith)

    go : (z : Checked Part) → field f (drop at s) at ≡ z → next z (λ p. push p (read fs s (p.start + p.len))) ≡ bad 15 y → ((p : Part) → read fs s (p.start + p.len) ≡ bad 15 y → ListOutOfOrder s y) → ListOutOfOrder s y
    go (bad u v) hz e less = let a = same_number u 15 v y e in let b = same_place u 15 v y e in one f (hz ∙ ap₂ bad (sym a) (sym b))
    go (good p) hz e less = more (read fs s (p.start + p.len)) refl e
      where
        more : (a : Checked (List Part)) → read fs s (p.start + p.len) ≡ a → push p a ≡ bad 15 y → ListOutOfOrder s y
        more (good qs) ha e = good_bad 15 y _ e
        more (bad u v) ha e = less p (rw ha e)
