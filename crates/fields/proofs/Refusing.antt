-- The writer refuses as the reader refuses what it would write. Assumes nothing.
use mathlib.Core.Path.{◌≡◌, refl, ap, ap₂, sym, ◌∙◌}
use mathlib.Core.Logic.{◌↔◌}
use mathlib.Core.List.{List, [], ◌∷◌, ◌++◌, append_assoc}
use mathlib.Core.Bool.{Bool, true, false, cond}
use Prim.Native.Nat.{ℕ, ◌+◌, ◌^◌, ◌≤◌, ◌<◌}
use native.Mathlib.Omega.{arith}
use lib.ListN.{length, drop, length-append}
use lib.Dec.{ltb}
use lib.Seq.{drop_at}
use borrow.Author.Tests.{ltb-false}
use Rattle.octets.specs.declared.number.Width.{Width}
use Rattle.octets.specs.Numbers.{width_of, be}
use Rattle.fields.specs.declared.layout.Part.{Part}
use Rattle.fields.specs.declared.layout.Order.{Order}
use Rattle.fields.specs.declared.layout.Inner.{Inner}
use Rattle.fields.specs.declared.layout.Inner.TheVariants.{ExtensionList}
use Rattle.fields.specs.declared.layout.Field.{Field}
use Rattle.fields.specs.declared.layout.Field.TheVariants.{Uint, Vector, OneOf, Fixed}
use Rattle.fields.specs.Checked.{Checked, good, bad, then}
use Rattle.fields.specs.Layout.{inside, vector_at, field, whole, next, push, read}
use Rattle.fields.specs.Write.{Value, uint, bytes, bytes_in, wrap, body_size, wholes, vector_filled, vector_bytes, fine, fill, laid, join, write}
use Rattle.fields.specs.Claims.{Typed, one_field, layout}
use Rattle.fields.specs.Extensions.{RefusedAsRead, all_laid, LayoutRefusedAsRead}
use Rattle.fields.proofs.Answers.{good_bad, same_place, same_number}
use Rattle.fields.proofs.Vectors.{vector_there, vector_by_elements, one_of_there, kept}
use Rattle.fields.proofs.Fills.{refused_one_of, refused_fixed, fill_laid}
use Rattle.fields.proofs.Bodies.{value}

-- the writer and the reader of what it would write
module _ (w least most : ℕ) (o : Order) (v rest : List ℕ) (at : ℕ) (fit : length v < 256 ^ w) where
  abbrev n : ℕ
  n = length v

  abbrev r : List ℕ
  r = (be w n ++ v) ++ rest

  abbrev p : Part
  p = record { start = at + w; len = n; value = n }

  read_of : vector_at w least most (ExtensionList o) r at ≡ cond (ltb n least) (bad 5 at) (cond (ltb most n) (bad 5 at) (whole (inside (ExtensionList o) v (at + w)) p))
  read_of = vector_there w v rest fit least most (ExtensionList o) at

  filled_of : vector_filled w least most (ExtensionList o) v at ≡ cond (ltb n least) (bad 5 at) (cond (ltb most n) (bad 5 at) (fine (inside (ExtensionList o) v (at + w)) (vector_bytes w (ExtensionList o) v)))
  unfolding vector_filled body_size wholes wrap
  filled_of = refl

  alike : (x y : ℕ) → (vector_filled w least most (ExtensionList o) v at ≡ bad x y) ↔ (vector_at w least most (ExtensionList o) r at ≡ bad x y)
  alike x y = ((λ e. read_of ∙ go (ltb n least) (ltb most n) (inside (ExtensionList o) v (at + w)) (sym filled_of ∙ e)), λ e. filled_of ∙ back (ltb n least) (ltb most n) (inside (ExtensionList o) v (at + w)) (sym read_of ∙ e))
    where
      b : List ℕ
      b = vector_bytes w (ExtensionList o) v

      same : (u z : ℕ) → ◌≡◌ {A = Checked (List ℕ)} (bad u z) (bad x y) → ◌≡◌ {A = Checked Part} (bad u z) (bad x y)
      same u z e = cc

      go : (c d : Bool) (i : Checked Unit) → cond c (bad 5 at) (cond d (bad 5 at) (fine i b)) ≡ bad x y → cond c (bad 5 at) (cond d (bad 5 at) (whole i p)) ≡ bad x y
      go true d i e = same 5 at e
      go false true i e = same 5 at e
      go false false (good u) e = good_bad x y b e
      go false false (bad u z) e = same u z e

      other : (u z : ℕ) → ◌≡◌ {A = Checked Part} (bad u z) (bad x y) → ◌≡◌ {A = Checked (List ℕ)} (bad u z) (bad x y)
      other u z e = cc

      back : (c d : Bool) (i : Checked Unit) → cond c (bad 5 at) (cond d (bad 5 at) (whole i p)) ≡ bad x y → cond c (bad 5 at) (cond d (bad 5 at) (fine i b)) ≡ bad x y
      back true d i e = other 5 at e
      back false true i e = other 5 at e
      back false false (good u) e = good_bad x y p e
      back false false (bad u z) e = other u z e

pub refused_as_read : RefusedAsRead
unfolding wrap
refused_as_read w least most o v rest at x y fit = alike (width_of w) least most o v rest at fit x y

-- an element that the writer refuses
vector_refused : (width : Width) (least most : ℕ) (i : Inner) (v rest : List ℕ) (at x y : ℕ) → most < 256 ^ width_of width → vector_filled (width_of width) least most i v at ≡ bad x y → (x ≡ 5 → ⊥) → (x ≡ 10 → ⊥) → field (Vector width least most i) (vector_bytes (width_of width) i v ++ rest) at ≡ bad x y
unfolding vector_filled
vector_refused width least most i v rest at x y fit e h₅ h₁₀ =
    go (ltb n least) (ltb most n) (wholes i (length v)) (inside i (wrap i v) (at + w)) refl refl refl refl e
  where
    w : ℕ
    w = width_of width

    n : ℕ
    n = body_size i (length v)

    go : (p q r : Bool) (z : Checked Unit) → ltb n least ≡ p → ltb most n ≡ q → wholes i (length v) ≡ r → inside i (wrap i v) (at + w) ≡ z → cond p (bad 5 at) (cond q (bad 5 at) (cond r (fine z (vector_bytes w i v)) (bad 10 at))) ≡ bad x y → field (Vector width least most i) (vector_bytes w i v ++ rest) at ≡ bad x y
    go true q r z hp hq hr hz e = absurd (h₅ (same_number 5 x at y e))
    go false true r z hp hq hr hz e = absurd (h₅ (same_number 5 x at y e))
    go false false false z hp hq hr hz e = absurd (h₁₀ (same_number 10 x at y e))
    go false false true (good u) hp hq hr hz e = good_bad x y _ e
    go false false true (bad u k) hp hq hr hz e =
        let o = (value i v hr).size in
        let low : least ≤ length (wrap i v) = omega (arith, ltb-false n least hp, o) in
        let high : length (wrap i v) ≤ most = omega (arith, ltb-false most n hq, o) in
        vector_by_elements width least most i (wrap i v) rest at low high (omega (arith, high)) ∙ rw hz (ap₂ bad (sym (same_number u x k y e)) (sym (same_place u x k y e)))

field_refused : (f : Field) (v : Value) (rest : List ℕ) (at x y : ℕ) → Typed f v → fill f v at ≡ bad x y → (x ≡ 5 → ⊥) → (x ≡ 10 → ⊥) → field f (laid f v ++ rest) at ≡ bad x y
field_refused (Uint w) v rest at x y typed e h₅ h₁₀ = good_bad x y _ e
field_refused (Vector w least most i) (uint n) rest at x y typed e h₅ h₁₀ = absurd typed
field_refused (Vector w least most i) (bytes v) rest at x y typed e h₅ h₁₀ = vector_refused w least most i v rest at x y typed e h₅ h₁₀
field_refused (OneOf w least most) (bytes v) rest at x y typed e h₅ h₁₀ = absurd typed
field_refused (OneOf w least most) (uint n) rest at x y typed e h₅ h₁₀ =
    let h = refused_one_of (width_of w) least most n at x y e in
    one_of_there (width_of w) least most n rest at typed ∙ rw h.0 (ap₂ bad (sym h.1) (sym h.2))
field_refused (Fixed n) v rest at x y typed e h₅ h₁₀ = absurd (h₅ (refused_fixed n (bytes_in v) at x y e).0)

pub layout_refused_as_read : LayoutRefusedAsRead
unfolding read write
layout_refused_as_read [] front x y typed e h₅ h₁₀ = good_bad x y _ e
layout_refused_as_read (f ∷ fs) front x y (one_field wf w) e h₅ h₁₀ =
    go (fill f.field f.value (length front)) refl e (λ g. layout_refused_as_read fs g x y w)
  where
    rest : List ℕ
    rest = all_laid fs

    b : List ℕ
    b = laid f.field f.value

    behind : drop (length front) (front ++ (b ++ rest)) ≡ b ++ rest
    behind = drop_at front (b ++ rest) (length front) refl

    go : (z : Checked (List ℕ)) → fill f.field f.value (length front) ≡ z → then z (λ c. join c (write fs (length front + length c))) ≡ bad x y → ((g : List ℕ) → write fs (length g) ≡ bad x y → (x ≡ 5 → ⊥) → (x ≡ 10 → ⊥) → read (layout fs) (g ++ rest) (length g) ≡ bad x y) → next (field f.field (drop (length front) (front ++ (b ++ rest))) (length front)) (λ p. push p (read (layout fs) (front ++ (b ++ rest)) (p.start + p.len))) ≡ bad x y
    go (bad u k) hz e less =
        let q : fill f.field f.value (length front) ≡ bad x y = hz ∙ ap₂ bad (sym (same_number u x k y e)) (sym (same_place u x k y e)) in
        rw (behind, field_refused f.field f.value rest (length front) x y wf q h₅ h₁₀)
    go (good c) hz e less = more (write fs (length front + length c)) refl e
      where
        more : (a : Checked (List ℕ)) → write fs (length front + length c) ≡ a → join c a ≡ bad x y → next (field f.field (drop (length front) (front ++ (b ++ rest))) (length front)) (λ p. push p (read (layout fs) (front ++ (b ++ rest)) (p.start + p.len))) ≡ bad x y
        more (good d) ha e = good_bad x y _ e
        more (bad u k) ha e =
            let is : c ≡ b = fill_laid f.field f.value (length front) c hz in
            let k = kept f.field f.value front c rest wf hz in
            let found : field f.field (b ++ rest) (length front) ≡ good k.place = rw (← is) k.found in
            let l : length (front ++ c) ≡ length front + length c = length-append front c in
            let a : (front ++ c) ++ rest ≡ front ++ (b ++ rest) = append_assoc front c rest ∙ ap (λ (z : List ℕ). front ++ (z ++ rest)) is in
            let r = less (front ++ c) (rw l (ha ∙ e)) h₅ h₁₀ in
            let s : read (layout fs) (front ++ (b ++ rest)) (length front + length c) ≡ bad x y = rw (a, l) at r in
            rw (behind, found, k.end, s)
