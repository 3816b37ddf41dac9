-- What the order of extensions changes in an answer: nothing, or it is 15, at a place at which the same reading without the order goes on. Assumes nothing.
use mathlib.Core.Path.{◌≡◌, refl, sym, ◌∙◌}
use mathlib.Core.List.{List, [], ◌∷◌, map}
use mathlib.Core.Bool.{Bool, true, false, cond}
use Prim.Native.Nat.{ℕ, zero, suc, ◌+◌, ◌-◌, ◌≤◌, ◌<◌}
use native.Mathlib.Omega.{arith}
use lib.ListN.{length, get_or, take, drop, length-drop}
use lib.Dec.{ltb, eqb}
use lib.Seq.{length-take-le}
use borrow.Author.Tests.{ltb-false, eqb-false}
use Rattle.octets.specs.Numbers.{width_of, unbe}
use Rattle.fields.specs.declared.layout.Part.{Part}
use Rattle.fields.specs.declared.layout.Inner.{Inner}
use Rattle.fields.specs.declared.layout.Inner.TheVariants.{Opaque, ExtensionList, NodeList}
use Rattle.fields.specs.declared.layout.Field.{Field}
use Rattle.fields.specs.declared.layout.Field.TheVariants.{Uint, Vector, OneOf, Fixed}
use Rattle.fields.specs.Checked.{Checked, good, bad}
use Rattle.fields.specs.Layout.{out_of_order, element, elements, inside_from, inside, past, whole, vector_at, field, next, push, read, sized}
use Rattle.fields.specs.Extensions.{any_order, unordered, GoesOn, StillRead, RefusedByOrder}
use Rattle.octets.specs.Answer.{Answer, refused}
use Rattle.fields.specs.declared.layout.Element.{Element}
use Rattle.fields.proofs.Answers.{bad_good, good_bad, same_place, same_number}
use Rattle.fields.proofs.Elements.{element_size}
use Rattle.fields.proofs.Places.{elements_place}
use Rattle.fields.proofs.Within.{refused_behind}
use Rattle.fields.proofs.Founds.{number_refused, one_of_refused, fixed_refused}

-- one element: the two agree and it is no 15, or it is 15 where without the order it is passed
data Steps (now older : Answer Element) : Type 0 where
  passed : (n t : ℕ) → now ≡ sized n t → older ≡ sized n t → Steps now older
  stopped : (x : ℕ) → (x ≡ 15 → ⊥) → now ≡ refused x → older ≡ refused x → Steps now older
  ordered : (n t : ℕ) → now ≡ refused 15 → older ≡ sized n t → Steps now older

element_steps : (i : Inner) (last : ℕ) (r : List ℕ) → Steps (element i last r) (element (any_order i) last r)
unfolding element
element_steps Opaque last r = passed (length r) 0 refl refl
element_steps (ExtensionList o) last r = go (ltb (length r) 4) (ltb (length r - 4) (unbe (take 2 (drop 2 r)))) (out_of_order o last (unbe (take 2 r)))
  where
    go : (a b c : Bool) → Steps (cond a (refused 2) (cond b (refused 2) (cond c (refused 15) (sized (4 + unbe (take 2 (drop 2 r))) (unbe (take 2 r) + 1))))) (cond a (refused 2) (cond b (refused 2) (sized (4 + unbe (take 2 (drop 2 r))) (unbe (take 2 r) + 1))))
    go true b c = stopped 2 (λ z. omega arith) refl refl
    go false true c = stopped 2 (λ z. omega arith) refl refl
    go false false true = ordered _ _ refl refl
    go false false false = passed _ _ refl refl
element_steps NodeList last r = go (eqb (get_or r 0 0) 32) (ltb (length r) 33)
  where
    go : (a b : Bool) → Steps (cond a (cond b (refused 2) (sized 33 0)) (refused 5)) (cond a (cond b (refused 2) (sized 33 0)) (refused 5))
    go false b = stopped 5 (λ z. omega arith) refl refl
    go true true = stopped 2 (λ z. omega arith) refl refl
    go true false = passed 33 0 refl refl

-- what stands behind a place
abbrev BehindInside : ℕ → Checked Unit → Type 0
BehindInside p (good u) = Unit
BehindInside p (bad x q) = p < q

-- a body that ends at a place
data Bodies (end : ℕ) (now older : Checked Unit) : Type 0 where
  fine : now ≡ good tt → older ≡ good tt → Bodies end now older
  wrong : (x p : ℕ) → (x ≡ 15 → ⊥) → now ≡ bad x p → older ≡ bad x p → Bodies end now older
  ordered : (p : ℕ) → p < end → now ≡ bad 15 p → BehindInside p older → Bodies end now older

behind_inside : (a : Checked Unit) (p : ℕ) → ((x q : ℕ) → a ≡ bad x q → p < q) → BehindInside p a
behind_inside (good u) p h = tt
behind_inside (bad x q) p h = h x q refl

elements_bodies : (n : ℕ) (i : Inner) (last : ℕ) (r : List ℕ) (at : ℕ) → Bodies (at + length r) (elements n i last r at) (elements n (any_order i) last r at)
unfolding elements
elements_bodies zero i last r at = fine refl refl
elements_bodies (suc n) i last r at = go (eqb (length r) 0) refl (element_steps i last r) (λ m t. elements_bodies n i t (drop m r) (at + m))
  where
    longer : (m e : ℕ) (a b : Checked Unit) → m ≤ e → Bodies m a b → Bodies e a b
    longer m e a b h (fine x y) = fine x y
    longer m e a b h (wrong x p z u v) = wrong x p z u v
    longer m e a b h (ordered p l u v) = ordered p (omega arith) u v

    go : (b : Bool) → eqb (length r) 0 ≡ b → Steps (element i last r) (element (any_order i) last r) → ((m t : ℕ) → Bodies (at + m + length (drop m r)) (elements n i t (drop m r) (at + m)) (elements n (any_order i) t (drop m r) (at + m))) → Bodies (at + length r) (cond b (good tt) (past (element i last r) at (λ m t. elements n i t (drop m r) (at + m)))) (cond b (good tt) (past (element (any_order i) last r) at (λ m t. elements n (any_order i) t (drop m r) (at + m))))
    go true hb s less = fine refl refl
    go false hb (passed m t e o) less =
        let some : 0 < length r = omega (arith, eqb-false (length r) 0 hb) in
        let z = element_size i last r m t some e in
        rw (e, o) (longer (at + m + length (drop m r)) (at + length r) _ _ (omega (arith, length-drop m r, z.1)) (less m t))
    go false hb (stopped x h e o) less = rw (e, o) (wrong x at h refl refl)
    go false hb (ordered m t e o) less =
        let some : 0 < length r = omega (arith, eqb-false (length r) 0 hb) in
        let z = element_size (any_order i) last r m t some o in
        rw (e, o) (ordered at (omega arith) refl (behind_inside (elements n (any_order i) t (drop m r) (at + m)) at (λ x q w. omega (arith, z.0, (elements_place n (any_order i) t (drop m r) (at + m) x q w).0))))

-- an inner list that asks for no order never gives 15
pub fifteen_asked : (i : Inner) (r : List ℕ) (at y : ℕ) → any_order i ≡ i → inside i r at ≡ bad 15 y → ⊥
unfolding inside inside_from
fifteen_asked i r at y h e = go (elements_bodies (length r) i 0 r at)
  where
    older : elements (length r) (any_order i) 0 r at ≡ bad 15 y
    older = rw h e

    go : Bodies (at + length r) (elements (length r) i 0 r at) (elements (length r) (any_order i) 0 r at) → ⊥
    go (fine n o) = let z : ◌≡◌ {A = ℕ} 0 1 = bad_good 15 y tt (sym e ∙ n) in omega arith
    go (wrong x p g n o) = g (sym (same_number x 15 p y (sym n ∙ e)))
    go (ordered p l n o) =
        let q = same_place 15 15 p y (sym n ∙ e) in
        let b : BehindInside p (bad 15 y) = rw older at o in
        omega (arith, b)

-- one field
abbrev pub BehindField : ℕ → Checked Part → Type 0
BehindField p (good q) = p < q.start + q.len
BehindField p (bad x q) = p < q

pub data Fields (now older : Checked Part) : Type 0 where
  found : (p : Part) → now ≡ good p → older ≡ good p → Fields now older
  stopped : (x p : ℕ) → (x ≡ 15 → ⊥) → now ≡ bad x p → older ≡ bad x p → Fields now older
  ordered : (p : ℕ) → now ≡ bad 15 p → BehindField p older → Fields now older

vector_fields : (w least most : ℕ) (i : Inner) (r : List ℕ) (at : ℕ) → Fields (vector_at w least most i r at) (vector_at w least most (any_order i) r at)
unfolding vector_at inside inside_from
vector_fields w least most i r at =
    go (ltb (length r) w) (ltb n least) (ltb most n) (ltb (length r - w) n) refl refl (elements_bodies (length b) i 0 b (at + w))
  where
    n : ℕ
    n = unbe (take w r)

    b : List ℕ
    b = take n (drop w r)

    p : Part
    p = record { start = at + w; len = n; value = n }

    body : length b ≤ n → (x y : Checked Unit) → Bodies (at + w + length b) x y → Fields (whole x p) (whole y p)
    body l x y (fine e o) = rw (e, o) (found p refl refl)
    body l x y (wrong u q h e o) = rw (e, o) (stopped u q h refl refl)
    body l x (good u) (ordered q h e o) = rw e (ordered q refl (omega arith))
    body l x (bad u z) (ordered q h e o) = rw e (ordered q refl o)

    go : (a c d f : Bool) → ltb (length r) w ≡ a → ltb (length r - w) n ≡ f → Bodies (at + w + length b) (elements (length b) i 0 b (at + w)) (elements (length b) (any_order i) 0 b (at + w)) → Fields (cond a (bad 2 at) (cond c (bad 5 at) (cond d (bad 5 at) (cond f (bad 2 at) (whole (elements (length b) i 0 b (at + w)) p))))) (cond a (bad 2 at) (cond c (bad 5 at) (cond d (bad 5 at) (cond f (bad 2 at) (whole (elements (length b) (any_order i) 0 b (at + w)) p)))))
    go true c d f ha hf h = stopped 2 at (λ z. omega arith) refl refl
    go false true d f ha hf h = stopped 5 at (λ z. omega arith) refl refl
    go false false true f ha hf h = stopped 5 at (λ z. omega arith) refl refl
    go false false false true ha hf h = stopped 2 at (λ z. omega arith) refl refl
    go false false false false ha hf h =
        let l : length b ≡ n = length-take-le n (drop w r) (rw (length-drop w r) (ltb-false _ _ hf)) in
        body (omega arith) _ _ h

-- a field that has no order
no_order : (a : Checked Part) → ((x y : ℕ) → a ≡ bad x y → x < 5) → Fields a a
no_order (good p) h = found p refl refl
no_order (bad x y) h = stopped x y (λ z. omega (arith, h x y refl)) refl refl

pub field_fields : (f : Field) (r : List ℕ) (at : ℕ) → Fields (field f r at) (field (unordered f) r at)
field_fields (Uint w) r at = no_order _ (λ x y e. omega (arith, (number_refused (width_of w) r at x y e).0))
field_fields (OneOf w least most) r at = no_order _ (λ x y e. (one_of_refused (width_of w) least most r at x y e).1)
field_fields (Fixed n) r at = no_order _ (λ x y e. omega (arith, (fixed_refused n r at x y e).0))
field_fields (Vector w least most i) r at = vector_fields (width_of w) least most i r at

-- a whole layout
data Layouts (now older : Checked (List Part)) : Type 0 where
  alike : (ps : List Part) → now ≡ good ps → older ≡ good ps → Layouts now older
  stopped : (x y : ℕ) → (x ≡ 15 → ⊥) → now ≡ bad x y → older ≡ bad x y → Layouts now older
  ordered : (y : ℕ) → now ≡ bad 15 y → GoesOn y older → Layouts now older

read_layouts : (fs : List Field) (s : List ℕ) (at : ℕ) → Layouts (read fs s at) (read (map unordered fs) s at)
unfolding read
read_layouts [] s at = go (ltb at (length s))
  where
    go : (b : Bool) → Layouts (cond b (bad 3 at) (good [])) (cond b (bad 3 at) (good []))
    go true = stopped 3 at (λ z. omega arith) refl refl
    go false = alike [] refl refl
read_layouts (f ∷ fs) s at = go (field f (drop at s) at) (field (unordered f) (drop at s) at) (field_fields f (drop at s) at) (λ p. read_layouts fs s (p.start + p.len))
  where
    gs : List Field
    gs = map unordered fs

    on : (p : Part) (a b : Checked (List Part)) → Layouts a b → Layouts (push p a) (push p b)
    on p a b (alike ps e o) = rw (e, o) (alike (p ∷ ps) refl refl)
    on p a b (stopped x y h e o) = rw (e, o) (stopped x y h refl refl)
    on p a (good qs) (ordered y e o) = rw e (ordered y refl tt)
    on p a (bad x z) (ordered y e o) = rw e (ordered y refl o)

    behind : (p : Part) (y : ℕ) → y < p.start + p.len → (a : Checked (List Part)) → read gs s (p.start + p.len) ≡ a → GoesOn y (push p a)
    behind p y h (good qs) e = tt
    behind p y h (bad x z) e = omega (arith, refused_behind gs s (p.start + p.len) x z e)

    go : (a b : Checked Part) → Fields a b → ((p : Part) → Layouts (read fs s (p.start + p.len)) (read gs s (p.start + p.len))) → Layouts (next a (λ p. push p (read fs s (p.start + p.len)))) (next b (λ p. push p (read gs s (p.start + p.len))))
    go a b (found p e o) less = rw (e, o) (on p _ _ (less p))
    go a b (stopped x y h e o) less = rw (e, o) (stopped x y h refl refl)
    go a (good p) (ordered y e o) less = rw e (ordered y refl (behind p y o (read gs s (p.start + p.len)) refl))
    go a (bad x z) (ordered y e o) less = rw e (ordered y refl o)

pub still_read : StillRead
still_read fs s at ps e = go (read_layouts fs s at)
  where
    go : Layouts (read fs s at) (read (map unordered fs) s at) → read (map unordered fs) s at ≡ good ps
    go (alike qs n o) = o ∙ sym n ∙ e
    go (stopped x y h n o) = bad_good x y ps (sym n ∙ e)
    go (ordered y n o) = bad_good 15 y ps (sym n ∙ e)

pub refused_by_order : RefusedByOrder
refused_by_order fs s at x y e = go (read_layouts fs s at)
  where
    go : Layouts (read fs s at) (read (map unordered fs) s at) → (x ≡ 15 → GoesOn y (read (map unordered fs) s at)) × ((x ≡ 15 → ⊥) → read (map unordered fs) s at ≡ bad x y)
    go (alike qs n o) = good_bad x y qs (sym n ∙ e)
    go (stopped u v h n o) =
        let q = same_number u x v y (sym n ∙ e) in
        ((λ z. absurd (h (sym q ∙ z))), λ z. o ∙ sym n ∙ e)
    go (ordered v n o) =
        let q = same_number 15 x v y (sym n ∙ e) in
        let p = same_place 15 x v y (sym n ∙ e) in
        ((λ z. rw p o), λ z. absurd (z q))
