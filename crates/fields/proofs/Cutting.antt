-- What was written, cut at any byte or with bytes behind it, is refused where it is cut or where they start. Assumes nothing.
use mathlib.Core.Path.{◌≡◌, refl, ap, sym, ◌∙◌}
use mathlib.Core.Logic.{⊎_elim}
use mathlib.Core.List.{List, [], ◌∷◌, ◌++◌, append_assoc}
use Prim.Native.Nat.{ℕ, ◌+◌, ◌-◌, ◌^◌, ◌≤◌, ◌<◌}
use native.Mathlib.Omega.{arith}
use native.Mathlib.Nat.{add_assoc, add-zero}
use lib.ListN.{length, take, drop, length-append}
use lib.Seq.{drop_at, take_at, take-take, take-append-le, take-append-add, length-take-le}
use borrow.Author.Tests.{lt-ltb, le-ltb}
use Rattle.octets.specs.declared.number.Width.TheVariants.{One}
use Rattle.octets.specs.Numbers.{width_of, be, unbe}
use Rattle.octets.proofs.Numbers.{be_length, unbe_be}
use Rattle.octets.proofs.Order.{lt_or_ge}
use Rattle.fields.specs.declared.layout.Inner.{Inner}
use Rattle.fields.specs.declared.layout.Field.{Field}
use Rattle.fields.specs.declared.layout.Field.TheVariants.{Uint, Vector, OneOf, Fixed}
use Rattle.fields.specs.Checked.{Checked, good, bad, then}
use Rattle.fields.specs.Layout.{number_at, vector_at, field, read}
use Rattle.fields.specs.Write.{Value, uint, bytes, wrap, fill, laid, join, write}
use Rattle.fields.specs.Claims.{Typed, one_field, layout, start_of, pieces, CutThere, OverThere}
use Rattle.fields.proofs.Answers.{bad_good, same_good}
use Rattle.fields.proofs.Bodies.{value}
use Rattle.fields.proofs.Fills.{filled_vector, filled_one_of, filled_fixed, fill_laid}
use Rattle.fields.proofs.Laid.{read_stops, read_goes}
use Rattle.fields.proofs.Vectors.{kept, cut_first}

-- too few bytes for a number, or for a vector
number_cut : (w : ℕ) (r : List ℕ) (at : ℕ) → length r < w → number_at w r at ≡ bad 2 at
unfolding number_at
number_cut w r at h = rw (lt-ltb _ _ h)

vector_cut : (w least most : ℕ) (i : Inner) (b : List ℕ) (k at : ℕ) → least ≤ length b → length b ≤ most → length b < 256 ^ w → k < w + length b → vector_at w least most i (take k (be w (length b) ++ b)) at ≡ bad 2 at
unfolding vector_at
vector_cut w least most i b k at low high fit h =
    let l : length (take k (be w (length b) ++ b)) ≡ k = length-take-le k (be w (length b) ++ b) (omega (arith, length-append (be w (length b)) b, be_length w (length b))) in
    ⊎_elim (λ short. let s : length (take k (be w (length b) ++ b)) < w = omega arith in rw (lt-ltb _ _ s))
    (λ long.
    let s : w ≤ length (take k (be w (length b) ++ b)) = omega arith in
    let n : unbe (take w (take k (be w (length b) ++ b))) ≡ length b = ap unbe (take-take w k (be w (length b) ++ b) long ∙ take_at (be w (length b)) b w (be_length w (length b))) ∙ unbe_be w (length b) fit in
    let c : length (take k (be w (length b) ++ b)) - w < length b = omega arith in
    rw (le-ltb _ _ s, n, le-ltb (length b) least low, le-ltb most (length b) high, lt-ltb _ _ c))
    (lt_or_ge k w)

-- a field that was filled, cut at any byte
field_cut : (f : Field) (v : Value) (at : ℕ) (b : List ℕ) (k m : ℕ) → Typed f v → fill f v at ≡ good b → k < length b → field f (take k b) m ≡ bad 2 m
field_cut (Uint w) (bytes v) at b k m t e h = absurd t
field_cut (Uint w) (uint n) at b k m t e h =
    let l : length (take k b) ≡ k = length-take-le k b (omega arith) in
    number_cut (width_of w) (take k b) m (omega (arith, ap length (same_good (be (width_of w) n) b e), be_length (width_of w) n))
field_cut (Vector w least most i) (uint n) at b k m t e h = absurd t
field_cut (Vector w least most i) (bytes v) at b k m t e h =
    let f = filled_vector (width_of w) least most i v at b e in
    let o = (value i v f.round).size in
    let low : least ≤ length (wrap i v) = omega (arith, f.low) in
    let high : length (wrap i v) ≤ most = omega (arith, f.high) in
    ap (λ (x : List ℕ). field (Vector w least most i) (take k x) m) f.is
    ∙ vector_cut (width_of w) least most i (wrap i v) k m low high (omega arith) (omega (arith, f.size))
field_cut (OneOf w least most) (bytes v) at b k m t e h = absurd t
field_cut (OneOf w least most) (uint n) at b k m t e h =
    let l : length (take k b) ≡ k = length-take-le k b (omega arith) in
    (cut_first w least most 0 (take k b) m).0 (omega (arith, ap length (filled_one_of (width_of w) least most n at b e).1, be_length (width_of w) n))
field_cut (Fixed n) (uint x) at b k m t e h = absurd t
field_cut (Fixed n) (bytes v) at b k m t e h =
    let l : length (take k b) ≡ k = length-take-le k b (omega arith) in
    let f = filled_fixed n v at b e in
    (cut_first One 0 0 n (take k b) m).1 (omega (arith, f.0, ap length f.1))

pub cut_there : CutThere
unfolding write
cut_there [] gs front b k t e h = absurd (omega (arith, ap length (same_good [] b e)))
cut_there (f ∷ fs) gs front b k (one_field tf ts) e h = go (fill f.field f.value (length front)) refl e (λ g c j. cut_there fs gs g c j ts)
  where
    go : (a : Checked (List ℕ)) → fill f.field f.value (length front) ≡ a → then a (λ c. join c (write fs (length front + length c))) ≡ good b → ((g c : List ℕ) (j : ℕ) → write fs (length g) ≡ good c → j < length c → read (layout fs ++ gs) (g ++ take j c) (length g) ≡ bad 2 (length g + start_of (pieces fs) j)) → read (f.field ∷ (layout fs ++ gs)) (front ++ take k b) (length front) ≡ bad 2 (length front + start_of (pieces (f ∷ fs)) k)
    go (bad x y) ha e less = bad_good x y b e
    go (good c) ha e less = more (write fs (length front + length c)) refl e
      where
        is : c ≡ laid f.field f.value
        is = fill_laid f.field f.value (length front) c ha

        more : (a : Checked (List ℕ)) → write fs (length front + length c) ≡ a → join c a ≡ good b → read (f.field ∷ (layout fs ++ gs)) (front ++ take k b) (length front) ≡ bad 2 (length front + start_of (pieces (f ∷ fs)) k)
        more (bad x y) hb e = bad_good x y b e
        more (good d) hb e = rw (← same_good (c ++ d) b e) (⊎_elim inside behind (lt_or_ge k (length c)))
          where
            inside : k < length c → read (f.field ∷ (layout fs ++ gs)) (front ++ take k (c ++ d)) (length front) ≡ bad 2 (length front + start_of (pieces (f ∷ fs)) k)
            inside l =
                let p : take k (c ++ d) ≡ take k c = take-append-le k c d (omega arith) in
                let q : drop (length front) (front ++ take k c) ≡ take k c = drop_at front (take k c) (length front) refl in
                let s : k < length (laid f.field f.value) = rw is at l in
                rw (p, lt-ltb _ _ s, add-zero (length front)) (read_stops f.field (layout fs ++ gs) (front ++ take k c) (length front) 2 (length front) (rw q (field_cut f.field f.value (length front) c k (length front) tf ha l)))

            behind : length c ≤ k → read (f.field ∷ (layout fs ++ gs)) (front ++ take k (c ++ d)) (length front) ≡ bad 2 (length front + start_of (pieces (f ∷ fs)) k)
            behind l =
                let j = k - length c in
                let z : length c + (k - length c) ≡ k = omega arith in
                let p : take k (c ++ d) ≡ c ++ take j d = ap (λ (i : ℕ). take i (c ++ d)) (sym z) ∙ take-append-add c d j in
                let r = kept f.field f.value front c (take j d) tf ha in
                let q : drop (length front) (front ++ (c ++ take j d)) ≡ c ++ take j d = drop_at front (c ++ take j d) (length front) refl in
                let n : length (front ++ c) ≡ length front + length c = length-append front c in
                let a : (front ++ c) ++ take j d ≡ front ++ (c ++ take j d) = append_assoc front c (take j d) in
                let m : j < length d = omega (arith, h, ap length (same_good (c ++ d) b e), length-append c d) in
                let o = less (front ++ c) d j (rw n hb) m in
                let s : length (laid f.field f.value) ≤ k = rw is at l in
                let u : read (layout fs ++ gs) (front ++ (c ++ take j d)) (r.place.start + r.place.len) ≡ bad 2 (length front + (length (laid f.field f.value) + start_of (pieces fs) (k - length (laid f.field f.value)))) = rw (r.end, ← a, ← n, ← is) (o ∙ ap (bad 2) (ap (λ (i : ℕ). i + start_of (pieces fs) j) n ∙ add_assoc (length front) (length c) (start_of (pieces fs) j))) in
                rw (p, le-ltb _ _ s) (read_goes f.field (layout fs ++ gs) (front ++ (c ++ take j d)) (length front) 2 _ r.place (rw q r.found) u)

pub over_there : OverThere
unfolding write read
over_there [] front b c r t e =
    let l : length front < length (front ++ (c ∷ r)) = omega (arith, length-append front (c ∷ r)) in
    rw (← same_good [] b e, lt-ltb _ _ l, add-zero (length front))
over_there (f ∷ fs) front b c r (one_field tf ts) e = go (fill f.field f.value (length front)) refl e (λ g d. over_there fs g d c r ts)
  where
    go : (a : Checked (List ℕ)) → fill f.field f.value (length front) ≡ a → then a (λ x. join x (write fs (length front + length x))) ≡ good b → ((g d : List ℕ) → write fs (length g) ≡ good d → read (layout fs) (g ++ (d ++ (c ∷ r))) (length g) ≡ bad 3 (length g + length d)) → read (f.field ∷ layout fs) (front ++ (b ++ (c ∷ r))) (length front) ≡ bad 3 (length front + length b)
    go (bad x y) ha e less = bad_good x y b e
    go (good x) ha e less = more (write fs (length front + length x)) refl e
      where
        more : (a : Checked (List ℕ)) → write fs (length front + length x) ≡ a → join x a ≡ good b → read (f.field ∷ layout fs) (front ++ (b ++ (c ∷ r))) (length front) ≡ bad 3 (length front + length b)
        more (bad u v) hb e = bad_good u v b e
        more (good d) hb e =
            let k = kept f.field f.value front x (d ++ (c ∷ r)) tf ha in
            let q : drop (length front) (front ++ (x ++ (d ++ (c ∷ r)))) ≡ x ++ (d ++ (c ∷ r)) = drop_at front (x ++ (d ++ (c ∷ r))) (length front) refl in
            let n : length (front ++ x) ≡ length front + length x = length-append front x in
            let a : (front ++ x) ++ (d ++ (c ∷ r)) ≡ front ++ (x ++ (d ++ (c ∷ r))) = append_assoc front x (d ++ (c ∷ r)) in
            let o = less (front ++ x) d (rw n hb) in
            let w : length front + length b ≡ length (front ++ x) + length d = omega (arith, ap length (same_good (x ++ d) b e), length-append x d) in
            let z : b ++ (c ∷ r) ≡ x ++ (d ++ (c ∷ r)) = ap (λ (l : List ℕ). l ++ (c ∷ r)) (sym (same_good (x ++ d) b e)) ∙ append_assoc x d (c ∷ r) in
            let u : read (layout fs) (front ++ (x ++ (d ++ (c ∷ r)))) (k.place.start + k.place.len) ≡ bad 3 (length (front ++ x) + length d) = rw (k.end, ← a, ← n) o in
            rw (z, w) (read_goes f.field (layout fs) (front ++ (x ++ (d ++ (c ∷ r)))) (length front) 3 _ k.place (rw q k.found) u)
