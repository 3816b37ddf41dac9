-- Vectors of any width, range and body, and numbers of any width: what is found is filled again, and what is filled is found. Assumes nothing.
use mathlib.Core.Path.{◌≡◌, refl, ap, sym, subst, ◌∙◌}
use mathlib.Core.List.{List, ◌++◌, append_assoc, [], ◌∷◌}
use mathlib.Core.Bool.{Bool, true, false, cond, ◌&&◌}
use Prim.Native.Nat.{ℕ, zero, suc, ◌+◌, ◌-◌, ◌^◌, ◌≤◌, ◌<◌}
use native.Mathlib.Omega.{arith}
use lib.Dec.{ltb, leb}
use lib.ListN.{get_or, length, take, drop, length-append, length-drop}
use lib.Seq.{take_at, drop_at, length-take-le, drop-drop, take-add, drop-append-add}
use borrow.Author.Tests.{lt-ltb, le-ltb, le-leb, leb-true, eq-eqb, ne_eqb}
use Rattle.fields.specs.declared.layout.Part.{Part}
use Rattle.fields.specs.declared.layout.Inner.{Inner}
use Rattle.fields.specs.declared.layout.Field.TheVariants.{Uint, Vector, OneOf, Fixed}
use Rattle.fields.specs.Checked.{good, bad}
use Rattle.octets.specs.Bytes.{Bytes, no_bytes, one_byte}
use Rattle.fields.specs.Layout.{bytes_at, inside, whole, number_at, vector_at, allowed, one_of_at, fixed_at}
use Rattle.octets.specs.declared.number.Width.{Width}
use Rattle.octets.specs.Numbers.{width_of, unbe, be}
use Rattle.fields.specs.Inner.{part}
use Rattle.fields.specs.Write.{wrap, unwrap, body_size, wholes, vector_filled, one_of_filled, fixed_filled, opened, uint, bytes}
use Rattle.fields.specs.Claims.{ReadThenFilled, FilledThenRead, VectorByElements, OneOfJudged, FixedAsIs, CutFirst, Kept}
use Rattle.octets.proofs.Numbers.{be_length, unbe_be, be_unbe}
use Rattle.fields.proofs.Founds.{found_number, found_vector, found_one_of, found_fixed}
use Rattle.fields.proofs.Answers.{same_good}
use Rattle.fields.proofs.Fills.{filled_vector, filled_one_of, filled_fixed}
use Rattle.fields.proofs.Bodies.{body, value}

-- a list of which every element is a byte
pub all_bytes : (s : List ℕ) → ((i : ℕ) → get_or s i 0 < 256) → Bytes s
all_bytes [] h = no_bytes
all_bytes (x ∷ s) h = one_byte (h 0) (all_bytes s (λ i. h (suc i)))

pub bytes_take : (n : ℕ) {s : List ℕ} → Bytes s → Bytes (take n s)
bytes_take zero b = no_bytes
bytes_take (suc n) no_bytes = no_bytes
bytes_take (suc n) (one_byte h b) = one_byte h (bytes_take n b)

pub bytes_drop : (n : ℕ) {s : List ℕ} → Bytes s → Bytes (drop n s)
bytes_drop zero b = b
bytes_drop (suc n) no_bytes = no_bytes
bytes_drop (suc n) (one_byte h b) = bytes_drop n b

-- a vector that was found, filled with its value, is the same bytes
pub vector_again : (w least most : ℕ) (i : Inner) (s : List ℕ) (at : ℕ) (p : Part) → Bytes s → vector_at w least most i (drop at s) at ≡ good p → vector_filled w least most i (unwrap i (bytes_at s p)) at ≡ good (part s at (p.start + p.len))
unfolding vector_filled
vector_again w least most i s at p bs e =
    let h = found_vector w least most i (drop at s) at p e in
    rw h.is (again h.prefix h.low h.high h.room h.fine)
  where
    n : ℕ
    n = unbe (take w (drop at s))

    again : w ≤ length (drop at s) → least ≤ n → n ≤ most → n ≤ length (drop at s) - w → inside i (take n (drop w (drop at s))) (at + w) ≡ good tt → vector_filled w least most i (unwrap i (take n (drop (at + w) s))) at ≡ good (part s at (at + w + n))
    again pre low high room fin =
        let d : drop w (drop at s) ≡ drop (at + w) s = drop-drop w at s in
        let b : inside i (take n (drop (at + w) s)) (at + w) ≡ good tt = rw d at fin in
        let o = body i (take n (drop (at + w) s)) (at + w) b in
        let l : length (take n (drop (at + w) s)) ≡ n = length-take-le n (drop (at + w) s) (rw (← d, length-drop w (drop at s)) room) in
        let m : body_size i (length (unwrap i (take n (drop (at + w) s)))) ≡ n = o.size ∙ l in
        let x : length (take w (drop at s)) ≡ w = length-take-le w (drop at s) pre in
        let y : be w n ≡ take w (drop at s) = ap (λ (k : ℕ). be k n) (sym x) ∙ be_unbe (bytes_take w (bytes_drop at bs)) in
        let z : w + n ≡ at + w + n - at = omega arith in
        let t : take w (drop at s) ++ take n (drop (at + w) s) ≡ part s at (at + w + n) = rw (← z, take-add w n (drop at s), d) in
        rw (m, le-ltb _ _ low, le-ltb _ _ high, o.round, o.again, b, l, y) (ap good t)

-- a number that was found, written again, is the same bytes
number_again : (w : ℕ) (s : List ℕ) (at : ℕ) (p : Part) → Bytes s → number_at w (drop at s) at ≡ good p → (be w p.value ≡ part s at (p.start + p.len)) × (at ≤ p.start + p.len)
number_again w s at p bs e =
    let h = found_number w (drop at s) at p e in
    let l : length (take w (drop at s)) ≡ w = length-take-le w (drop at s) h.1 in
    let y : be w (unbe (take w (drop at s))) ≡ take w (drop at s) = ap (λ (k : ℕ). be k (unbe (take w (drop at s)))) (sym l) ∙ be_unbe (bytes_take w (bytes_drop at bs)) in
    let z : at + w - at ≡ w = omega arith in
    rw h.0 (rw (y, z), omega arith)

-- a field that was found, filled with what was found there, is the same bytes
pub fill_again : ReadThenFilled
unfolding opened one_of_filled fixed_filled
fill_again (Uint w) s at p bs e = let h = number_again (width_of w) s at p bs e in (ap good h.0, h.1)
fill_again (Vector w least most i) s at p bs e =
    let h = found_vector (width_of w) least most i (drop at s) at p e in
    (vector_again (width_of w) least most i s at p bs e, rw h.is (omega arith))
fill_again (OneOf w least most) s at p bs e =
    let h = found_one_of (width_of w) least most (drop at s) at p e in
    let k = number_again (width_of w) s at p bs h.0 in
    (rw h.1 (ap good k.0), k.1)
fill_again (Fixed n) s at p bs e =
    let h = found_fixed n (drop at s) at p e in
    let l : length (take n (drop at s)) ≡ n = length-take-le n (drop at s) h.1 in
    let z : at + n - at ≡ n = omega arith in
    rw h.0 (rw (eq-eqb _ _ l, z), omega arith)

-- a vector that is there: its body, its length's range, then its elements
module _ (w : ℕ) (b rest : List ℕ) (fit : length b < 256 ^ w) where
  abbrev pub bytes_of : List ℕ
  bytes_of = (be w (length b) ++ b) ++ rest

  laid_out : bytes_of ≡ be w (length b) ++ (b ++ rest)
  laid_out = append_assoc (be w (length b)) b rest

  pub length_there : unbe (take w bytes_of) ≡ length b
  length_there = ap (λ (x : List ℕ). unbe (take w x)) laid_out ∙ ap unbe (take_at (be w (length b)) (b ++ rest) w (be_length w (length b))) ∙ unbe_be w (length b) fit

  pub body_there : take (length b) (drop w bytes_of) ≡ b
  body_there = ap (λ (x : List ℕ). take (length b) (drop w x)) laid_out ∙ ap (take (length b)) (drop_at (be w (length b)) (b ++ rest) w (be_length w (length b))) ∙ take_at b rest (length b) refl

  pub vector_there : (least most : ℕ) (i : Inner) (at : ℕ) → vector_at w least most i bytes_of at ≡ cond (ltb (length b) least) (bad 5 at) (cond (ltb most (length b)) (bad 5 at) (whole (inside i b (at + w)) (record { start = at + w; len = length b; value = length b })))
  unfolding vector_at
  vector_there least most i at =
      let l : length bytes_of ≡ w + length b + length rest = length-append (be w (length b) ++ b) rest ∙ omega (arith, length-append (be w (length b)) b, be_length w (length b)) in
      let h : w ≤ length bytes_of = omega arith in
      let g : length b ≤ length bytes_of - w = omega arith in
      rw (length_there, le-ltb _ _ h, le-ltb _ _ g, body_there)

pub vector_by_elements : VectorByElements
vector_by_elements w least most i b rest at low high fit = vector_there (width_of w) b rest fit least most i at ∙ rw (le-ltb (length b) least low, le-ltb most (length b) high)

-- a number that is there
pub number_there : (w n : ℕ) (rest : List ℕ) (at : ℕ) → n < 256 ^ w → number_at w (be w n ++ rest) at ≡ good (record { start = at; len = w; value = n })
unfolding number_at
number_there w n rest at h =
    let l : length (be w n) ≡ w = be_length w n in
    let room : w ≤ length (be w n ++ rest) = omega (arith, length-append (be w n) rest) in
    let u : unbe (take w (be w n ++ rest)) ≡ n = ap unbe (take_at (be w n) rest w l) ∙ unbe_be w n h in
    rw (le-ltb _ _ room, u)

-- a number that was written is found, one of few too, and so is a vector that was filled, and bytes of fixed length
kept_number : (w : Width) (n : ℕ) (front rest : List ℕ) → n < 256 ^ width_of w → Kept (Uint w) (uint n) front (be (width_of w) n) rest
unfolding opened
kept_number x n front rest h =
    let w = width_of x in
    let l : length (be w n) ≡ w = be_length w n in
    record {
      place = record { start = length front; len = w; value = n };
      found = number_there w n rest (length front) h;
      end = omega arith;
      same = refl;
    }

-- one of few that is there: it is judged
pub one_of_there : (w least most n : ℕ) (rest : List ℕ) (at : ℕ) → n < 256 ^ w → one_of_at w least most (be w n ++ rest) at ≡ cond (allowed least most n) (good (record { start = at; len = w; value = n })) (bad 4 at)
unfolding one_of_at
one_of_there w least most n rest at h = rw (number_there w n rest at h)

kept_one_of : (w : Width) (least most n : ℕ) (front rest : List ℕ) → n < 256 ^ width_of w → allowed least most n ≡ true → Kept (OneOf w least most) (uint n) front (be (width_of w) n) rest
unfolding opened
kept_one_of x least most n front rest h a =
    let w = width_of x in
    let l : length (be w n) ≡ w = be_length w n in
    record {
      place = record { start = length front; len = w; value = n };
      found = one_of_there w least most n rest (length front) h ∙ rw a;
      end = omega arith;
      same = refl;
    }

-- bytes of fixed length that are there
pub fixed_there : (b rest : List ℕ) (at : ℕ) → fixed_at (length b) (b ++ rest) at ≡ good (record { start = at; len = length b; value = length b })
unfolding fixed_at
fixed_there b rest at =
    let room : length b ≤ length (b ++ rest) = omega (arith, length-append b rest) in
    rw (le-ltb _ _ room)

kept_fixed : (v front rest : List ℕ) → Kept (Fixed (length v)) (bytes v) front v rest
unfolding opened
kept_fixed v front rest =
    record {
      place = record { start = length front; len = length v; value = length v };
      found = fixed_there v rest (length front);
      end = omega arith;
      same = ap (λ (x : List ℕ). bytes (take (length v) x)) (drop_at front (v ++ rest) (length front) refl) ∙ ap bytes (take_at v rest (length v) refl);
    }

module _ (width : Width) (least most : ℕ) (i : Inner) (v front rest : List ℕ) where
  abbrev w : ℕ
  w = width_of width

  kept_vector : most < 256 ^ w → least ≤ body_size i (length v) → body_size i (length v) ≤ most → wholes i (length v) ≡ true → inside i (wrap i v) (length front + w) ≡ good tt → Kept (Vector width least most i) (bytes v) front (be w (length (wrap i v)) ++ wrap i v) rest
  unfolding opened
  kept_vector fit low high round fin =
      let b = wrap i v in
      let m = length (wrap i v) in
      let r = (be w (length (wrap i v)) ++ wrap i v) ++ rest in
      let o = value i v round in
      let f : m < 256 ^ w = omega (arith, o.size) in
      let c = body_there w b rest f in
      record {
        place = record { start = length front + w; len = m; value = m };
        found = vector_by_elements width least most i b rest (length front) (omega (arith, o.size)) (omega (arith, o.size)) f ∙ rw fin;
        end = omega (arith, length-append (be w m) b, be_length w m);
        same = ap (λ (x : List ℕ). bytes (unwrap i (take m x))) (drop-append-add front r w) ∙ ap (λ (x : List ℕ). bytes (unwrap i x)) c ∙ ap bytes o.again;
      }

pub kept : FilledThenRead
kept (Uint w) (bytes v) front b rest typed e = absurd typed
kept (Uint w) (uint n) front b rest typed e =
    subst (λ (x : List ℕ). Kept (Uint w) (uint n) front x rest) (same_good (be (width_of w) n) b e) (kept_number w n front rest typed)
kept (Vector w least most i) (uint n) front b rest typed e = absurd typed
kept (Vector w least most i) (bytes v) front b rest typed e =
    let h = filled_vector (width_of w) least most i v (length front) b e in
    subst (λ (x : List ℕ). Kept (Vector w least most i) (bytes v) front x rest) (sym h.is)
    (kept_vector w least most i v front rest typed h.low h.high h.round h.fine)
kept (OneOf w least most) (bytes v) front b rest typed e = absurd typed
kept (OneOf w least most) (uint n) front b rest typed e =
    let h = filled_one_of (width_of w) least most n (length front) b e in
    subst (λ (x : List ℕ). Kept (OneOf w least most) (uint n) front x rest) (sym h.1) (kept_one_of w least most n front rest typed h.0)
kept (Fixed n) (uint m) front b rest typed e = absurd typed
kept (Fixed n) (bytes v) front b rest typed e =
    let h = filled_fixed n v (length front) b e in
    subst (λ (x : List ℕ). Kept (Fixed n) (bytes v) front x rest) (sym h.1) (subst (λ (k : ℕ). Kept (Fixed k) (bytes v) front v rest) h.0 (kept_fixed v front rest))

-- one of few: judged where it stands
allowed_is : (least most n : ℕ) → least ≤ n → n ≤ most → allowed least most n ≡ true
allowed_is least most n low high = rw (le-leb least n low, le-leb n most high)

allowed_not : (least most n : ℕ) → (least ≤ n → n ≤ most → ⊥) → allowed least most n ≡ false
allowed_not least most n h = go (leb least n) (leb n most) refl refl
  where
    go : (a b : Bool) → leb least n ≡ a → leb n most ≡ b → (a && b) ≡ false
    go true true ha hb = absurd (h (leb-true least n ha) (leb-true n most hb))
    go true false ha hb = refl
    go false b ha hb = refl

pub one_of_judged : OneOfJudged
unfolding one_of_filled
one_of_judged w least most n rest at = (
  (λ low high. let a = allowed_is least most n low high in (rw a, λ fit. one_of_there (width_of w) least most n rest at fit ∙ rw a)),
  λ h. let a = allowed_not least most n h in (rw a, λ fit. one_of_there (width_of w) least most n rest at fit ∙ rw a),
)

pub fixed_as_is : FixedAsIs
unfolding fixed_filled
fixed_as_is n b rest at = (
  (λ e. (subst (λ (k : ℕ). fixed_at k (b ++ rest) at ≡ good (record { start = at; len = k; value = k })) e (fixed_there b rest at), rw (eq-eqb _ _ e))),
  λ h. rw (ne_eqb _ _ h),
)

pub cut_first : CutFirst
unfolding one_of_at number_at fixed_at
cut_first w least most n r at = ((λ h. rw (lt-ltb _ _ h)), λ h. rw (lt-ltb _ _ h))
