-- A layout read field by field, its parts kept in an array. Assumes nothing.
use mathlib.Core.Path.{◌≡◌, refl, ap, ap₂, sym, ◌∙◌}
use mathlib.Core.List.{List, [], ◌∷◌, ◌++◌, append_assoc, append-nil}
use Prim.Native.Nat.{ℕ, zero, suc, ◌+◌, ◌≤◌, ◌<◌}
use native.Mathlib.Omega.{arith}
use native.Mathlib.Numerals.{add-one}
use lib.ListN.{length, get_or, take, drop, set, length-set, take-append-drop}
use lib.Seq.{take_all, drop-cons, take-suc-set, drop-set-lt, drop-length, length-take-le, drop-drop}
use borrow.Author.Tests.{lt-ltb, le-ltb}
use Rattle.fields.specs.declared.layout.Part.{Part}
use Rattle.fields.specs.declared.layout.Field.{Field}
use Rattle.fields.specs.declared.layout.Field.TheVariants.{Uint}
use Rattle.octets.specs.declared.number.Width.TheVariants.{One}
use Rattle.fields.specs.Checked.{Checked, good, bad}
use Rattle.fields.specs.Layout.{field, next, push, read, found_then, parts_found}
use Rattle.fields.specs.Answers.{no_part, no_parts, with_zeros, layout_read}

-- the first n elements of an array, by their places
abbrev from : ℕ → ℕ → List Part → List Part
from i zero l = []
from i (suc n) l = get_or l i no_part ∷ from (suc i) n l

abbrev pub firsts : ℕ → List Part → List Part
firsts n l = from 0 n l

take_from : (n i : ℕ) (l : List Part) → i + n ≤ length l → take n (drop i l) ≡ from i n l
take_from zero i l h = refl
take_from (suc n) i l h = rw (drop-cons l i no_part (omega arith)) (ap (λ (k : List Part). get_or l i no_part ∷ k) (take_from n (suc i) l (omega arith)))

pub take_firsts : (n : ℕ) (l : List Part) → n ≤ length l → take n l ≡ firsts n l
take_firsts n l h = take_from n 0 l (omega arith)

-- as many parts as there are, by their places
pub all_firsts : (n : ℕ) (ps : List Part) → length ps ≡ n → firsts n ps ≡ ps
all_firsts n ps l = sym (take_firsts n ps (omega arith)) ∙ take_all n ps (omega arith)

-- what is read, after parts that were read before
abbrev pub resume : List Part → Checked (List Part) → Checked (List Part)
resume ps (good qs) = good (ps ++ qs)
resume ps (bad x at) = bad x at

resume_push : (ps : List Part) (p : Part) (a : Checked (List Part)) → resume ps (push p a) ≡ resume (ps ++ (p ∷ [])) a
resume_push ps p (good qs) = ap good (sym (append_assoc ps (p ∷ []) qs))
resume_push ps p (bad x at) = refl

resume_none : (a : Checked (List Part)) → resume [] a ≡ a
resume_none (good qs) = refl
resume_none (bad x at) = refl

pub start : (fs : List Field) (s : List ℕ) (at : ℕ) → read fs s at ≡ resume [] (read (drop 0 fs) s at)
start fs s at = sym (resume_none (read fs s at))

module _ (fs : List Field) (s : List ℕ) (parts : List Part) (at i : ℕ) where
  module _ (more : i < length fs) (f : Field) (is : f ≡ get_or fs i (Uint One)) where
    this : read (drop i fs) s at ≡ next (field f (drop at s) at) (λ p. push p (read (drop (i + 1) fs) s (p.start + p.len)))
    unfolding read
    this =
        ap (λ (l : List Field). read l s at)
        (drop-cons fs i (Uint One) more ∙ ap₂ (λ (g : Field) (k : ℕ). g ∷ drop k fs) (sym is) (sym (add-one i)))

    pub stops : (x y : ℕ) → field f (drop at s) at ≡ bad x y → resume (take i parts) (read (drop i fs) s at) ≡ bad x y
    stops x y e = rw (this, e)

    pub goes : (p : Part) → i < length parts → field f (drop at s) at ≡ good p → resume (take i parts) (read (drop i fs) s at) ≡ resume (take (i + 1) (set parts i p)) (read (drop (i + 1) fs) s (p.start + p.len))
    goes p h e =
        let z : read (drop i fs) s at ≡ push p (read (drop (i + 1) fs) s (p.start + p.len)) = rw (this, e) in
        rw (z, add-one, take-suc-set parts i p h) (resume_push (take i parts) p (read (drop (suc i) fs) s (p.start + p.len)))

  module _ (end : i ≡ length fs) where
    none_left : drop i fs ≡ []
    none_left = rw end (drop-length fs)

    pub extra : at < length s → resume (take i parts) (read (drop i fs) s at) ≡ bad 3 at
    unfolding read
    extra h = rw (none_left, lt-ltb _ _ h)

    pub all : length s ≤ at → resume (take i parts) (read (drop i fs) s at) ≡ good (take i parts)
    unfolding read
    all h = rw (none_left, le-ltb _ _ h, append-nil)

-- a layout of which the first i fields were found, their parts kept in an array that was zeros
pub record Held (fs : List Field) (s : List ℕ) (from : ℕ) (parts : List Part) (at i : ℕ) : Type 0 where
  pub size : length parts ≡ 8
  pub rest : drop i parts ≡ drop i no_parts
  pub reads : read fs s from ≡ resume (take i parts) (read (drop i fs) s at)
  pub finds : parts_found fs s from ≡ take i parts ++ parts_found (drop i fs) s at

pub held_first : (fs : List Field) (s : List ℕ) (from : ℕ) → Held fs s from no_parts from 0
held_first fs s from = record { size = refl; rest = refl; reads = start fs s from; finds = refl }

module _ (fs : List Field) (s : List ℕ) (from : ℕ) (parts : List Part) (at i : ℕ) (few : i ≤ 8) (h : Held fs s from parts at i) where
  kept : length (take i parts) ≡ i
  kept = length-take-le i parts (omega (arith, h.size))

  padded_is : parts ≡ with_zeros (take i parts)
  padded_is = sym (take-append-drop i parts) ∙ ap (λ (b : List Part). take i parts ++ b) (h.rest ∙ ap (λ (k : ℕ). drop k no_parts) (sym kept))

  refused_is : (x y : ℕ) → parts_found (drop i fs) s at ≡ [] → read fs s from ≡ bad x y → record { number = x; place = y; met = i; parts = parts } ≡ layout_read (parts_found fs s from) (read fs s from)
  refused_is x y e r =
      let f : parts_found fs s from ≡ take i parts = h.finds ∙ ap (λ (l : List Part). take i parts ++ l) e ∙ append-nil (take i parts) in
      rw (f, r) (ap₂ (λ (k : ℕ) (l : List Part). record { number = x; place = y; met = k; parts = l }) (sym kept) padded_is)

  read_is : (n : ℕ) → i ≡ n → parts_found (drop i fs) s at ≡ [] → (ps : List Part) → read fs s from ≡ good ps → record { number = 0; place = 0; met = n; parts = parts } ≡ layout_read (parts_found fs s from) (read fs s from)
  read_is n all e ps r =
      let f : parts_found fs s from ≡ take i parts = h.finds ∙ ap (λ (l : List Part). take i parts ++ l) e ∙ append-nil (take i parts) in
      rw (f, r) (ap₂ (λ (k : ℕ) (l : List Part). record { number = 0; place = 0; met = k; parts = l }) (sym (kept ∙ all)) padded_is)

  module _ (more : i < length fs) (f : Field) (is : f ≡ get_or fs i (Uint One)) where
    finds_this : parts_found (drop i fs) s at ≡ found_then (field f (drop at s) at) (λ p. parts_found (drop (i + 1) fs) s (p.start + p.len))
    unfolding parts_found
    finds_this =
        ap (λ (l : List Field). parts_found l s at)
        (drop-cons fs i (Uint One) more ∙ ap₂ (λ (g : Field) (k : ℕ). g ∷ drop k fs) (sym is) (sym (add-one i)))

    pub held_stops : (x y : ℕ) → field f (drop at s) at ≡ bad x y → record { number = x; place = y; met = i; parts = parts } ≡ layout_read (parts_found fs s from) (read fs s from)
    held_stops x y e = refused_is x y (rw (finds_this, e)) (h.reads ∙ stops fs s parts at i more f is x y e)

    pub held_goes : (p : Part) → i < 8 → field f (drop at s) at ≡ good p → Held fs s from (set parts i p) (p.start + p.len) (i + 1)
    held_goes p l e =
        let m : i < length parts = omega (arith, h.size) in
        let z : parts_found (drop i fs) s at ≡ p ∷ parts_found (drop (i + 1) fs) s (p.start + p.len) = rw (finds_this, e) in
        record {
          size = length-set parts i p ∙ h.size;
          rest = rest_goes p m;
          reads = h.reads ∙ goes fs s parts at i more f is p m e;
          finds = h.finds ∙ ap (λ (l : List Part). take i parts ++ l) z ∙ sym (rw (add-one, take-suc-set parts i p m) (append_assoc (take i parts) (p ∷ []) (parts_found (drop (suc i) fs) s (p.start + p.len))));
        }
      where
        rest_goes : (p : Part) → i < length parts → drop (i + 1) (set parts i p) ≡ drop (i + 1) no_parts
        rest_goes p m =
            let l : i < i + 1 = omega arith in
            let d : (q : List Part) → drop (i + 1) q ≡ drop 1 (drop i q) = λ q. sym (drop-drop 1 i q) in
            drop-set-lt (i + 1) parts i p l ∙ d parts ∙ ap (drop 1) h.rest ∙ sym (d no_parts)

  module _ (end : i ≡ length fs) where
    nothing_found : parts_found (drop i fs) s at ≡ []
    unfolding parts_found
    nothing_found = rw (end, drop-length fs)

    pub held_extra : at < length s → record { number = 3; place = at; met = i; parts = parts } ≡ layout_read (parts_found fs s from) (read fs s from)
    held_extra l = refused_is 3 at nothing_found (h.reads ∙ extra fs s parts at i end l)

    pub held_all : length s ≤ at → record { number = 0; place = 0; met = length fs; parts = parts } ≡ layout_read (parts_found fs s from) (read fs s from)
    held_all l = read_is (length fs) end nothing_found (take i parts) (h.reads ∙ all fs s parts at i end l)
