-- Over any layout: what is read and written again is the same bytes, and what is written reads back as the same values. Assumes nothing.
use mathlib.Core.Path.{◌≡◌, refl, ap, ap₂, sym, subst, ◌∙◌}
use mathlib.Core.List.{List, [], ◌∷◌, ◌++◌, append_assoc}
use mathlib.Core.Bool.{Bool, true, false, cond}
use Prim.Native.Nat.{ℕ, ◌+◌, ◌-◌, ◌≤◌}
use native.Mathlib.Omega.{arith}
use lib.ListN.{length, drop, length-append, length-drop, take-append-drop, drop_of_length-le}
use lib.Dec.{ltb}
use lib.Seq.{drop_at, drop-drop}
use borrow.Author.Tests.{le-ltb, ltb-false}
use Rattle.fields.specs.declared.layout.Part.{Part}
use Rattle.fields.specs.Checked.{Checked, good, bad, then}
use Rattle.fields.specs.Layout.{field, next, push, read}
use Rattle.fields.specs.Inner.{part}
use Rattle.fields.specs.Write.{fill, Filled, join, write, values, Value}
use Rattle.fields.proofs.Elements.{part_length}
use Rattle.fields.proofs.Founds.{found_within}
use Rattle.fields.proofs.Answers.{bad_good, same_good}
use Rattle.fields.specs.Claims.{LayoutAgain, LayoutBack, one_field, layout, ReadBack}
use Rattle.fields.proofs.Vectors.{kept, fill_again}

parts_left : (s : List ℕ) (at end : ℕ) → at ≤ end → part s at end ++ drop end s ≡ drop at s
parts_left s at end h =
    let z : at + (end - at) ≡ end = omega arith in
    let d : drop (end - at) (drop at s) ≡ drop end s = drop-drop (end - at) at s ∙ ap (λ (k : ℕ). drop k s) z in
    rw (← d) (take-append-drop (end - at) (drop at s))

-- what is read, written again, is the same bytes
pub write_again : LayoutAgain
unfolding read write values
write_again [] s at ps bs h e = go (ltb at (length s)) refl e
  where
    go : (b : Bool) → ltb at (length s) ≡ b → cond b (bad 3 at) (good []) ≡ good ps → good [] ≡ good (drop at s)
    go true q e = bad_good 3 at ps e
    go false q e = ap good (sym (drop_of_length-le s (ltb-false at (length s) q)))
write_again (f ∷ fs) s at ps bs h e =
    go (field f (drop at s) at) refl e (λ p qs. write_again fs s (p.start + p.len) qs bs)
  where
    go : (x : Checked Part) → field f (drop at s) at ≡ x → next x (λ p. push p (read fs s (p.start + p.len))) ≡ good ps → ((p : Part) (qs : List Part) → p.start + p.len ≤ length s → read fs s (p.start + p.len) ≡ good qs → write (values fs qs s) (p.start + p.len) ≡ good (drop (p.start + p.len) s)) → write (values (f ∷ fs) ps s) at ≡ good (drop at s)
    go (bad x y) hx e less = bad_good x y ps e
    go (good p) hx e less = more (read fs s (p.start + p.len)) refl e
      where
        more : (a : Checked (List Part)) → read fs s (p.start + p.len) ≡ a → push p a ≡ good ps → write (values (f ∷ fs) ps s) at ≡ good (drop at s)
        more (bad x y) ha e = bad_good x y ps e
        more (good qs) ha e =
            let w : p.start + p.len ≤ length s = omega (arith, found_within f (drop at s) at p hx, length-drop at s) in
            let k = fill_again f s at p bs hx in
            let l : at + length (part s at (p.start + p.len)) ≡ p.start + p.len = omega (arith, part_length s at (p.start + p.len) k.1 w, k.1) in
            let r = less p qs w ha in
            rw (← same_good (p ∷ qs) ps e) (rw (k.0, l, r) (ap good (parts_left s at (p.start + p.len) k.1)))

-- what is written reads back as the same fields
pub read_back : LayoutBack
unfolding read write values
read_back [] front b w e =
    let z : length (front ++ b) ≤ length front = omega (arith, length-append front b, ap length (same_good [] b e)) in
    record { parts = []; read = rw (le-ltb _ _ z); same = refl }
read_back (f ∷ fs) front b (one_field wf w) e = go (fill f.field f.value (length front)) refl e (λ g c. read_back fs g c w)
  where
    go : (x : Checked (List ℕ)) → fill f.field f.value (length front) ≡ x → then x (λ c. join c (write fs (length front + length c))) ≡ good b → ((g c : List ℕ) → write fs (length g) ≡ good c → ReadBack fs g c) → ReadBack (f ∷ fs) front b
    go (bad x y) hx e less = bad_good x y b e
    go (good c) hx e less = more (write fs (length front + length c)) refl e
      where
        more : (a : Checked (List ℕ)) → write fs (length front + length c) ≡ a → join c a ≡ good b → ReadBack (f ∷ fs) front b
        more (bad x y) ha e = bad_good x y b e
        more (good d) ha e =
            let k = kept f.field f.value front c d wf hx in
            let l : length (front ++ c) ≡ length front + length c = length-append front c in
            let a : (front ++ c) ++ d ≡ front ++ (c ++ d) = append_assoc front c d in
            let r = less (front ++ c) d (rw l ha) in
            let s : read (layout fs) (front ++ (c ++ d)) (length front + length c) ≡ good r.parts = rw (a, l) at r.read in
            let v : values (layout fs) r.parts (front ++ (c ++ d)) ≡ fs = rw a at r.same in
            let h : drop (length front) (front ++ (c ++ d)) ≡ c ++ d = drop_at front (c ++ d) (length front) refl in
            subst (λ (x : List ℕ). ReadBack (f ∷ fs) front x) (same_good (c ++ d) b e)
            (record {
              parts = k.place ∷ r.parts;
              read = rw (h, k.found, k.end, s);
              same = ap₂ (λ (x : Value) (m : List Filled). record { field = f.field; value = x } ∷ m) k.same v;
            })
