-- Laws of the elements of a body. Assumes nothing.
use mathlib.Core.Path.{◌≡◌, refl, ap, ap₂, sym, ◌∙◌}
use mathlib.Core.List.{List, [], ◌∷◌}
use mathlib.Core.Bool.{Bool, true, false, cond}
use Prim.Native.Nat.{ℕ, zero, suc, ◌+◌, ◌-◌, ◌≤◌, ◌<◌}
use native.Mathlib.Omega.{arith}
use lib.ListN.{length, get_or, take, drop, length-drop}
use lib.Dec.{ltb, eqb}
use lib.Seq.{take-nil, drop-drop, length-take-le}
use borrow.Author.Tests.{eq-eqb, ne_eqb, ltb-false, eqb-false}
use Rattle.fields.specs.declared.layout.Inner.{Inner}
use Rattle.fields.specs.declared.layout.Inner.TheVariants.{Opaque, ExtensionList, NodeList}
use Rattle.octets.specs.Numbers.{unbe}
use Rattle.fields.specs.Layout.{out_of_order, element, elements, inside_from, past, sized}
use Rattle.fields.specs.Inner.{part}
use Rattle.fields.specs.Checked.{good, bad}
use Rattle.octets.specs.Answer.{Answer, done, refused}
use Rattle.fields.specs.declared.layout.Element.{Element}

-- a part of a list
pub drop_take : {A : Type 0} (n m : ℕ) (l : List A) → drop n (take m l) ≡ take (m - n) (drop n l)
drop_take zero m l = let z : m ≡ m - 0 = omega arith in rw (← z)
drop_take (suc n) zero l = let z : 0 ≡ 0 - suc n = omega arith in rw (← z)
drop_take (suc n) (suc m) [] = sym (take-nil (suc m - suc n))
drop_take (suc n) (suc m) (x ∷ l) = let z : m - n ≡ suc m - suc n = omega arith in rw (← z) (drop_take n m l)

pub part_length : (s : List ℕ) (at end : ℕ) → at ≤ end → end ≤ length s → length (part s at end) ≡ end - at
part_length s at end h g = length-take-le (end - at) (drop at s) (simp length-drop (omega arith))

pub part_drop : (s : List ℕ) (at end n : ℕ) → drop n (part s at end) ≡ part s (at + n) end
part_drop s at end n =
    drop_take n (end - at) (drop at s) ∙ (let z : end - at - n ≡ end - (at + n) = omega arith in ap₂ (λ (k : ℕ) (l : List ℕ). take k l) z (drop-drop n at s))

-- an element that is there is not empty, and ends within the body
not_size : (x n t : ℕ) → refused x ≡ sized n t → ⊥
not_size x n t e = let z : ◌≡◌ {A = ℕ} 0 1 = cc in omega arith

abbrev size_of : Answer Element → ℕ
size_of (done e) = e.len
size_of (refused x) = 0

same_size : (m n t u : ℕ) → sized m t ≡ sized n u → m ≡ n
same_size m n t u e = ap size_of e

pub element_size : (i : Inner) (last : ℕ) (r : List ℕ) (n t : ℕ) → 0 < length r → element i last r ≡ sized n t → (0 < n) × (n ≤ length r)
unfolding element
element_size Opaque last r n t h e = let z = same_size _ _ _ _ e in (omega arith, omega arith)
element_size (ExtensionList o) last r n t h e = go (ltb (length r) 4) (ltb (length r - 4) (unbe (take 2 (drop 2 r)))) (out_of_order o last (unbe (take 2 r))) refl refl e
  where
    go : (a b c : Bool) → ltb (length r) 4 ≡ a → ltb (length r - 4) (unbe (take 2 (drop 2 r))) ≡ b → cond a (refused 2) (cond b (refused 2) (cond c (refused 15) (sized (4 + unbe (take 2 (drop 2 r))) (unbe (take 2 r) + 1)))) ≡ sized n t → (0 < n) × (n ≤ length r)
    go true b c p q e = absurd (not_size 2 n t e)
    go false true c p q e = absurd (not_size 2 n t e)
    go false false true p q e = absurd (not_size 15 n t e)
    go false false false p q e = let z = same_size _ _ _ _ e in (omega arith, omega (arith, ltb-false (length r) 4 p, ltb-false (length r - 4) (unbe (take 2 (drop 2 r))) q))
element_size NodeList last r n t h e = go (eqb (get_or r 0 0) 32) (ltb (length r) 33) refl e
  where
    go : (a b : Bool) → ltb (length r) 33 ≡ b → cond a (cond b (refused 2) (sized 33 0)) (refused 5) ≡ sized n t → (0 < n) × (n ≤ length r)
    go false b p e = absurd (not_size 5 n t e)
    go true true p e = absurd (not_size 2 n t e)
    go true false p e = let z = same_size _ _ _ _ e in (omega arith, omega (arith, ltb-false (length r) 33 p))

-- more turns than bytes change nothing
enough : (n k : ℕ) (i : Inner) (last : ℕ) (r : List ℕ) (at : ℕ) → length r ≤ n → length r ≤ k → elements n i last r at ≡ elements k i last r at
unfolding elements
enough zero zero i last r at h g = refl
enough zero (suc k) i last r at h g = sym (rw (eq-eqb (length r) 0 (omega arith)))
enough (suc n) zero i last r at h g = rw (eq-eqb (length r) 0 (omega arith))
enough (suc n) (suc k) i last r at h g = go (eqb (length r) 0) refl (element i last r) refl (λ m t. enough n k i t (drop m r) (at + m))
  where
    go : (b : Bool) → eqb (length r) 0 ≡ b → (p : Answer Element) → element i last r ≡ p → ((m t : ℕ) → length (drop m r) ≤ n → length (drop m r) ≤ k → elements n i t (drop m r) (at + m) ≡ elements k i t (drop m r) (at + m)) → cond b (good tt) (past p at (λ m t. elements n i t (drop m r) (at + m))) ≡ cond b (good tt) (past p at (λ m t. elements k i t (drop m r) (at + m)))
    go true e p q less = refl
    go false e (refused x) q less = refl
    go false e (done d) q less =
        let some : 0 < length r = omega (arith, eqb-false (length r) 0 e) in
        let s = element_size i last r d.len d.next some q in
        less d.len d.next (simp length-drop (omega arith)) (simp length-drop (omega arith))

module _ (i : Inner) (last : ℕ) (r : List ℕ) (at : ℕ) where
  one : 0 < length r → inside_from i last r at ≡ elements (suc (length r)) i last r at
  unfolding inside_from
  one h = enough (length r) (suc (length r)) i last r at (omega arith) (omega arith)

  pub inside_none : length r ≡ 0 → inside_from i last r at ≡ good tt
  unfolding inside_from elements
  inside_none h = rw h

  pub inside_bad : (x : ℕ) → 0 < length r → element i last r ≡ refused x → inside_from i last r at ≡ bad x at
  unfolding elements
  inside_bad x h e = one h ∙ simp (ne_eqb (length r) 0 (λ z. omega arith), e)

  pub inside_more : (n t : ℕ) → 0 < length r → element i last r ≡ sized n t → inside_from i last r at ≡ inside_from i t (drop n r) (at + n)
  unfolding inside_from elements
  inside_more n t h e =
      let s = element_size i last r n t h e in
      one h ∙ simp (ne_eqb (length r) 0 (λ z. omega arith), e) (enough (length r) (length (drop n r)) i t (drop n r) (at + n) (simp length-drop (omega arith)) (omega arith))
