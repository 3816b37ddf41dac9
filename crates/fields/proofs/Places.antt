-- Where a body's refusal lies, and bodies that are always fine. Assumes nothing.
use mathlib.Core.Path.{◌≡◌, refl, ap, sym, ◌∙◌}
use mathlib.Core.List.{List, [], ◌∷◌, ◌++◌}
use mathlib.Core.Bool.{Bool, true, false, cond}
use Prim.Native.Nat.{ℕ, zero, suc, ◌+◌, ◌*◌, ◌≤◌, ◌<◌}
use native.Mathlib.Omega.{arith}
use native.Mathlib.Nat.{add-zero, add_assoc}
use lib.ListN.{length, take, drop, length-append, length-drop}
use lib.Dec.{eqb}
use lib.Seq.{drop_at, length-take-le, drop-length}
use borrow.Author.Tests.{le-ltb, eqb-false}
use Rattle.fields.specs.declared.layout.Inner.{Inner}
use Rattle.fields.specs.declared.layout.Inner.TheVariants.{Opaque, NodeList}
use Rattle.fields.specs.Layout.{element, elements, inside_from, inside, past, sized}
use Rattle.fields.proofs.Elements.{element_size, inside_none, inside_more}
use Rattle.fields.specs.Write.{prefixed}
use Rattle.fields.specs.Checked.{Checked, good, bad}
use Rattle.octets.specs.Answer.{Answer, done, refused}
use Rattle.fields.specs.declared.layout.Element.{Element}
use Rattle.fields.proofs.Answers.{good_bad, same_place}

abbrev pub shift : ℕ → Checked Unit → Checked Unit
shift k (good u) = good tt
shift k (bad x p) = bad x (k + p)

pub shift_add : (k n : ℕ) (x : Checked Unit) → shift (k + n) x ≡ shift k (shift n x)
shift_add k n (good u) = refl
shift_add k n (bad x p) = ap (bad x) (add_assoc k n p)

elements_shift : (n : ℕ) (i : Inner) (last : ℕ) (r : List ℕ) (k at : ℕ) → elements n i last r (k + at) ≡ shift k (elements n i last r at)
unfolding elements
elements_shift zero i last r k at = refl
elements_shift (suc n) i last r k at = go (eqb (length r) 0) (element i last r) (λ m t. elements_shift n i t (drop m r) k (at + m))
  where
    go : (b : Bool) (x : Answer Element) → ((m t : ℕ) → elements n i t (drop m r) (k + (at + m)) ≡ shift k (elements n i t (drop m r) (at + m))) → cond b (good tt) (past x (k + at) (λ m t. elements n i t (drop m r) (k + at + m))) ≡ shift k (cond b (good tt) (past x at (λ m t. elements n i t (drop m r) (at + m))))
    go true x less = refl
    go false (refused y) less = refl
    go false (done d) less = rw add_assoc (less d.len d.next)

pub inside_shift : (i : Inner) (r : List ℕ) (k : ℕ) → inside i r k ≡ shift k (inside i r 0)
unfolding inside inside_from
inside_shift i r k = ap (elements (length r) i 0 r) (sym (add-zero k)) ∙ elements_shift (length r) i 0 r k 0

pub elements_place : (n : ℕ) (i : Inner) (last : ℕ) (r : List ℕ) (at x p : ℕ) → elements n i last r at ≡ bad x p → (at ≤ p) × (p ≤ at + length r)
unfolding elements
elements_place zero i last r at x p e = good_bad x p tt e
elements_place (suc n) i last r at x p e = go (eqb (length r) 0) refl (element i last r) refl e (λ m t. elements_place n i t (drop m r) (at + m) x p)
  where
    go : (b : Bool) → eqb (length r) 0 ≡ b → (y : Answer Element) → element i last r ≡ y → cond b (good tt) (past y at (λ m t. elements n i t (drop m r) (at + m))) ≡ bad x p → ((m t : ℕ) → elements n i t (drop m r) (at + m) ≡ bad x p → (at + m ≤ p) × (p ≤ at + m + length (drop m r))) → (at ≤ p) × (p ≤ at + length r)
    go true hb y hy e less = good_bad x p tt e
    go false hb (refused z) hy e less = let q = same_place z x at p e in (omega arith, omega arith)
    go false hb (done d) hy e less =
        let some : 0 < length r = omega (arith, eqb-false (length r) 0 hb) in
        let l = less d.len d.next e in
        (omega (arith, l.0), omega (arith, l.1, length-drop d.len r, element_size i last r d.len d.next some hy))

-- nothing is refused in a body without a byte
pub inside_some : (i : Inner) (r : List ℕ) (at x p : ℕ) → inside i r at ≡ bad x p → 0 < length r
unfolding inside inside_from elements
inside_some i [] at x p e = good_bad x p tt e
inside_some i (b ∷ r) at x p e = omega arith

pub inside_place : (i : Inner) (r : List ℕ) (at x p : ℕ) → inside i r at ≡ bad x p → (at ≤ p) × (p ≤ at + length r)
unfolding inside inside_from
inside_place i r at x p e = elements_place (length r) i 0 r at x p e

plain_from : (last : ℕ) (r : List ℕ) (at : ℕ) → inside_from Opaque last r at ≡ good tt
unfolding element
plain_from last [] at = inside_none Opaque last [] at refl
plain_from last (x ∷ r) at =
    let h : 0 < length (x ∷ r) = omega arith in
    inside_more Opaque last (x ∷ r) at (length (x ∷ r)) 0 h refl ∙ inside_none Opaque 0 _ _ (ap length (drop-length (x ∷ r)))

pub plain_fine : (r : List ℕ) (at : ℕ) → inside Opaque r at ≡ good tt
unfolding inside
plain_fine r at = plain_from 0 r at

nodes_from_lem : (k last : ℕ) (v : List ℕ) (at : ℕ) → length v ≡ 32 * k → inside_from NodeList last (prefixed k v) at ≡ good tt
unfolding prefixed element
nodes_from_lem zero last v at h = inside_none NodeList last [] at refl
nodes_from_lem (suc k) last v at h =
    let l : length (take 32 v) ≡ 32 = length-take-le 32 v (omega arith) in
    let r = prefixed k (drop 32 v) in
    let b : 33 ≤ length (32 ∷ (take 32 v ++ r)) = omega (arith, length-append (take 32 v) r) in
    let s : element NodeList last (32 ∷ (take 32 v ++ r)) ≡ sized 33 0 = rw (le-ltb _ _ b) in
    let some : 0 < length (32 ∷ (take 32 v ++ r)) = omega arith in
    inside_more NodeList last (32 ∷ (take 32 v ++ r)) at 33 0 some s ∙ ap (λ (x : List ℕ). inside_from NodeList 0 x (at + 33)) (drop_at (take 32 v) r 32 l) ∙ nodes_from_lem k 0 (drop 32 v) (at + 33) (length-drop 32 v ∙ omega arith)

pub nodes_fine : (k : ℕ) (v : List ℕ) (at : ℕ) → length v ≡ 32 * k → inside NodeList (prefixed k v) at ≡ good tt
unfolding inside
nodes_fine k v at h = nodes_from_lem k 0 v at h
