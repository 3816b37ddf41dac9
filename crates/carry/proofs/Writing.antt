-- The laws of writing pieces one behind the other. Assumes nothing.
use mathlib.Core.Path.{◌≡◌, refl, sym, ap, ◌∙◌}
use mathlib.Core.List.{List, [], ◌∷◌, ◌++◌, append_assoc}
use Prim.Native.Nat.{ℕ, ◌+◌, ◌≤◌}
use native.Mathlib.Omega.{arith}
use lib.ListN.{length, take, drop, length-append, length-take}
use lib.Seq.{take_at, drop_at, drop-drop, take_all, paste}
use Rattle.octets.specs.Bytes.{over, copied}
use Rattle.octets.proofs.Putting.{copied_fits}
use Rattle.carry.specs.Strings.{string}
use Rattle.carry.specs.Inner.{Appends}

-- n bytes of s, pasted at the end of what was written
pub pasted : (at n : ℕ) (s x y : List ℕ) → n ≤ length s → y ≡ paste x at s n → Appends at (take n s) x y
unfolding over
pasted at n s x y h e u o l f =
    let k : length (take n s) ≡ n = simp length-take (omega arith) in
    let g : take at x ≡ u = ap (take at) f ∙ take_at u (drop (length u) o) at l in
    let d : drop at x ≡ drop at o = ap (drop at) f ∙ drop_at u (drop (length u) o) at l ∙ ap (λ (i : ℕ). drop i o) l in
    let t : drop (at + n) x ≡ drop (at + n) o = sym (drop-drop n at x) ∙ ap (drop n) d ∙ drop-drop n at o in
    let m : at + n ≡ length (u ++ take n s) = simp length-append (omega arith) in
    e ∙ rw (g, t, m)

-- one piece after another
pub then : (at n j : ℕ) (v w x y z : List ℕ) → at + n ≡ j → Appends at v x y → length v ≡ n → Appends j w y z → Appends at (v ++ w) x z
then at n j v w x y z i p k q u o l f =
    let m : length (u ++ v) ≡ j = simp length-append (omega arith) in
    q (u ++ v) o m (p u o l f) ∙ ap (λ (s : List ℕ). over s o) (append_assoc u v w)

-- from the start
pub written : (w x y : List ℕ) → Appends 0 w x y → y ≡ over w x
unfolding over
written w x y p = p [] x refl refl

-- the string of a child pair, in three pieces
pub string_put : (at : ℕ) (a b o x y z : List ℕ) → length a ≡ 32 → length b ≡ 32 → at + 65 ≤ length o → length x ≡ length o → length y ≡ length x →
    x ≡ copied (1 ∷ []) 0 1 o at → y ≡ copied a 0 32 x (at + 1) → z ≡ copied b 0 32 y (at + 33) → Appends at (string a b) o z
string_put at a b o x y z la lb room lx ly p q r =
    let ta : take 32 a ≡ a = take_all 32 a (omega arith) in
    let tb : take 32 b ≡ b = take_all 32 b (omega arith) in
    let e : at + 33 ≡ at + 1 + 32 = omega arith in
    let p₂ = copied_fits (1 ∷ []) 0 1 o at (omega arith) (omega arith) p in
    let q₂ = copied_fits a 0 32 x (at + 1) (omega arith) (omega arith) q in
    let r₂ : z ≡ paste y (at + 1 + 32) b 32 = copied_fits b 0 32 y (at + 33) (omega arith) (omega arith) r ∙ ap (λ (i : ℕ). paste y i b 32) e in
    let first : Appends at (1 ∷ []) o x = pasted at 1 (1 ∷ []) o x (omega arith) p₂ in
    let second : Appends (at + 1) a x y = rw ta at (pasted (at + 1) 32 a x y (omega arith) q₂) in
    let third : Appends (at + 1 + 32) b y z = rw tb at (pasted (at + 1 + 32) 32 b y z (omega arith) r₂) in
    then at 1 (at + 1) (1 ∷ []) (a ++ b) o x z refl first refl (then (at + 1) 32 (at + 1 + 32) a b x y z refl second la third)
