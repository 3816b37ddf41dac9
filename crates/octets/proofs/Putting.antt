-- The laws of writing over a buffer. Assumes nothing.
use mathlib.Core.Path.{◌≡◌, refl, ap, sym, subst, ◌∙◌}
use mathlib.Core.Bool.{Bool, true, false}
use mathlib.Core.List.{List, [], ◌∷◌, ◌++◌, append_assoc, append-nil}
use Prim.Native.Nat.{ℕ, suc, ◌+◌, ◌≤◌, ◌<◌}
use native.Mathlib.Omega.{arith}
use native.Mathlib.Numerals.{add-one}
use native.Mathlib.Nat.{add_assoc, zero-add}
use lib.Dec.{leb}
use lib.ListN.{length, take, drop, get_or, set, length-append, length-drop, take-append-drop, drop_of_length-le}
use lib.Seq.{drop-cons, take_at, drop_at, drop-append-add, drop-drop, take-add, set_split, length-take-le, take-length, paste}
use borrow.Author.Tests.{le-leb, lt-leb, leb-true, leb-false}
use Rattle.octets.specs.Bytes.{over, put, put_within, copied}
use Rattle.octets.specs.Claims.{Put}

-- a test of reach, as a fact
pub beyond : (r : Bool) (a b : ℕ) → r ≡ leb a b → r ≡ false → b < a
beyond r a b e n = leb-false a b (sym e ∙ n)

pub within : (r : Bool) (a b : ℕ) → r ≡ leb a b → r ≡ true → a ≤ b
within r a b e n = leb-true a b (sym e ∙ n)

pub head_length : (out a : List ℕ) (at : ℕ) → at ≤ length out → length (take at out ++ a) ≡ at + length a
head_length out a at h = length-append (take at out) a ∙ ap (λ (k : ℕ). k + length a) (length-take-le at out h)

pub put_length : (out a : List ℕ) (at : ℕ) → at + length a ≤ length out → length (put out at a) ≡ length out
put_length out a at h =
    let l : length (take at out) ≡ at = length-take-le at out (omega arith) in
    omega (arith, length-append (take at out) (a ++ drop (at + length a) out), length-append a (drop (at + length a) out), length-drop (at + length a) out)

-- one put after another
pub put_then : (out a b : List ℕ) (at : ℕ) → at ≤ length out → put (put out at a) (at + length a) b ≡ put out at (a ++ b)
put_then out a b at h =
    let l : length (take at out ++ a) ≡ at + length a = head_length out a at h in
    let e : put out at a ≡ (take at out ++ a) ++ drop (at + length a) out = sym (append_assoc (take at out) a (drop (at + length a) out)) in
    let p : take (at + length a) (put out at a) ≡ take at out ++ a = ap (take (at + length a)) e ∙ take_at (take at out ++ a) (drop (at + length a) out) (at + length a) l in
    let q : drop (at + length a + length b) (put out at a) ≡ drop (at + length a + length b) out =
    ap (drop (at + length a + length b)) e ∙ ap (λ (k : ℕ). drop (k + length b) ((take at out ++ a) ++ drop (at + length a) out)) (sym l)
    ∙ drop-append-add (take at out ++ a) (drop (at + length a) out) (length b) ∙ drop-drop (length b) (at + length a) out in
    let m : at + length (a ++ b) ≡ at + length a + length b = ap (λ (k : ℕ). at + k) (length-append a b) ∙ sym (add_assoc at (length a) (length b)) in
    rw (p, q, m) (simp append_assoc)

-- a store
pub set_put : (out : List ℕ) (p x : ℕ) → p < length out → set out p x ≡ put out p (x ∷ [])
set_put out p x h = set_split out p x h ∙ ap (λ (k : ℕ). take p out ++ (x ∷ drop k out)) (sym (add-one p))

-- the next bytes of some that are put
pub put_more : (out b c r : List ℕ) (at n : ℕ) → at ≤ length out → n ≤ length b → drop n b ≡ c ++ r →
    put (put out at (take n b)) (at + n) c ≡ put out at (take (n + length c) b)
put_more out b c r at n h g e =
    let l : length (take n b) ≡ n = length-take-le n b g in
    let t : take (n + length c) b ≡ take n b ++ c = take-add n (length c) b ∙ ap (λ (k : List ℕ). take n b ++ take (length c) k) e ∙ ap (λ (k : List ℕ). take n b ++ k) (take_at c r (length c) refl) in
    rw t (subst (λ (k : ℕ). put (put out at (take n b)) (at + k) c ≡ put out at (take n b ++ c)) l (put_then out (take n b) c at h))

pub put_none : (out b : List ℕ) (at : ℕ) → out ≡ put out at (take 0 b)
put_none out b at = sym (take_drop out at)
  where
    take_drop : (l : List ℕ) (k : ℕ) → take k l ++ drop (k + 0) l ≡ l
    take_drop l k = let z : k + 0 ≡ k = omega arith in rw z (take-append-drop k l)

-- a turn of a loop that stores the bytes of s, one by one
pub put_turn : (out₀ out s : List ℕ) (at i : ℕ) → at + i < length out₀ → i < length s → length out ≡ length out₀ →
    out ≡ put out₀ at (take i s) → set out (at + i) (get_or s i 0) ≡ put out₀ at (take (i + 1) s)
put_turn out₀ out s at i room more l e =
    set_put out (at + i) (get_or s i 0) (omega arith)
    ∙ ap (λ (o : List ℕ). put o (at + i) (get_or s i 0 ∷ [])) e
    ∙ put_more out₀ s (get_or s i 0 ∷ []) (drop (suc i) s) at i (omega arith) (omega arith) (drop-cons s i 0 more)

pub put_all : (out b : List ℕ) (at n : ℕ) → n ≡ length b → put out at (take n b) ≡ put out at b
put_all out b at n e = rw (e, take-length)

-- bytes put over all of a buffer
pub put_whole : (out b : List ℕ) → length out ≡ length b → put out 0 b ≡ b
put_whole out b e = ap (λ (l : List ℕ). b ++ l) (drop_of_length-le out {i = 0 + length b} (omega arith)) ∙ append-nil b

-- what fits, and what does not
module _ (out b : List ℕ) (at : ℕ) where
  pub put_in : at + length b ≤ length out → put_within out at b ≡ put out at b
  unfolding put_within
  put_in h = rw (le-leb (at + length b) (length out) h)

  pub put_out : length out < at + length b → put_within out at b ≡ out
  unfolding put_within
  put_out h = rw (lt-leb (at + length b) (length out) h)

-- what fits, as the kit writes it
pub pasted : {y : List ℕ} (out b : List ℕ) (at : ℕ) → at + length b ≤ length out → y ≡ put_within out at b → y ≡ paste out at b (length b)
pasted out b at h e =
    e ∙ put_in out b at h ∙ sym (append_assoc (take at out) b (drop (at + length b) out))
    ∙ ap (λ (x : List ℕ). (take at out ++ x) ++ drop (at + length b) out) (sym (take-length b))

pub put_within_length : (out b : List ℕ) (at : ℕ) → length (put_within out at b) ≡ length out
put_within_length out b at = go (leb (at + length b) (length out)) refl
  where
    go : (r : Bool) → leb (at + length b) (length out) ≡ r → length (put_within out at b) ≡ length out
    go true e = ap length (put_in out b at (leb-true _ _ e)) ∙ put_length out b at (leb-true _ _ e)
    go false e = ap length (put_out out b at (leb-false _ _ e))

-- at the start
pub put_over : (out b : List ℕ) → length b ≤ length out → put_within out 0 b ≡ over b out
unfolding over
put_over out b h = put_in out b 0 (omega arith) ∙ ap (λ (k : ℕ). b ++ drop k out) (zero-add (length b))

-- what is copied where both buffers reach far enough, and where one does not
module _ (s : List ℕ) (from len : ℕ) (out : List ℕ) (at : ℕ) where
  taken : from + len ≤ length s → length (take len (drop from s)) ≡ len
  taken h = length-take-le len (drop from s) (rw (length-drop from s) (omega arith))

  pub copied_within : from + len ≤ length s → copied s from len out at ≡ put_within out at (take len (drop from s))
  unfolding copied
  copied_within h = rw (le-leb (from + len) (length s) h)

  pub copied_put : from + len ≤ length s → at + len ≤ length out → copied s from len out at ≡ put out at (take len (drop from s))
  copied_put h g = copied_within h ∙ put_in out (take len (drop from s)) at (omega (arith, taken h))

  pub copied_short : length s < from + len → copied s from len out at ≡ out
  unfolding copied
  copied_short h = rw (lt-leb (from + len) (length s) h)

  pub copied_full : from + len ≤ length s → length out < at + len → copied s from len out at ≡ out
  copied_full h g = copied_within h ∙ put_out out (take len (drop from s)) at (omega (arith, taken h))

  -- as the kit writes it
  pub copied_fits : {y : List ℕ} → from + len ≤ length s → at + len ≤ length out → y ≡ copied s from len out at → y ≡ paste out at (drop from s) len
  copied_fits h g e =
      e ∙ copied_put h g ∙ ap (λ (n : ℕ). take at out ++ (take len (drop from s) ++ drop (at + n) out)) (taken h)
      ∙ sym (append_assoc (take at out) (take len (drop from s)) (drop (at + len) out))

-- copying all of s to the start
pub copied_over : (s out : List ℕ) → length s ≤ length out → copied s 0 (length s) out 0 ≡ over s out
unfolding over
copied_over s out h =
    copied_put s 0 (length s) out 0 (omega arith) (omega arith) ∙ put_all out s 0 (length s) refl ∙ ap (λ (k : ℕ). s ++ drop k out) (zero-add (length s))

-- all of a buffer is written over
pub over_all : (s out : List ℕ) → length s ≡ length out → over s out ≡ s
unfolding over
over_all s out e = ap (λ (d : List ℕ). s ++ d) (drop_of_length-le out {i = length s} (omega arith)) ∙ append-nil s

-- what was written is the start
pub over_start : (s out : List ℕ) (n : ℕ) → n ≡ length s → take n (over s out) ≡ s
unfolding over
over_start s out n e = take_at s (drop (length s) out) n (sym e)

pub put_keeps : (out : List ℕ) (at : ℕ) (b : List ℕ) → Put out at b
put_keeps out at b = go (leb (at + length b) (length out)) refl
  where
    go : (r : Bool) → leb (at + length b) (length out) ≡ r → Put out at b
    go true e =
        let h : at + length b ≤ length out = leb-true _ _ e in
        let i = put_in out b at h in
        let k : length (take at out) ≡ at = length-take-le at out (omega arith) in
        let f : drop at (put out at b) ≡ b ++ drop (at + length b) out = drop_at (take at out) (b ++ drop (at + length b) out) at k in
        record {
          there = λ g. ap (λ (x : List ℕ). take (length b) (drop at x)) i ∙ ap (take (length b)) f ∙ take_at b (drop (at + length b) out) (length b) refl;
          before = ap (take at) i ∙ take_at (take at out) (b ++ drop (at + length b) out) at k;
          after = ap (drop (at + length b)) i ∙ sym (drop_drop' (put out at b)) ∙ ap (drop (length b)) f ∙ drop_at b (drop (at + length b) out) (length b) refl;
          unfit = λ g. absurd (omega arith);
        }
      where
        drop_drop' : (x : List ℕ) → drop (length b) (drop at x) ≡ drop (at + length b) x
        drop_drop' x = drop-drop (length b) at x
    go false e =
        let h : length out < at + length b = leb-false _ _ e in
        let i = put_out out b at h in
        record { there = λ g. absurd (omega arith); before = ap (take at) i; after = ap (drop (at + length b)) i; unfit = λ g. i }
