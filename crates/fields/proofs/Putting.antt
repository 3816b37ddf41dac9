-- Bytes put one after the other. Assumes nothing.
use mathlib.Core.Path.{◌≡◌, refl, ap, sym, ◌∙◌}
use mathlib.Core.List.{List, [], ◌∷◌, ◌++◌}
use Prim.Native.Nat.{ℕ, zero, suc, ◌+◌, ◌-◌, ◌*◌, ◌≤◌, ◌<◌}
use native.Mathlib.Omega.{arith}
use lib.ListN.{length, get_or, take, drop, length-append, length-drop}
use lib.Seq.{drop-length, drop_at, drop-drop, length-take-le}
use Rattle.fields.specs.Checked.{Checked, good, bad, then}
use Rattle.fields.specs.Write.{prefixed, Value, fill, laid, Filled, join, write}
use Rattle.fields.specs.declared.layout.Field.{Field}
use Rattle.fields.proofs.Fills.{fill_laid}
use Rattle.octets.specs.Bytes.{put, put_within}
use Rattle.fields.specs.Inner.{written, Good}
use Rattle.octets.proofs.Putting.{put_none, put_more, put_all, put_in}
use Rattle.fields.proofs.Filling.{nothing, this}

-- what is left of joined hashes
pub prefixed_drop : (k n : ℕ) (v : List ℕ) → k ≤ n → 32 * n ≤ length v → drop (k * 33) (prefixed n v) ≡ prefixed (n - k) (drop (k * 32) v)
unfolding prefixed
prefixed_drop zero n v h g = let z : n - 0 ≡ n = omega arith in rw z
prefixed_drop (suc k) zero v h g = absurd (omega arith)
prefixed_drop (suc k) (suc n) v h g =
    let l : length (take 32 v) ≡ 32 = length-take-le 32 v (omega arith) in
    let r = prefixed n (drop 32 v) in
    let a : suc k * 33 ≡ 33 + k * 33 = omega arith in
    let b : suc k * 32 ≡ 32 + k * 32 = omega arith in
    let c : suc n - suc k ≡ n - k = omega arith in
    let i = prefixed_drop k n (drop 32 v) (omega arith) (rw length-drop (omega arith)) in
    rw (a, b, c) (sym (drop-drop (k * 33) 33 (32 ∷ (take 32 v ++ r))) ∙ ap (drop (k * 33)) (drop_at (take 32 v) r 32 l) ∙ i ∙ ap (prefixed (n - k)) (drop-drop (k * 32) 32 v))

pub next_hash : (k n : ℕ) (v : List ℕ) → k < n → 32 * n ≤ length v → drop (k * 33) (prefixed n v) ≡ (32 ∷ take 32 (drop (k * 32) v)) ++ prefixed (n - k - 1) (drop 32 (drop (k * 32) v))
unfolding prefixed
next_hash k n v h g =
    let z : n - k ≡ suc (n - k - 1) = omega arith in
    prefixed_drop k n v (omega arith) g ∙ ap (λ (j : ℕ). prefixed j (drop (k * 32) v)) z

-- an answer that is good
pub good_is : (a : Checked (List ℕ)) → Good a → a ≡ good (written a)
good_is (good b) g = refl
good_is (bad x y) g = absurd g

-- one field of those that are written
pub record Next (f : Filled) (at : ℕ) (b : List ℕ) (rest : List Filled) : Type 0 where
  pub fits : Good (fill f.field f.value at)
  pub left : List ℕ
  pub split : b ≡ written (fill f.field f.value at) ++ left
  pub again : write rest (at + length (written (fill f.field f.value at))) ≡ good left

pub next_field : (fs : List Filled) (at i : ℕ) (b : List ℕ) → i < length fs → (f : Filled) → get_or fs i nothing ≡ f → write (drop i fs) at ≡ good b → Next f at b (drop (i + 1) fs)
next_field fs at i b more f is e = go (fill f.field f.value at) refl (sym (this fs at i more f is) ∙ e)
  where
    go : (a : Checked (List ℕ)) → fill f.field f.value at ≡ a → then a (λ c. join c (write (drop (i + 1) fs) (at + length c))) ≡ good b → Next f at b (drop (i + 1) fs)
    go (bad x y) h e = absurd (let z : ◌≡◌ {A = ℕ} 0 1 = cc in omega arith)
    go (good c) h e = deep (write (drop (i + 1) fs) (at + length c)) refl e
      where
        deep : (a : Checked (List ℕ)) → write (drop (i + 1) fs) (at + length c) ≡ a → join c a ≡ good b → Next f at b (drop (i + 1) fs)
        deep (bad x y) k e = absurd (let z : ◌≡◌ {A = ℕ} 0 1 = cc in omega arith)
        deep (good d) k e =
            let s : b ≡ c ++ d = cc in
            record { fits = rw h tt; left = d; split = rw h s; again = rw h k }

-- one more field of those that are written, b being all their bytes, which start at `from`
pub record Step (out₀ b out : List ℕ) (fs : List Filled) (from at i : ℕ) : Type 0 where
  pub over : from ≤ at
  pub within : at - from ≤ length b
  pub bytes : out ≡ put out₀ from (take (at - from) b)
  pub left : write (drop i fs) at ≡ good (drop (at - from) b)

pub first_step : (out : List ℕ) (fs : List Filled) (from : ℕ) → Good (write fs from) → Step out (written (write fs from)) out fs from from 0
first_step out fs from g =
    let z : from - from ≡ 0 = omega arith in
    record {
      over = omega arith;
      within = omega arith;
      bytes = rw z (put_none out (written (write fs from)) from);
      left = rw z (good_is (write fs from) g);
    }

module _ (out₀ b out : List ℕ) (fs : List Filled) (from at i : ℕ) (room : from + length b ≤ length out₀) (s : Step out₀ b out fs from at i) (more : i < length fs) (f : Filled) (is : get_or fs i nothing ≡ f) where
  abbrev one : List ℕ
  one = written (fill f.field f.value at)

  here : Next f at (drop (at - from) b) (drop (i + 1) fs)
  here = next_field fs at i (drop (at - from) b) more f is s.left

  pub step_good : Good (fill f.field f.value at)
  step_good = here.fits

  ends : at - from + length (written (fill f.field f.value at)) ≤ length b
  ends =
      let n = here in
      omega (arith, ap length n.split, length-append one n.left, length-drop (at - from) b, s.over, s.within)

  pub step_room : at + length (written (fill f.field f.value at)) ≤ length out₀
  step_room = omega (arith, ends, s.over)

  pub step_next : (r : ℕ) (out₁ : List ℕ) → r ≡ at + length (written (fill f.field f.value at)) → out₁ ≡ put out at (written (fill f.field f.value at)) → Step out₀ b out₁ fs from r (i + 1)
  step_next r out₁ e p =
      let n = here in
      let k : at - from + length one ≡ r - from = omega (arith, s.over) in
      let z : from + (at - from) ≡ at = omega (arith, s.over) in
      let q : put out at one ≡ put (put out₀ from (take (at - from) b)) (from + (at - from)) one = rw (z, ← s.bytes) in
      let d : n.left ≡ drop (r - from) b =
      sym (drop_at one n.left (length one) refl)
      ∙ ap (drop (length one)) (sym n.split)
      ∙ drop-drop (length one) (at - from) b ∙ ap (λ (j : ℕ). drop j b) k in
      record {
        over = omega (arith, s.over);
        within = omega (arith, ends);
        bytes = p ∙ q ∙ put_more out₀ b one n.left from (at - from) (omega arith) s.within n.split ∙ ap (λ (j : ℕ). put out₀ from (take j b)) k;
        left = rw (e, n.again) (ap good (d ∙ ap (λ (j : ℕ). drop (j - from) b) e));
      }

-- nothing is left
pub last_step : (out₀ b out : List ℕ) (fs : List Filled) (from at i : ℕ) → Step out₀ b out fs from at i → i ≡ length fs → out ≡ put out₀ from b
unfolding write
last_step out₀ b out fs from at i s e =
    let n : good [] ≡ good (drop (at - from) b) = rw (e, drop-length fs) at s.left in
    let d : [] ≡ drop (at - from) b = cc in
    let l : at - from ≡ length b = omega (arith, s.within, ap length d, length-drop (at - from) b) in
    s.bytes ∙ put_all out₀ b from (at - from) l

-- a field that is good and fits, as the code puts it
pub put_fits : (f : Field) (v : Value) (out out₁ : List ℕ) (at m : ℕ) → Good (fill f v at) → at + length (written (fill f v at)) ≤ length out → m ≡ length (laid f v) → out₁ ≡ put_within out at (laid f v) → (at + m ≡ at + length (written (fill f v at))) × (out₁ ≡ put out at (written (fill f v at)))
put_fits f v out out₁ at m g h e p =
    let l : written (fill f v at) ≡ laid f v = fill_laid f v at (written (fill f v at)) (good_is (fill f v at) g) in
    let n = ap length l in
    (omega arith, p ∙ put_in out (laid f v) at (omega arith) ∙ ap (put out at) (sym l))
