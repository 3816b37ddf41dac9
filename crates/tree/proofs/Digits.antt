-- The binary digits of a number by its split, and the counts of a path's nodes by them: over any width and any number. Assumes nothing.
use mathlib.Core.Path.{◌≡◌, refl, sym, ap, ap₂, ◌∙◌}
use mathlib.Core.Logic.{⊎_elim}
use mathlib.Core.Bool.{Bool, true, false, cond}
use Prim.Native.Nat.{ℕ, zero, suc, ◌+◌, ◌-◌, ◌*◌, ◌/◌, ◌%◌, ◌^◌, ◌≤◌, ◌<◌}
use native.Mathlib.Omega.{arith}
use native.Mathlib.Nat.{pow-zero, pow-succ', add-mul-div_right, add_comm, div-eq_of_lt, lt_of_not-le, lt_irrefl, lt_of_lt_of_le}
use lib.Pow.{pow_pos, pow_mono, pow-add, shr_lt}
use lib.Bits.{bit_xor, xor_block, xor_lt, xor_add_and, and_le_l}
use lib.Arith.{bin_ind}
use lib.Count.{ones, ones_in, count_leading_zeros, count_trailing_zeros, ones_step, ones_cat, ones-le, leading_top, under}
use lib.Dec.{eqb}
use borrow.Author.Tests.{eq-eqb, ne_eqb}
use Rattle.tree.specs.Limits.{largest_size}
use Rattle.tree.specs.Split.{split}
use Rattle.tree.specs.Count.{inclusion_count, subproof_count, consistency_count}
use Rattle.tree.specs.Claims.{Reached}
use Rattle.octets.proofs.Order.{lt_or_ge}
use Rattle.tree.proofs.Splitting.{split_ends, split_power, split_unique, by_splits}
use Rattle.tree.proofs.Counting.{count_few, count_low, count_high, inclusion_most, sub_few, sub_all, sub_some, down_low, down_high}

power_below : (i j : ℕ) → 2 ^ i < 2 ^ j → i < j
power_below i j h = lt_of_not-le (λ g. lt_irrefl (2 ^ i) (lt_of_lt_of_le h (pow_mono g)))

-- the highest digit stands at one place
pub top_unique : (v i j : ℕ) → 2 ^ i ≤ v → v < 2 ^ suc i → 2 ^ j ≤ v → v < 2 ^ suc j → i ≡ j
top_unique v i j a b c d =
    let l = power_below i (suc j) (omega arith) in
    let g = power_below j (suc i) (omega arith) in
    omega arith

-- 2 ^ i + r with r < 2 ^ i has the digit at i, and below it those of r
module _ (i r : ℕ) (low : r < 2 ^ i) where
  pub ones_top : ones (2 ^ i + r) ≡ 1 + ones r
  unfolding ones
  ones_top = let e : 2 ^ i + r ≡ 1 * 2 ^ i + r = omega arith in ap ones e ∙ ones_cat i 1 r low

  module _ (s : ℕ) (other : s < 2 ^ i) where
    pub xor_top : bit_xor (2 ^ i + r) (2 ^ i + s) ≡ bit_xor r s
    xor_top =
        let e : 2 ^ i + r ≡ 1 * 2 ^ i + r = omega arith in
        let f : 2 ^ i + s ≡ 1 * 2 ^ i + s = omega arith in
        let g : 0 * 2 ^ i + bit_xor r s ≡ bit_xor r s = omega arith in
        ap₂ bit_xor e f ∙ xor_block i 1 1 r s low other ∙ g

    pub xor_over : bit_xor r (2 ^ i + s) ≡ 2 ^ i + bit_xor r s
    xor_over =
        let e : r ≡ 0 * 2 ^ i + r = omega arith in
        let f : 2 ^ i + s ≡ 1 * 2 ^ i + s = omega arith in
        let g : 1 * 2 ^ i + bit_xor r s ≡ 2 ^ i + bit_xor r s = omega arith in
        ap₂ bit_xor e f ∙ xor_block i 0 1 r s low other ∙ g

  pub shr_top : (j : ℕ) → j ≤ i → (2 ^ i + r) / 2 ^ j ≡ 2 ^ (i - j) + r / 2 ^ j
  shr_top j h =
      let w : i ≡ (i - j) + j = omega arith in
      let e : 2 ^ i + r ≡ r + 2 ^ (i - j) * 2 ^ j = add_comm (2 ^ i) r ∙ ap (λ (x : ℕ). r + x) (ap (λ (x : ℕ). 2 ^ x) w ∙ pow-add 2 (i - j) j) in
      ap (λ (x : ℕ). x / 2 ^ j) e ∙ add-mul-div_right r (2 ^ (i - j)) (pow_pos j) ∙ add_comm (r / 2 ^ j) (2 ^ (i - j))

-- the ones from place j on
pub ones_above : (i r j : ℕ) → r < 2 ^ i → j ≤ i → ones ((2 ^ i + r) / 2 ^ j) ≡ 1 + ones (r / 2 ^ j)
ones_above i r j low h =
    let w : 2 ^ i ≡ 2 ^ ((i - j) + j) = ap (λ (x : ℕ). 2 ^ x) (omega arith) in
    ap ones (shr_top i r low j h) ∙ ones_top (i - j) (r / 2 ^ j) (shr_lt (i - j) j (omega arith))

pub ones_some : (n : ℕ) → 0 < n → 0 < ones n
unfolding ones
ones_some = bin_ind (λ n. 0 < n → 0 < ones n) (λ z. absurd (omega arith)) (λ n p z.
    let s = ones_step n in
    ⊎_elim (λ h. let r = p h in omega arith) (λ h. omega arith) (lt_or_ge 0 (n / 2)))

pub ones_power : (i : ℕ) → ones (2 ^ i) ≡ 1
unfolding ones
ones_power i = let e : 2 ^ i ≡ 2 ^ i + 0 = omega arith in ap ones e ∙ ones_top i 0 (pow_pos i)

pub trailing_power : (w i : ℕ) → i < w → count_trailing_zeros w (2 ^ i) ≡ i
unfolding count_trailing_zeros
trailing_power zero i h = absurd (omega arith)
trailing_power (suc w) zero h = refl
trailing_power (suc w) (suc i) h =
    let d = pow-succ' 2 i in
    let e : 2 ^ suc i % 2 ≡ 0 = omega arith in
    let f : 2 ^ suc i / 2 ≡ 2 ^ i = omega arith in
    rw (e, f) (ap suc (trailing_power w i (omega arith)))

pub trailing_top : (w i r : ℕ) → 0 < r → r < 2 ^ i → count_trailing_zeros w (2 ^ i + r) ≡ count_trailing_zeros w r
unfolding count_trailing_zeros
trailing_top zero i r z h = refl
trailing_top (suc w) zero r z h = absurd (omega (arith, pow-zero 2))
trailing_top (suc w) (suc i) r z h =
    let d = pow-succ' 2 i in
    let e : (2 ^ suc i + r) % 2 ≡ r % 2 = omega arith in
    let f : (2 ^ suc i + r) / 2 ≡ 2 ^ i + r / 2 = omega arith in
    rw (e, f) (go (r % 2) refl (λ t. trailing_top w i (r / 2) t (omega arith)))
  where
    go : (d : ℕ) → r % 2 ≡ d → (0 < r / 2 → count_trailing_zeros w (2 ^ i + r / 2) ≡ count_trailing_zeros w (r / 2)) →
        under d (count_trailing_zeros w (2 ^ i + r / 2)) ≡ under d (count_trailing_zeros w (r / 2))
    go zero e less = ap suc (less (omega arith))
    go (suc d) e less = refl

-- the same by a split: what is left has the digits below
module _ (n k m : ℕ) (at_split : k ≡ split n) (least : k ≤ m) (below : m < 2 * k) where
  pub ones_split : ones m ≡ 1 + ones (m - k)
  ones_split =
      let t = split_power n in
      let e = t.1 in
      let own : m ≡ 2 ^ t.0 + (m - k) = omega arith in
      ap ones own ∙ ones_top t.0 (m - k) (omega arith)

  pub trailing_split : (w : ℕ) → k < m → count_trailing_zeros w m ≡ count_trailing_zeros w (m - k)
  trailing_split w l =
      let t = split_power n in
      let e = t.1 in
      let own : m ≡ 2 ^ t.0 + (m - k) = omega arith in
      ap (count_trailing_zeros w) own ∙ trailing_top w t.0 (m - k) (omega arith) (omega arith)

-- two numbers that differ do so in some digit
pub xor_some : (m n : ℕ) → m < n → 0 < bit_xor m n
xor_some m n h = let s = xor_add_and m n in let l = and_le_l m n in omega arith

-- the inclusion path in a full tree
full : (i m : ℕ) → m < 2 ^ i → inclusion_count m (2 ^ i) ≡ i
full zero m h = count_few m (2 ^ zero) (omega (arith, pow-zero 2))
full (suc i) m h =
    let p = pow_pos i in
    let d : 2 ^ suc i ≡ 2 * 2 ^ i = pow-succ' 2 i in
    let more : 1 < 2 ^ suc i = omega arith in
    let k : 2 ^ i ≡ split (2 ^ suc i) = sym (split_unique (2 ^ suc i) i more (omega arith) (omega arith)) in
    let half : 2 ^ suc i - 2 ^ i ≡ 2 ^ i = omega arith in
    ⊎_elim (λ t. let c = count_low m (2 ^ suc i) (2 ^ i) more k t in let e = full i m t in omega arith)
    (λ t. let c = count_high m (2 ^ suc i) (2 ^ i) more k t ∙ ap (λ (x : ℕ). 1 + inclusion_count (m - 2 ^ i) x) half in let e = full i (m - 2 ^ i) (omega arith) in omega arith)
    (lt_or_ge m (2 ^ i))

-- the last place, and each past it
pub count_last : (n : ℕ) → 0 < n → (m : ℕ) → n ≤ suc m → inclusion_count m n ≡ ones (n - 1)
unfolding ones
count_last =
    by_splits (λ n. (m : ℕ) → n ≤ suc m → inclusion_count m n ≡ ones (n - 1))
    (λ m h. count_few m 1 (omega arith))
    (λ n more p q m h.
    let s = split_ends n more in
    let k = split n in
    let c = count_high m n k more refl (omega arith) in
    let r = q (m - k) (omega arith) in
    let before : n - k - 1 ≡ n - 1 - k = omega arith in
    let o = ones_split n k (n - 1) refl (omega arith) (omega arith) in
    omega (arith, ap ones before))

-- any other place: j is the highest digit in which it differs from the last
abbrev Inner : ℕ → Type 0
Inner n = (m j : ℕ) → suc m < n → 2 ^ j ≤ bit_xor m (n - 1) → bit_xor m (n - 1) < 2 ^ suc j → inclusion_count m n ≡ suc j + ones (m / 2 ^ j)

pub count_inner : (n : ℕ) → 0 < n → Inner n
unfolding ones
count_inner =
    by_splits Inner
    (λ m j h a b. absurd (omega arith))
    (λ n more p q m j h a b.
    let s = split_ends n more in
    let t = split_power n in
    let i = t.0 in
    let e = t.1 in
    let k = split n in
    let rest = n - k - 1 in
    let last : n - 1 ≡ 2 ^ i + rest = omega arith in
    ⊎_elim (λ l.
    let x : bit_xor m (n - 1) ≡ 2 ^ i + bit_xor m rest = ap (bit_xor m) last ∙ xor_over i m (omega arith) rest (omega arith) in
    let v = xor_lt i m rest (omega arith) (omega arith) in
    let same : i ≡ j = top_unique (bit_xor m (n - 1)) i j (omega arith) (omega (arith, pow-succ' 2 i)) a b in
    let c = count_low m n k more refl l in
    let f = ap (inclusion_count m) e ∙ full i m (omega arith) in
    let under : m < 2 ^ j = omega (arith, ap (λ (y : ℕ). 2 ^ y) same) in
    let o = ap ones (div-eq_of_lt under) in
    omega arith)
    (λ (l : k ≤ m).
    let r = m - k in
    let own : m ≡ 2 ^ i + r = omega arith in
    let x : bit_xor m (n - 1) ≡ bit_xor r rest = ap₂ bit_xor own last ∙ xor_top i r (omega arith) rest (omega arith) in
    let v = xor_lt i r rest (omega arith) (omega arith) in
    let under : j < i = power_below j i (omega arith) in
    let c = count_high m n k more refl l in
    let w = q r j (omega arith) (omega arith) (omega arith) in
    let o = ap (λ (y : ℕ). ones (y / 2 ^ j)) own ∙ ones_above i r j (omega arith) (omega arith) in
    omega arith)
    (lt_or_ge m k))

-- the same by the leading zeros of w digits: what is left of the w digits is the length of the difference
pub count_zeros : (w n m : ℕ) → suc m < n → n ≤ 2 ^ w →
    (0 < w - count_leading_zeros w (bit_xor m (n - 1))) × ((w - count_leading_zeros w (bit_xor m (n - 1))) + ones (m / 2 ^ (w - count_leading_zeros w (bit_xor m (n - 1)) - 1)) ≡ inclusion_count m n)
count_zeros w n m h most =
    let t = leading_top w (bit_xor m (n - 1)) (xor_some m (n - 1) (omega arith)) (xor_lt w m (n - 1) (omega arith) (omega arith)) in
    let sum = t.1 in
    let e : t.0 ≡ w - count_leading_zeros w (bit_xor m (n - 1)) - 1 = omega arith in
    let c = count_inner n (omega arith) m t.0 h t.2 t.3 in
    let o = ap (λ (x : ℕ). ones (m / 2 ^ x)) e in
    (omega arith, omega arith)

-- a size of at most 2 ^ w has at most w nodes, wherever the place is
pub count_most : (w n m : ℕ) → n ≤ 2 ^ w → inclusion_count m n ≤ w
count_most w zero m h = let e = count_few m 0 (omega arith) in omega arith
count_most w (suc n) m h =
    ⊎_elim (λ t. inclusion_most w m (suc n) t h)
    (λ t. let e = count_last (suc n) (omega arith) m (omega arith) in let l = ones-le w (suc n - 1) (omega arith) in omega arith)
    (lt_or_ge m (suc n))

-- the consistency path from no leaves, as the definition has it: that of the first place, and the last root where it is not known
pub sub_none : (b : Bool) (n : ℕ) → 0 < n → subproof_count 0 n b ≡ inclusion_count 0 n + cond b 0 1
sub_none b =
    by_splits (λ n. subproof_count 0 n b ≡ inclusion_count 0 n + cond b 0 1)
    (let c = count_few 0 1 (omega arith) in let d = sub_few 0 1 b (omega arith) in omega arith)
    (λ n more p q.
    let s = split_ends n more in
    let c = count_low 0 n (split n) more refl (omega arith) in
    let d = down_low 0 n (split n) b more (λ e. omega arith) refl (omega arith) in
    omega arith)

-- from more leaves than there are: that of the last place, and the last root
past : (n : ℕ) → 0 < n → (m : ℕ) → n < m → subproof_count m n false ≡ inclusion_count m n + 1
past =
    by_splits (λ n. (m : ℕ) → n < m → subproof_count m n false ≡ inclusion_count m n + 1)
    (λ m h. let c = count_few m 1 (omega arith) in let d = sub_few m 1 false (omega arith) in omega arith)
    (λ n more p q m h.
    let s = split_ends n more in
    let c = count_high m n (split n) more refl (omega arith) in
    let d = down_high m n (split n) false more (λ e. omega arith) refl (omega arith) in
    let r = q (m - split n) (omega arith) in
    omega arith)

pub sub_past : (n m : ℕ) (b : Bool) → 1 < n → n < m → subproof_count m n b ≡ inclusion_count m n + 1
sub_past n m b more h =
    let s = split_ends n more in
    let c = count_high m n (split n) more refl (omega arith) in
    let d = down_high m n (split n) b more (λ e. omega arith) refl (omega arith) in
    let r = past (n - split n) (omega arith) (m - split n) (omega arith) in
    omega arith

either : (t : Bool) → cond {A = ℕ} t 1 1 ≡ 1
either true = refl
either false = refl

-- from m leaves of more: that of the last of them, less the levels of the full part that ends there, and that part's root, which can be known where the part
-- is all of them: where m is a power of two
abbrev SubInner : ℕ → ℕ → Type 0
SubInner w n = (m : ℕ) (b : Bool) → n ≤ 2 ^ w → 0 < m → m < n →
    subproof_count m n b + count_trailing_zeros w m ≡ inclusion_count (m - 1) n + cond (eqb (ones m) 1) (cond b 0 1) 1

sub_inner : (w n : ℕ) → 0 < n → SubInner w n
sub_inner w =
    by_splits (SubInner w)
    (λ m b most some less. absurd (omega arith))
    (λ n more p q m b most some less.
    let s = split_ends n more in
    let t = split_power n in
    let i = t.0 in
    let e = t.1 in
    let k = split n in
    ⊎_elim (λ (l : k < m).
    let r = m - k in
    let before : m - 1 - k ≡ r - 1 = omega arith in
    let c = count_high (m - 1) n k more refl (omega arith) ∙ ap (λ (x : ℕ). 1 + inclusion_count x (n - k)) before in
    let d = down_high m n k b more (λ x. omega arith) refl l in
    let u = q r false (omega arith) (omega arith) (omega arith) in
    let f = either (eqb (ones r) 1) in
    let z = trailing_split n k m refl (omega arith) (omega arith) w l in
    let o = ones_split n k m refl (omega arith) (omega arith) in
    let v = ones_some r (omega arith) in
    rw (ne_eqb (ones m) 1 (λ x. omega arith)) (omega arith))
    (λ (l : m ≤ k).
    let c = count_low (m - 1) n k more refl (omega arith) in
    let d = down_low m n k b more (λ x. omega arith) refl l in
    ⊎_elim (λ under. let u = p m b (omega arith) some under in omega arith)
    (λ (over : k ≤ m).
    let own : m ≡ 2 ^ i = omega arith in
    let u = sub_all m k b (omega arith) in
    let z = ap (count_trailing_zeros w) own ∙ trailing_power w i (power_below i w (omega arith)) in
    let y = ap (inclusion_count (m - 1)) e ∙ full i (m - 1) (omega arith) in
    let o : ones m ≡ 1 = ap ones own ∙ ones_power i in
    rw (eq-eqb (ones m) 1 o) (omega arith))
    (lt_or_ge m k))
    (lt_or_ge k m))

module _ (w n m : ℕ) (most : n ≤ 2 ^ w) (some : 0 < m) (less : m < n) where
  pub sub_power : (b : Bool) → ones m ≡ 1 → subproof_count m n b + count_trailing_zeros w m ≡ inclusion_count (m - 1) n + cond b 0 1
  sub_power b e = rw (eq-eqb (ones m) 1 e) at (sub_inner w n (omega arith) m b most some less)

  pub sub_other : (b : Bool) → (ones m ≡ 1 → ⊥) → subproof_count m n b + count_trailing_zeros w m ≡ inclusion_count (m - 1) n + 1
  sub_other b e = rw (ne_eqb (ones m) 1 e) at (sub_inner w n (omega arith) m b most some less)

  pub trailing_few : count_trailing_zeros w m ≤ inclusion_count (m - 1) n
  trailing_few =
      let e = sub_inner w n (omega arith) m false most some less in
      let f = either (eqb (ones m) 1) in
      let s = sub_some m n (split n) false some less refl in
      omega arith

-- at the largest size the bounds are reached
pub reached : Reached
unfolding consistency_count ones ones_in count_leading_zeros count_trailing_zeros
reached = record {
  whole = λ n. (λ h. omega arith, λ h. omega arith);
  inclusion = sym (count_zeros 64 largest_size 0 (omega arith) (omega arith)).1;
  consistency =
      let c = (count_zeros 64 largest_size 2 (omega arith) (omega arith)).1 in
      let d = sub_other 64 largest_size 3 (omega arith) (omega arith) (omega arith) true (λ e. absurd (omega arith)) in
      omega arith;
}
