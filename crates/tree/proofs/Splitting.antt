-- The laws of `split` and `shape`: all arithmetic of the tree's laws is here. Assumes nothing.
use mathlib.Core.Path.{◌≡◌, refl, sym, ap, ap₂, ◌∙◌}
use mathlib.Core.Logic.{⊎_elim}
use Prim.Native.Nat.{ℕ, zero, suc, ◌+◌, ◌-◌, ◌*◌, ◌^◌, ◌≤◌, ◌<◌}
use native.Mathlib.Omega.{arith}
use native.Mathlib.Nat.{pow-succ', pow-le-pow_right}
use lib.Count.{count_leading_zeros, leading_top}
use borrow.Author.Tests.{lt-ltb, le-ltb}
use Rattle.octets.proofs.Order.{lt_or_ge}
use Rattle.tree.specs.Split.{doubled, split, one, fork, size, shape_in, shape}
use Rattle.tree.specs.Equations.{SplitIs}

doubled_more : (f k n : ℕ) → 2 * k < n → doubled (suc f) k n ≡ doubled f (2 * k) n
unfolding doubled
doubled_more f k n h = rw (lt-ltb (2 * k) n h, doubled)

doubled_stop : (f k n : ℕ) → n ≤ 2 * k → doubled f k n ≡ k
unfolding doubled
doubled_stop zero k n h = refl
doubled_stop (suc f) k n h = rw (le-ltb (2 * k) n h, doubled)

doubled_ends : (f k n : ℕ) → 0 < k → k < n → n ≤ f + k → (doubled f k n < n) × (n ≤ 2 * doubled f k n) × (0 < doubled f k n)
doubled_ends zero k n p q r = absurd (omega arith)
doubled_ends (suc f) k n p q r =
    ⊎_elim (λ h. rw (doubled_more f k n h) (doubled_ends f (2 * k) n (omega arith) h (omega arith)))
    (λ h. rw (doubled_stop (suc f) k n h) (q, h, p))
    (lt_or_ge (2 * k) n)

pub split_ends : (n : ℕ) → 1 < n → (split n < n) × (n ≤ 2 * split n) × (0 < split n)
unfolding split
split_ends n h = doubled_ends n 1 n (omega arith) h (omega arith)

pub split_few : (n : ℕ) → n ≤ 1 → split n ≡ 1
unfolding split
split_few n h = doubled_stop n 1 n (omega arith)

doubled_power : (f k n i : ℕ) → k ≡ 2 ^ i → (j : ℕ) × (doubled f k n ≡ 2 ^ j)
unfolding doubled
doubled_power zero k n i e = (i, e)
doubled_power (suc f) k n i e =
    ⊎_elim (λ h. rw (doubled_more f k n h) (doubled_power f (2 * k) n (suc i) (ap (λ (x : ℕ). 2 * x) e ∙ sym (pow-succ' 2 i))))
    (λ h. (i, doubled_stop (suc f) k n h ∙ e))
    (lt_or_ge (2 * k) n)

pub split_power : (n : ℕ) → (j : ℕ) × (split n ≡ 2 ^ j)
unfolding split
split_power n = doubled_power n 1 n 0 refl

pub split_is : (n : ℕ) → 1 < n → SplitIs n
split_is n h =
    let s = split_ends n h in
    record { power = split_power n; smaller = s.0; largest = s.1 }

-- two powers of two: the lower exponent gives at most half
halved : (i j : ℕ) → i < j → 2 * 2 ^ i ≤ 2 ^ j
halved i j h = rw (← (pow-succ' 2 i)) (pow-le-pow_right {n = 2} (omega arith) h)

-- the power of two that is smaller than n, and whose double is not
pub split_unique : (n j : ℕ) → 1 < n → 2 ^ j < n → n ≤ 2 * 2 ^ j → split n ≡ 2 ^ j
split_unique n j more p q =
    let s = split_ends n more in
    let i = split_power n in
    let e = i.1 in
    ⊎_elim (λ l. let x = halved i.0 j l in absurd (omega arith))
    (λ l. ⊎_elim (λ g. let x = halved j i.0 g in absurd (omega arith)) (λ g. let d : i.0 ≡ j = omega arith in e ∙ ap (λ (x : ℕ). 2 ^ x) d) (lt_or_ge j i.0))
    (lt_or_ge i.0 j)

-- the split of a number of w binary digits, by the leading zeros of the number before it
pub split_zeros : (w n : ℕ) → 1 < n → n ≤ 2 ^ w → split n ≡ 2 ^ (w - suc (count_leading_zeros w (n - 1)))
split_zeros w n more h =
    let t = leading_top w (n - 1) (omega arith) (omega arith) in
    let low = t.2 in
    let high : n - 1 < 2 * 2 ^ t.0 = rw (← (pow-succ' 2 t.0)) t.3 in
    let e : t.0 ≡ w - suc (count_leading_zeros w (n - 1)) = omega (arith, t.1) in
    split_unique n t.0 more (omega arith) (omega arith) ∙ ap (λ (x : ℕ). 2 ^ x) e

-- of at most 2 ^ suc k leaves, the first part has at most 2 ^ k
pub split_most : (n k : ℕ) → 1 < n → n ≤ 2 ^ suc k → split n ≤ 2 ^ k
split_most n k more h =
    let s = split_ends n more in
    let p = split_power n in
    let e = p.1 in
    ⊎_elim (λ l. let q : 2 ^ suc k ≤ 2 ^ p.0 = pow-le-pow_right {n = 2} (omega arith) l in absurd (omega arith))
    (λ l. let q : 2 ^ p.0 ≤ 2 ^ k = pow-le-pow_right {n = 2} (omega arith) l in omega arith)
    (lt_or_ge k p.0)

-- a power of two below n is no larger than the first part
pub split_holds : (n j : ℕ) → 2 ^ j < n → 1 < n → 2 ^ j ≤ split n
split_holds n j h more =
    let s = split_ends n more in
    let p = split_power n in
    let e = p.1 in
    ⊎_elim (λ l. let x = halved p.0 j l in absurd (omega arith))
    (λ l. let q : 2 ^ j ≤ 2 ^ p.0 = pow-le-pow_right {n = 2} (omega arith) l in omega arith)
    (lt_or_ge p.0 j)

doubled_ge : (f k n : ℕ) → k ≤ doubled f k n
unfolding doubled
doubled_ge zero k n = omega arith
doubled_ge (suc f) k n =
    ⊎_elim (λ h. rw (doubled_more f k n h) (let e = doubled_ge f (2 * k) n in omega arith)) (λ h. rw (doubled_stop (suc f) k n h) (omega arith)) (lt_or_ge (2 * k) n)

doubled_same : (f g k n m : ℕ) → 0 < k → k < m → n ≤ f + k → m ≤ g + k → doubled f k n < m → m ≤ n → doubled g k m ≡ doubled f k n
doubled_same zero g k n m z p q r s t = absurd (omega arith)
doubled_same (suc f) zero k n m z p q r s t = absurd (omega arith)
doubled_same (suc f) (suc g) k n m z p q r s t =
    ⊎_elim (λ h. let d = doubled_more f k n h in let e = doubled_ge f (2 * k) n in
    doubled_more g k m (omega arith) ∙ doubled_same f g (2 * k) n m (omega arith) (omega arith) (omega arith) (omega arith) (omega arith) t ∙ sym d)
    (λ h. doubled_stop (suc g) k m (omega arith) ∙ sym (doubled_stop (suc f) k n h))
    (lt_or_ge (2 * k) n)

-- each m above the split of n, up to n, has the split of n
pub split_same : (n m : ℕ) → 1 < n → split n < m → m ≤ n → split m ≡ split n
unfolding split
split_same n m h p q =
    let e = doubled_ge n 1 n in
    doubled_same n m 1 n m (omega arith) (omega arith) (omega arith) (omega arith) p q

-- the bound on the depth does not matter
shape_in_more : (f n : ℕ) → 1 < n → shape_in (suc f) n ≡ fork (shape_in f (split n)) (shape_in f (n - split n))
unfolding shape_in
shape_in_more f n h = rw (lt-ltb 1 n h, shape_in)

shape_in_stop : (f n : ℕ) → n ≤ 1 → shape_in f n ≡ one
unfolding shape_in
shape_in_stop zero n h = refl
shape_in_stop (suc f) n h = rw (le-ltb 1 n h, shape_in)

shape_in_same : (f g n : ℕ) → n ≤ f → n ≤ g → shape_in f n ≡ shape_in g n
unfolding shape_in
shape_in_same zero g n p q = sym (shape_in_stop g n (omega arith))
shape_in_same (suc f) zero n p q = shape_in_stop (suc f) n (omega arith)
shape_in_same (suc f) (suc g) n p q =
    ⊎_elim (λ h. let s = split_ends n h in
    shape_in_more f n h ∙ ap₂ fork (shape_in_same f g (split n) (omega arith) (omega arith)) (shape_in_same f g (n - split n) (omega arith) (omega arith)) ∙ sym (shape_in_more g n h))
    (λ h. shape_in_stop (suc f) n h ∙ sym (shape_in_stop (suc g) n h))
    (lt_or_ge 1 n)

pub shape_few : (n : ℕ) → n ≤ 1 → shape n ≡ one
unfolding shape
shape_few n h = shape_in_stop n n h

pub shape_one : shape 1 ≡ one
shape_one = shape_few 1 (omega arith)

pub shape_fork : (n : ℕ) → 1 < n → shape n ≡ fork (shape (split n)) (shape (n - split n))
unfolding shape
shape_fork zero h = absurd (omega arith)
shape_fork (suc m) h =
    let s = split_ends (suc m) h in
    shape_in_more m (suc m) h ∙ ap₂ fork (shape_in_same m (split (suc m)) (split (suc m)) (omega arith) (omega arith)) (shape_in_same m (suc m - split (suc m)) (suc m - split (suc m)) (omega arith) (omega arith))

-- what holds of one leaf, and of n > 1 leaves if of both parts, holds of all n > 0
below : (P : ℕ → Type 0) → P 1 → ((n : ℕ) → 1 < n → P (split n) → P (n - split n) → P n) → (f n : ℕ) → 0 < n → n ≤ f → P n
below P o s zero n p q = absurd (omega arith)
below P o s (suc f) zero p q = absurd (omega arith)
below P o s (suc f) (suc zero) p q = o
below P o s (suc f) (suc (suc n)) p q =
    let e = split_ends (suc (suc n)) (omega arith) in
    s (suc (suc n)) (omega arith) (below P o s f (split (suc (suc n))) (omega arith) (omega arith)) (below P o s f (suc (suc n) - split (suc (suc n))) (omega arith) (omega arith))

pub by_splits : (P : ℕ → Type 0) → P 1 → ((n : ℕ) → 1 < n → P (split n) → P (n - split n) → P n) → (n : ℕ) → 0 < n → P n
by_splits P o s n h = below P o s n n h (omega arith)

pub size_shape : (n : ℕ) → 0 < n → size (shape n) ≡ n
unfolding size
size_shape = by_splits (λ n. size (shape n) ≡ n) (rw shape_one) (λ n h p q. rw (shape_fork n h) (let e = split_ends n h in omega arith))
