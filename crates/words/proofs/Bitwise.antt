-- Two functions of three words that go bit by bit are equal if they agree on bits. Assumes nothing.
use Rattle.std.proofs.Common.{◌≡◌, ℕ, zero, suc, ◌-◌, ◌*◌, ◌/◌, ◌%◌, ◌^◌, ◌<◌, sym, ◌∙◌, pow-suc, div-add-mod', arith}
use lib.Bits.{bit_and, bit_or, bit_xor, and_shr, and_mod, or_shr, or_mod, xor_shr, xor_mod}

-- f at k bits: half of its value is that of the halves, and its lowest bit that of the lowest bits
pub record ByBits (f : ℕ → ℕ → ℕ → ℕ → ℕ) : Type 0 where
  pub half : (k x y z : ℕ) → x < 2 ^ suc k → f (suc k) x y z / 2 ≡ f k (x / 2) (y / 2) (z / 2)
  pub low : (k x y z : ℕ) → x < 2 ^ suc k → f (suc k) x y z % 2 ≡ f 1 (x % 2) (y % 2) (z % 2)

module _ (f g : ℕ → ℕ → ℕ → ℕ → ℕ) (p : ByBits f) (q : ByBits g) (none : f 0 0 0 0 ≡ g 0 0 0 0)
    (bits : (x y z : ℕ) → x < 2 → y < 2 → z < 2 → f 1 x y z ≡ g 1 x y z) where
  pub same_by_bits : (k x y z : ℕ) → x < 2 ^ k → y < 2 ^ k → z < 2 ^ k → f k x y z ≡ g k x y z
  same_by_bits zero x y z h i j =
      let a : x ≡ 0 = omega arith in
      let b : y ≡ 0 = omega arith in
      let c : z ≡ 0 = omega arith in
      rw (a, b, c) none
  same_by_bits (suc k) x y z h i j =
      let e : 2 ^ suc k ≡ 2 ^ k * 2 = pow-suc 2 k in
      let u = same_by_bits k (x / 2) (y / 2) (z / 2) (omega arith) (omega arith) (omega arith) in
      let v = bits (x % 2) (y % 2) (z % 2) (omega arith) (omega arith) (omega arith) in
      sym (div-add-mod' (f (suc k) x y z) 2)
      ∙ rw (p.half k x y z h, p.low k x y z h, u, v, sym (q.half k x y z h), sym (q.low k x y z h)) (div-add-mod' (g (suc k) x y z) 2)

-- ---- the operations, halved

pub and_half : (a b : ℕ) → bit_and a b / 2 ≡ bit_and (a / 2) (b / 2)
and_half a b = and_shr a b 1

pub and_low : (a b : ℕ) → bit_and a b % 2 ≡ bit_and (a % 2) (b % 2)
and_low a b = and_mod a b 1

pub or_half : (a b : ℕ) → bit_or a b / 2 ≡ bit_or (a / 2) (b / 2)
or_half a b = or_shr a b 1

pub or_low : (a b : ℕ) → bit_or a b % 2 ≡ bit_or (a % 2) (b % 2)
or_low a b = or_mod a b 1

pub xor_half : (a b : ℕ) → bit_xor a b / 2 ≡ bit_xor (a / 2) (b / 2)
xor_half a b = xor_shr a b 1

pub xor_low : (a b : ℕ) → bit_xor a b % 2 ≡ bit_xor (a % 2) (b % 2)
xor_low a b = xor_mod a b 1

module _ (k x : ℕ) (h : x < 2 ^ suc k) where
  pub not_half : (2 ^ suc k - 1 - x) / 2 ≡ 2 ^ k - 1 - x / 2
  not_half = let e : 2 ^ suc k ≡ 2 ^ k * 2 = pow-suc 2 k in omega arith

  pub not_low : (2 ^ suc k - 1 - x) % 2 ≡ 2 ^ 1 - 1 - x % 2
  not_low = let e : 2 ^ suc k ≡ 2 ^ k * 2 = pow-suc 2 k in omega arith

-- ---- a statement about three bits

one_bit : (P : ℕ → Type 0) → P 0 → P 1 → (x : ℕ) → x < 2 → P x
one_bit P a b zero h = a
one_bit P a b (suc zero) h = b
one_bit P a b (suc (suc x)) h = absurd (omega arith)

module _ (P : ℕ → ℕ → ℕ → Type 0) where
  pub three_bits : P 0 0 0 → P 0 0 1 → P 0 1 0 → P 0 1 1 → P 1 0 0 → P 1 0 1 → P 1 1 0 → P 1 1 1 → (x y z : ℕ) → x < 2 → y < 2 → z < 2 → P x y z
  three_bits a b c d e f g h x y z i j k =
      one_bit (λ (u : ℕ). P u y z)
      (one_bit (λ (v : ℕ). P 0 v z) (one_bit (P 0 0) a b z k) (one_bit (P 0 1) c d z k) y j)
      (one_bit (λ (v : ℕ). P 1 v z) (one_bit (P 1 0) e f z k) (one_bit (P 1 1) g h z k) y j)
      x i
