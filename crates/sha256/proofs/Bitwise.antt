-- Ch and Maj of section 4.1.2 in fewer operations. Assumes nothing.
use mathlib.Core.Path.{◌≡◌, refl}
use Prim.Native.Nat.{ℕ, ◌-◌, ◌^◌, ◌<◌}
use lib.Bits.{bit_and, bit_xor}
use Rattle.words.proofs.Bitwise.{ByBits, same_by_bits, and_half, and_low, xor_half, xor_low, not_half, not_low, three_bits}
use Rattle.sha256.specs.Sha256.{choose, majority}

-- ---- Ch

choose_at : ℕ → ℕ → ℕ → ℕ → ℕ
choose_at k x y z = bit_xor (bit_and x y) (bit_and (2 ^ k - 1 - x) z)

choose_by : ℕ → ℕ → ℕ → ℕ → ℕ
choose_by k x y z = bit_xor z (bit_and x (bit_xor y z))

choose_at_bits : ByBits choose_at
unfolding choose_at
choose_at_bits =
    record {
      half = λ k x y z h. simp (xor_half, and_half, not_half k x h);
      low = λ k x y z h. simp (xor_low, and_low, not_low k x h);
    }

choose_by_bits : ByBits choose_by
unfolding choose_by
choose_by_bits = record { half = λ k x y z h. simp (xor_half, and_half); low = λ k x y z h. simp (xor_low, and_low) }

pub choose_by_lem : (x y z : ℕ) → x < 2 ^ 32 → y < 2 ^ 32 → z < 2 ^ 32 → bit_xor z (bit_and x (bit_xor y z)) ≡ choose x y z
unfolding choose_at choose_by
choose_by_lem =
    same_by_bits choose_by choose_at choose_by_bits choose_at_bits refl (three_bits (λ x y z. choose_by 1 x y z ≡ choose_at 1 x y z) refl refl refl refl refl refl refl refl) 32

-- ---- Maj

majority_at : ℕ → ℕ → ℕ → ℕ → ℕ
majority_at k x y z = majority x y z

majority_by : ℕ → ℕ → ℕ → ℕ → ℕ
majority_by k x y z = bit_xor y (bit_and (bit_xor x y) (bit_xor y z))

majority_at_bits : ByBits majority_at
unfolding majority_at
majority_at_bits = record { half = λ k x y z h. simp (xor_half, and_half); low = λ k x y z h. simp (xor_low, and_low) }

majority_by_bits : ByBits majority_by
unfolding majority_by
majority_by_bits = record { half = λ k x y z h. simp (xor_half, and_half); low = λ k x y z h. simp (xor_low, and_low) }

pub majority_by_lem : (x y z : ℕ) → x < 2 ^ 32 → y < 2 ^ 32 → z < 2 ^ 32 → bit_xor y (bit_and (bit_xor x y) (bit_xor y z)) ≡ majority x y z
unfolding majority_at majority_by
majority_by_lem =
    same_by_bits majority_by majority_at majority_by_bits majority_at_bits refl (three_bits (λ x y z. majority_by 1 x y z ≡ majority_at 1 x y z) refl refl refl refl refl refl refl refl) 32
