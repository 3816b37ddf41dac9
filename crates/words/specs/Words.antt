-- Words of 32 bits as numbers below 2 ^ 32, and how bytes make them (FIPS 180-4, sections 2.2.2, 3.1 and 3.2; GB/T 32905-2016, section 3). Assumes nothing.
use Rattle.std.specs.Prelude.{ℕ, ◌+◌, ◌-◌, ◌*◌, ◌/◌, ◌%◌, ◌^◌, List, [], ◌∷◌, bit_or, slice_index}
use Rattle.octets.specs.Numbers.{unbe}

-- x + y modulo 2 ^ 32
abbrev pub add32 : ℕ → ℕ → ℕ
add32 x y = (x + y) % 2 ^ 32

-- SHR and ROTR, by n
abbrev pub shr : ℕ → ℕ → ℕ
shr n x = x / 2 ^ n

abbrev pub rotr : ℕ → ℕ → ℕ
rotr n x = bit_or (x / 2 ^ n) (x * 2 ^ (32 - n) % 2 ^ 32)

-- x <<< n
abbrev pub rotl : ℕ → ℕ → ℕ
rotl n x = bit_or (x * 2 ^ n % 2 ^ 32) (x / 2 ^ (32 - n))

-- the complement
abbrev pub not32 : ℕ → ℕ
not32 x = 2 ^ 32 - 1 - x

-- word t of what starts at byte p of m: the number of four bytes
abbrev pub word_from : List ℕ → ℕ → ℕ → ℕ
word_from m p t = unbe (slice_index m (p + 4 * t) ∷ slice_index m (p + 4 * t + 1) ∷ slice_index m (p + 4 * t + 2) ∷ slice_index m (p + 4 * t + 3) ∷ [])
