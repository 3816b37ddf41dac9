-- SHA-256's block step (FIPS 180-4). A block is a function that gives its sixteen words. Assumes nothing.
use Rattle.std.specs.Prelude.{cond, List, [], ◌∷◌, ℕ, zero, suc, ◌-◌, ltb, get_or}
use Rattle.std.specs.Int.Bits.{bit_and, bit_xor}
use Rattle.words.specs.declared.State.{State}
use Rattle.words.specs.Words.{add32, shr, rotr, not32}
use Rattle.words.specs.Known.{course, value}

-- ---- 4.1.2: the six functions

abbrev pub choose : ℕ → ℕ → ℕ → ℕ
choose x y z = bit_xor (bit_and x y) (bit_and (not32 x) z)

abbrev pub majority : ℕ → ℕ → ℕ → ℕ
majority x y z = bit_xor (bit_xor (bit_and x y) (bit_and x z)) (bit_and y z)

abbrev pub big_sigma0 : ℕ → ℕ
big_sigma0 x = bit_xor (bit_xor (rotr 2 x) (rotr 13 x)) (rotr 22 x)

abbrev pub big_sigma1 : ℕ → ℕ
big_sigma1 x = bit_xor (bit_xor (rotr 6 x) (rotr 11 x)) (rotr 25 x)

abbrev pub small_sigma0 : ℕ → ℕ
small_sigma0 x = bit_xor (bit_xor (rotr 7 x) (rotr 18 x)) (shr 3 x)

abbrev pub small_sigma1 : ℕ → ℕ
small_sigma1 x = bit_xor (bit_xor (rotr 17 x) (rotr 19 x)) (shr 10 x)

-- ---- 4.2.2: the constants K0 to K63

unfoldable pub constants : List ℕ
constants =
    0x428a2f98 ∷ 0x71374491 ∷ 0xb5c0fbcf ∷ 0xe9b5dba5 ∷ 0x3956c25b ∷ 0x59f111f1 ∷ 0x923f82a4 ∷ 0xab1c5ed5 ∷
    0xd807aa98 ∷ 0x12835b01 ∷ 0x243185be ∷ 0x550c7dc3 ∷ 0x72be5d74 ∷ 0x80deb1fe ∷ 0x9bdc06a7 ∷ 0xc19bf174 ∷
    0xe49b69c1 ∷ 0xefbe4786 ∷ 0x0fc19dc6 ∷ 0x240ca1cc ∷ 0x2de92c6f ∷ 0x4a7484aa ∷ 0x5cb0a9dc ∷ 0x76f988da ∷
    0x983e5152 ∷ 0xa831c66d ∷ 0xb00327c8 ∷ 0xbf597fc7 ∷ 0xc6e00bf3 ∷ 0xd5a79147 ∷ 0x06ca6351 ∷ 0x14292967 ∷
    0x27b70a85 ∷ 0x2e1b2138 ∷ 0x4d2c6dfc ∷ 0x53380d13 ∷ 0x650a7354 ∷ 0x766a0abb ∷ 0x81c2c92e ∷ 0x92722c85 ∷
    0xa2bfe8a1 ∷ 0xa81a664b ∷ 0xc24b8b70 ∷ 0xc76c51a3 ∷ 0xd192e819 ∷ 0xd6990624 ∷ 0xf40e3585 ∷ 0x106aa070 ∷
    0x19a4c116 ∷ 0x1e376c08 ∷ 0x2748774c ∷ 0x34b0bcb5 ∷ 0x391c0cb3 ∷ 0x4ed8aa4a ∷ 0x5b9cca4f ∷ 0x682e6ff3 ∷
    0x748f82ee ∷ 0x78a5636f ∷ 0x84c87814 ∷ 0x8cc70208 ∷ 0x90befffa ∷ 0xa4506ceb ∷ 0xbef9a3f7 ∷ 0xc67178f2 ∷ []

-- ---- 5.3.3: the initial hash value

abbrev pub initial : State
initial =
    record {
      a = 0x6a09e667;
      b = 0xbb67ae85;
      c = 0x3c6ef372;
      d = 0xa54ff53a;
      e = 0x510e527f;
      f = 0x9b05688c;
      g = 0x1f83d9ab;
      h = 0x5be0cd19;
    }

-- ---- 6.2.2, step 1: the message schedule of a block x

-- a word after the sixteenth, from those 2, 7, 15 and 16 places before it
abbrev pub next_word : ℕ → ℕ → ℕ → ℕ → ℕ
next_word w2 w7 w15 w16 = add32 (add32 (add32 (small_sigma1 w2) w7) (small_sigma0 w15)) w16

-- Wt, where ws are the words before it
unfoldable pub word_after : (ℕ → ℕ) → List ℕ → ℕ → ℕ
word_after x ws t =
    cond (ltb t 16) (x t) (next_word (get_or ws (t - 2) 0) (get_or ws (t - 7) 0) (get_or ws (t - 15) 0) (get_or ws (t - 16) 0))

-- Wt, and W0 to W63
unfoldable pub word : (ℕ → ℕ) → ℕ → ℕ
word x = value (word_after x)

unfoldable pub schedule : (ℕ → ℕ) → List ℕ
schedule x = course (word_after x) 64

-- ---- 6.2.2, steps 2 and 3: a round with its constant and word, and the first n rounds

abbrev pub t1_of : ℕ → ℕ → ℕ → ℕ → ℕ → ℕ → ℕ
t1_of e f g h k w = add32 (add32 (add32 (add32 h (big_sigma1 e)) (choose e f g)) k) w

abbrev pub t2_of : ℕ → ℕ → ℕ → ℕ
t2_of a b c = add32 (big_sigma0 a) (majority a b c)

unfoldable pub round : State → ℕ → ℕ → State
round s k w =
    let t1 = t1_of s.e s.f s.g s.h k w in
    record {
      a = add32 t1 (t2_of s.a s.b s.c);
      b = s.a;
      c = s.b;
      d = s.c;
      e = add32 s.d t1;
      f = s.e;
      g = s.f;
      h = s.g;
    }

unfoldable pub rounds : (ℕ → ℕ) → State → ℕ → State
rounds w s zero = s
rounds w s (suc t) = round (rounds w s t) (get_or constants t 0) (w t)

-- ---- 6.2.2, step 4: the hash value after block x, from s before it

unfoldable pub add_state : State → State → State
add_state v s =
    record {
      a = add32 v.a s.a;
      b = add32 v.b s.b;
      c = add32 v.c s.c;
      d = add32 v.d s.d;
      e = add32 v.e s.e;
      f = add32 v.f s.f;
      g = add32 v.g s.g;
      h = add32 v.h s.h;
    }

unfoldable pub compress : State → (ℕ → ℕ) → State
compress s x = add_state (rounds (word x) s 64) s
