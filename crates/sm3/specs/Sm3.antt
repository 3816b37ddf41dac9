-- SM3's block step (GB/T 32905-2016). A block is a function that gives its sixteen words. Assumes nothing.
use Rattle.std.specs.Prelude.{cond, List, ◌++◌, ℕ, zero, suc, ◌+◌, ◌-◌, ◌%◌, ltb, get_or}
use Rattle.std.specs.Int.Bits.{bit_and, bit_or, bit_xor}
use Rattle.words.specs.declared.State.{State}
use Rattle.words.specs.Words.{add32, rotl, not32}
use Rattle.words.specs.Known.{value, listed}

-- ---- 4.1: the initial value

abbrev pub initial : State
initial =
    record {
      a = 0x7380166f;
      b = 0x4914b2b9;
      c = 0x172442d7;
      d = 0xda8a0600;
      e = 0xa96f30bc;
      f = 0x163138aa;
      g = 0xe38dee4d;
      h = 0xb0fb0e4e;
    }

-- ---- 4.2: the constant Tj, and Tj <<< (j mod 32) as a round takes it

abbrev pub t_of : ℕ → ℕ
t_of j = cond (ltb j 16) 0x79cc4519 0x7a879d8a

unfoldable pub constant : ℕ → ℕ
constant j = rotl (j % 32) (t_of j)

-- ---- 4.3: the boolean functions FFj and GGj

abbrev pub parity : ℕ → ℕ → ℕ → ℕ
parity x y z = bit_xor (bit_xor x y) z

abbrev pub majority : ℕ → ℕ → ℕ → ℕ
majority x y z = bit_or (bit_or (bit_and x y) (bit_and x z)) (bit_and y z)

abbrev pub choose : ℕ → ℕ → ℕ → ℕ
choose x y z = bit_or (bit_and x y) (bit_and (not32 x) z)

abbrev pub ff : ℕ → ℕ → ℕ → ℕ → ℕ
ff j x y z = cond (ltb j 16) (parity x y z) (majority x y z)

abbrev pub gg : ℕ → ℕ → ℕ → ℕ → ℕ
gg j x y z = cond (ltb j 16) (parity x y z) (choose x y z)

-- ---- 4.4: the permutations

abbrev pub p0 : ℕ → ℕ
p0 x = bit_xor (bit_xor x (rotl 9 x)) (rotl 17 x)

abbrev pub p1 : ℕ → ℕ
p1 x = bit_xor (bit_xor x (rotl 15 x)) (rotl 23 x)

-- ---- 5.3.2: the expansion of a block x into W0 to W67 and W'0 to W'63

-- a word after the sixteenth, from those 16, 9, 3, 13 and 6 places before it
abbrev pub next_word : ℕ → ℕ → ℕ → ℕ → ℕ → ℕ
next_word w16 w9 w3 w13 w6 = bit_xor (bit_xor (p1 (bit_xor (bit_xor w16 w9) (rotl 15 w3))) (rotl 7 w13)) w6

-- Wj, where ws are the words before it
unfoldable pub word_after : (ℕ → ℕ) → List ℕ → ℕ → ℕ
word_after x ws j =
    cond (ltb j 16) (x j) (next_word (get_or ws (j - 16) 0) (get_or ws (j - 9) 0) (get_or ws (j - 3) 0) (get_or ws (j - 13) 0) (get_or ws (j - 6) 0))

-- Wj, and W'j
unfoldable pub word : (ℕ → ℕ) → ℕ → ℕ
word x = value (word_after x)

unfoldable pub pair : (ℕ → ℕ) → ℕ → ℕ
pair x j = bit_xor (word x j) (word x (j + 4))

-- W0 to W67 and then W'0 to W'63
unfoldable pub schedule : (ℕ → ℕ) → List ℕ
schedule x = listed (word x) 68 ++ listed (pair x) 64

-- ---- 5.3.3: SS1, SS2, TT1 and TT2, where f and g are FFj and GGj of the words, k the constant as a round takes it, w is Wj and v is W'j

abbrev pub ss1_of : ℕ → ℕ → ℕ → ℕ
ss1_of a e k = rotl 7 (add32 (add32 (rotl 12 a) e) k)

abbrev pub ss2_of : ℕ → ℕ → ℕ
ss2_of ss1 a = bit_xor ss1 (rotl 12 a)

abbrev pub tt1_of : ℕ → ℕ → ℕ → ℕ → ℕ
tt1_of f d ss2 v = add32 (add32 (add32 f d) ss2) v

abbrev pub tt2_of : ℕ → ℕ → ℕ → ℕ → ℕ
tt2_of g h ss1 w = add32 (add32 (add32 g h) ss1) w

-- the words after a round, and round j
unfoldable pub turned : State → ℕ → ℕ → ℕ → ℕ → ℕ → State
turned s f g k w v =
    let ss1 = ss1_of s.a s.e k in
    record {
      a = tt1_of f s.d (ss2_of ss1 s.a) v;
      b = s.a;
      c = rotl 9 s.b;
      d = s.c;
      e = p0 (tt2_of g s.h ss1 w);
      f = s.e;
      g = rotl 19 s.f;
      h = s.g;
    }

unfoldable pub round : State → ℕ → ℕ → ℕ → State
round s j w v = turned s (ff j s.a s.b s.c) (gg j s.e s.f s.g) (constant j) w v

-- the first n rounds, where w and v are W and W'
unfoldable pub rounds : (ℕ → ℕ) → (ℕ → ℕ) → State → ℕ → State
rounds w v s zero = s
rounds w v s (suc j) = round (rounds w v s j) j (w j) (v j)

-- the hash value after block x, from s before it
unfoldable pub xor_state : State → State → State
xor_state v s =
    record {
      a = bit_xor v.a s.a;
      b = bit_xor v.b s.b;
      c = bit_xor v.c s.c;
      d = bit_xor v.d s.d;
      e = bit_xor v.e s.e;
      f = bit_xor v.f s.f;
      g = bit_xor v.g s.g;
      h = bit_xor v.h s.h;
    }

unfoldable pub compress : State → (ℕ → ℕ) → State
compress s x = xor_state (rounds (word x) (pair x) s 64) s
