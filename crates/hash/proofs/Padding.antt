-- How the code comes by the padded message: blocks that lie elsewhere, messages in two parts, the last blocks, and a hash value's bytes. Assumes nothing.
use mathlib.Core.Path.{◌≡◌, refl, sym, ap, ◌∙◌}
use mathlib.Core.List.{List, [], ◌∷◌, ◌++◌, append_assoc}
use Prim.Native.Nat.{ℕ, zero, suc, ◌+◌, ◌-◌, ◌*◌, ◌/◌, ◌%◌, ◌^◌, ◌<◌, ◌≤◌}
use native.Mathlib.Nat.{add-suc, add-zero, zero-add, div-one}
use native.Mathlib.Numerals.{add-one}
use native.Mathlib.Omega.{arith}
use lib.ListN.{length, take, drop, set, get_or, replicate, take-append-drop, length-append, length-set, length-replicate, replicate-append-replicate, get_or-append}
use lib.Seq.{paste, set-append_seam, take-append_seam, take-length, drop-append-add, drop_at, take_at, length-take-le, get_or-append-add}
use Rattle.octets.specs.Bytes.{put, put_within}
use Rattle.octets.specs.Numbers.{be}
use Rattle.octets.proofs.Numbers.{be_length}
use Rattle.octets.proofs.Putting.{put_length, put_then, set_put, put_in, pasted}
use Rattle.words.specs.declared.State.{State}
use Rattle.words.specs.Words.{word_from}
use Rattle.hash.specs.Message.{zeros, ending, padded, absorbed, hash_value, state_bytes}

-- ---- a hash value's bytes

word_bytes : (y : ℕ) → be 4 y ≡ (y / 2 ^ 24 % 256) ∷ (y / 2 ^ 16 % 256) ∷ (y / 2 ^ 8 % 256) ∷ (y % 256) ∷ []
unfolding be
word_bytes y = simp div-one

-- one byte behind those that were put
byte_next : (out v : List ℕ) (at x : ℕ) → at + length v < length out → set (put out at v) (at + length v) x ≡ put out at (v ++ (x ∷ []))
byte_next out v at x h = set_put (put out at v) (at + length v) x (rw (put_length out v at (omega arith)) h) ∙ put_then out v (x ∷ []) at (omega arith)

-- a word's four bytes, one behind the other
pub word_put : (out : List ℕ) (at x : ℕ) → at + 3 < length out →
    set (set (set (set out at (x / 2 ^ 24 % 256)) (at + 1) (x / 2 ^ 16 % 256)) (at + 2) (x / 2 ^ 8 % 256)) (at + 3) (x % 256) ≡ put out at (be 4 x)
word_put out at x h =
    let a = x / 2 ^ 24 % 256 in
    let b = x / 2 ^ 16 % 256 in
    let c = x / 2 ^ 8 % 256 in
    let d = x % 256 in
    let p = set_put out at a (omega arith) in
    let q = ap (λ (o : List ℕ). set o (at + 1) b) p ∙ byte_next out (a ∷ []) at b (omega arith) in
    let r = ap (λ (o : List ℕ). set o (at + 2) c) q ∙ byte_next out (a ∷ b ∷ []) at c (omega arith) in
    ap (λ (o : List ℕ). set o (at + 3) d) r ∙ byte_next out (a ∷ b ∷ c ∷ []) at d (omega arith) ∙ ap (put out at) (sym (word_bytes x))

-- what is put behind what was put at the start
next : (o p q v b : List ℕ) (k : ℕ) → length v ≡ k → p ≡ put o 0 v → q ≡ put p k b → q ≡ put o 0 (v ++ b)
next o p q v b k l e f =
    f ∙ ap (λ (x : List ℕ). put x k b) e ∙ ap (λ (j : ℕ). put (put o 0 v) j b) (sym l ∙ sym (zero-add (length v))) ∙ put_then o v b 0 (omega arith)

-- the words of a hash value, one behind the other
module _ (s : State) (o : List ℕ) where
  abbrev A : List ℕ
  A = be 4 s.a

  abbrev B : List ℕ
  B = be 4 s.b

  abbrev C : List ℕ
  C = be 4 s.c

  abbrev D : List ℕ
  D = be 4 s.d

  abbrev E : List ℕ
  E = be 4 s.e

  abbrev F : List ℕ
  F = be 4 s.f

  abbrev G : List ℕ
  G = be 4 s.g

  abbrev H : List ℕ
  H = be 4 s.h

  pub state_written : (a b c d e f g h : List ℕ) → a ≡ put o 0 A → b ≡ put a 4 B → c ≡ put b 8 C → d ≡ put c 12 D → e ≡ put d 16 E → f ≡ put e 20 F
      → g ≡ put f 24 G → h ≡ put g 28 H → h ≡ state_bytes s ++ drop 32 o
  unfolding be state_bytes
  state_written a b c d e f g h pa pb pc pd pe pf pg ph =
      let qb = next o a b A B 4 refl pa pb in
      let qc = next o b c (A ++ B) C 8 refl qb pc in
      let qd = next o c d ((A ++ B) ++ C) D 12 refl qc pd in
      let qe = next o d e (((A ++ B) ++ C) ++ D) E 16 refl qd pe in
      let qf = next o e f ((((A ++ B) ++ C) ++ D) ++ E) F 20 refl qe pf in
      let qg = next o f g (((((A ++ B) ++ C) ++ D) ++ E) ++ F) G 24 refl qf pg in
      next o g h ((((((A ++ B) ++ C) ++ D) ++ E) ++ F) ++ G) H 28 refl qg ph

-- ---- whole blocks: the last bytes r of a message of n bytes, with what follows

ending_length : (n : ℕ) → length (ending n) ≡ 9 + zeros n
unfolding ending
ending_length n = let l = be_length 8 (8 * n) in simp (length-append, length-replicate) (omega arith)

-- the zeros fill the last block
pub filled : (t : ℕ) → t < 64 → t + (9 + zeros t) ≡ 64 * ((t + 72) / 64)
filled t h = omega arith

pub last_length : (r : List ℕ) (n : ℕ) → n % 64 ≡ length r % 64 → length (r ++ ending n) ≡ 64 * ((length r + 72) / 64)
last_length r n e =
    let t : ℕ = length r % 64 in
    let h : t + (9 + zeros t) ≡ 64 * ((t + 72) / 64) = filled t (omega arith) in
    let z : zeros n ≡ zeros t = rw e (omega arith) in
    let b : (length r + 72) / 64 ≡ length r / 64 + (t + 72) / 64 = omega arith in
    let l : length (r ++ ending n) ≡ length r + length (ending n) = length-append r (ending n) in
    rw (l, ending_length n, z, b) (omega arith)

-- the same of two parts
pub parts_length : (x y : List ℕ) (n : ℕ) → n % 64 ≡ (length x + length y) % 64 → length ((x ++ y) ++ ending n) ≡ 64 * ((length x + length y + 72) / 64)
parts_length x y n e = let l = length-append x y in last_length (x ++ y) n (rw l e) ∙ rw l

-- ---- the array of the last blocks: zeros after what is written

blank : ℕ → List ℕ
blank n = replicate n 0

zeros_left : (n j : ℕ) → drop n (blank (n + j)) ≡ blank j
unfolding blank
zeros_left n j = rw (sym (replicate-append-replicate {A = ℕ} n j 0)) (drop_at (blank n) (blank j) n (length-replicate {A = ℕ} n 0))

-- the bytes b written after x
written : (x b : List ℕ) (j : ℕ) → paste (x ++ blank (length b + j)) (length x) b (length b) ≡ (x ++ b) ++ blank j
written x b j = rw (take-append_seam x, take-length b, drop-append-add x, zeros_left (length b) j)

-- two parts, one after the other
pub joined : (x y a : List ℕ) → a ≡ replicate (length a) 0 → length x + length y ≤ length a
    → paste (paste a 0 x (length x)) (length x) y (length y) ≡ (x ++ y) ++ replicate (length a - (length x + length y)) 0
unfolding blank
joined x y a e h =
    let j : ℕ = length a - (length x + length y) in
    let l : length a ≡ length x + (length y + j) = omega arith in
    let f : a ≡ blank (length x + (length y + j)) = e ∙ ap blank l in
    ap (λ (q : List ℕ). paste (paste q 0 x (length x)) (length x) y (length y)) f ∙ rw (written [] x (length y + j)) (written x y j)

blocks_left : (k z end : ℕ) → k < 120 → end ≡ k + (9 + z) → end ≡ 64 * ((k + 72) / 64) → 128 - k ≡ suc (z + (8 + (128 - end)))
blocks_left k z end h e f = let l : end ≤ 128 = omega arith in omega arith

-- a mark after x, and b after z zeros
marked : (x b : List ℕ) (z j : ℕ) → paste (set (x ++ blank (suc (z + (length b + j)))) (length x) 0x80) (length x + suc z) b (length b) ≡ (x ++ (0x80 ∷ (blank z ++ b))) ++ blank j
unfolding blank
marked x b z j =
    let y : List ℕ = x ++ (0x80 ∷ blank z) in
    let l : length y ≡ length x + suc z = length-append x (0x80 ∷ blank z) ∙ rw (length-replicate {A = ℕ} z 0) in
    let s : set (x ++ blank (suc (z + (length b + j)))) (length x) 0x80 ≡ y ++ blank (length b + j) =
    set-append_seam x 0 (blank (z + (length b + j))) 0x80 ∙ rw (sym (replicate-append-replicate {A = ℕ} z (length b + j) 0)) (sym (append_assoc x (0x80 ∷ blank z) (blank (length b + j)))) in
    rw (s, sym l, written y b j) (ap (λ (q : List ℕ). q ++ blank j) (append_assoc x (0x80 ∷ blank z) b))

-- the array d of two blocks, with the mark and the length b after x
pub packed : (x d b l : List ℕ) (n end : ℕ) → length x < 120 → n % 64 ≡ length x % 64 → end ≡ 64 * ((length x + 72) / 64)
    → d ≡ x ++ replicate (128 - length x) 0 → b ≡ be 8 (8 * n) → l ≡ paste (set d (length x) 0x80) (end - 8) b (length b)
    → take end l ≡ x ++ ending n
unfolding ending blank be
packed x d b l n end h m e p q r =
    let k : length (x ++ ending n) ≡ end = last_length x n m ∙ sym e in
    let f : end ≡ length x + (9 + zeros n) = sym k ∙ length-append x (ending n) ∙ ap (λ (i : ℕ). length x + i) (ending_length n) in
    let g : 128 - length x ≡ suc (zeros n + (8 + (128 - end))) = blocks_left (length x) (zeros n) end h f e in
    let o : end - 8 ≡ length x + suc (zeros n) = rw f (omega arith) in
    rw (r, p, q, g, o, marked x (be 8 (8 * n)) (zeros n) (128 - end)) (take_at (x ++ ending n) (blank (128 - end)) end k)

-- 0x01 and two hashes in an array of zeros, the mark and the length behind them
pub node_packed : (l r a a₁ a₂ a₃ b : List ℕ) → length l ≡ 32 → length r ≡ 32 → a ≡ replicate (length a) 0 → length a ≡ 128 → a₁ ≡ put_within (set a 0 1) 1 l
    → a₂ ≡ put_within a₁ 33 r → b ≡ be 8 520 → a₃ ≡ put_within (set a₂ 65 0x80) 120 b → take 128 a₃ ≡ (1 ∷ (l ++ r)) ++ ending 65
unfolding blank
node_packed l r a a₁ a₂ a₃ b hl hr zs la p₁ p₂ eb p₃ =
    let x : List ℕ = 1 ∷ (l ++ r) in
    let lx : length x ≡ 65 = omega (arith, length-append l r) in
    let s : set a 0 1 ≡ put a 0 (1 ∷ []) = set_put a 0 1 (omega arith) in
    let q₁ : a₁ ≡ put (set a 0 1) 1 l = p₁ ∙ put_in (set a 0 1) l 1 (simp length-set (omega arith)) in
    let e₁ : a₁ ≡ put a 0 (1 ∷ l) = next a (set a 0 1) a₁ (1 ∷ []) l 1 refl s q₁ in
    let l₁ : length a₁ ≡ 128 = ap length e₁ ∙ put_length a (1 ∷ l) 0 (omega arith) ∙ la in
    let e₂ : a₂ ≡ put a 0 x = next a a₁ a₂ (1 ∷ l) r 33 (omega arith) e₁ (p₂ ∙ put_in a₁ r 33 (omega arith)) in
    let l₂ : length a₂ ≡ 128 = ap length e₂ ∙ put_length a x 0 (omega arith) ∙ la in
    let z : drop 65 a ≡ replicate 63 0 = ap (drop 65) (zs ∙ ap (λ (k : ℕ). replicate k 0) la) ∙ zeros_left 65 63 in
    let k : 0 + length x ≡ 65 = omega arith in
    let m : 63 ≡ 128 - length x = omega arith in
    let d : a₂ ≡ x ++ replicate (128 - length x) 0 = e₂ ∙ ap (λ (j : ℕ). x ++ drop j a) k ∙ ap (λ (y : List ℕ). x ++ y) (z ∙ ap (λ (j : ℕ). replicate j 0) m) in
    let lb : length b ≡ 8 = ap length eb ∙ be_length 8 520 in
    let f : a₃ ≡ paste (set a₂ 65 0x80) 120 b (length b) = pasted (set a₂ 65 0x80) b 120 (simp length-set (omega arith)) p₃ in
    packed x a₂ b a₃ 65 128 (omega arith) (omega arith) (omega arith) d eb (rw lx f)

-- ---- words that lie elsewhere

module _ (a b : List ℕ) (p q : ℕ) (e : (i : ℕ) → i < 64 → get_or a (p + i) 0 ≡ get_or b (q + i) 0) where
  near : (t k : ℕ) → t < 16 → k < 4 → get_or a (p + 4 * t + k) 0 ≡ get_or b (q + 4 * t + k) 0
  near t k h l =
      let f : p + 4 * t + k ≡ p + (4 * t + k) = omega arith in
      let g : q + 4 * t + k ≡ q + (4 * t + k) = omega arith in
      rw (f, g) (e (4 * t + k) (omega arith))

  pub words_same : (t : ℕ) → t < 16 → word_from a p t ≡ word_from b q t
  words_same t h =
      rw (e (4 * t) (omega arith), near t 1 h (omega arith), near t 2 h (omega arith), near t 3 h (omega arith))

-- h and m, cut after the first p bytes of m
parts : (h m : List ℕ) (p : ℕ) → h ++ m ≡ (h ++ take p m) ++ drop p m
parts h m p = ap (λ (l : List ℕ). h ++ l) (sym (take-append-drop p m)) ∙ sym (append_assoc h (take p m) (drop p m))

-- ---- blocks taken in, by any block step that goes by a block's sixteen words alone

abbrev pub ByWords : (State → (ℕ → ℕ) → State) → Type 0
ByWords C = (x y : ℕ → ℕ) → ((t : ℕ) → t < 16 → x t ≡ y t) → (s : State) → C s x ≡ C s y

module _ (C : State → (ℕ → ℕ) → State) (same : ByWords C) where
  -- a block of one list is a block of another
  pub block_same : (a b : List ℕ) (p q : ℕ) (s : State) → ((i : ℕ) → i < 64 → get_or a (p + i) 0 ≡ get_or b (q + i) 0) → C s (word_from a p) ≡ C s (word_from b q)
  block_same a b p q s e = same (word_from a p) (word_from b q) (words_same a b p q e) s

  -- what follows the blocks changes nothing
  pub absorbed_front : (s : State) (a b : List ℕ) (n : ℕ) → 64 * n ≤ length a → absorbed C s (a ++ b) n ≡ absorbed C s a n
  unfolding absorbed
  absorbed_front s a b zero h = refl
  absorbed_front s a b (suc n) h =
      rw (absorbed_front s a b n (omega arith))
      (block_same (a ++ b) a (64 * n) (64 * n) (absorbed C s a n) (λ i l. get_or-append a b 0 (64 * n + i) (omega arith)))

  -- the blocks of a, and then those of b
  pub absorbed_more : (s : State) (a b : List ℕ) (i : ℕ) → length a ≡ 64 * i → (j : ℕ) → absorbed C s (a ++ b) (i + j) ≡ absorbed C (absorbed C s a i) b j
  unfolding absorbed
  absorbed_more s a b i e zero = rw (add-zero i) (absorbed_front s a b i (omega arith))
  absorbed_more s a b i e (suc j) =
      rw (add-suc i j, absorbed_more s a b i e j)
      (block_same (a ++ b) b (64 * (i + j)) (64 * j) (absorbed C (absorbed C s a i) b j)
      (λ k l. let f : 64 * (i + j) + k ≡ length a + (64 * j + k) = omega arith in rw f (get_or-append-add a b (64 * j + k) 0)))

  -- what lies in the first bytes of a list
  absorbed_taken : (s : State) (a p : List ℕ) (end n : ℕ) → take end a ≡ p → 64 * n ≤ length p → absorbed C s a n ≡ absorbed C s p n
  absorbed_taken s a p end n e h =
      let f : a ≡ p ++ drop end a = rw (sym e) (sym (take-append-drop end a)) in
      ap (λ (l : List ℕ). absorbed C s l n) f ∙ absorbed_front s p (drop end a) n h

  -- a first block: h, the first p bytes of m, and whatever follows them in d
  pub first_block : (s : State) (h m d y : List ℕ) (p : ℕ) → p ≤ length m → length h + p ≡ 64 → d ≡ (h ++ take p m) ++ y
      → C s (word_from d 0) ≡ absorbed C s (h ++ m) 1
  unfolding absorbed
  first_block s h m d y p k e f =
      let x : List ℕ = h ++ take p m in
      let l : length x ≡ 64 = length-append h (take p m) ∙ rw (length-take-le p m k) e in
      rw (f, parts h m p) (absorbed_front s x y 1 (omega arith) ∙ sym (absorbed_front s x (drop p m) 1 (omega arith)))

  -- the last one or two blocks: p, which stand in an array of two
  module _ (s : State) (a p : List ℕ) (k end : ℕ) (e : take end a ≡ p) (f : end ≡ (k + 72) / 64 * 64) (l : length p ≡ 64 * ((k + 72) / 64)) where
    pub one_block : end ≤ 64 → C s (word_from a 0) ≡ absorbed C s p ((k + 72) / 64)
    unfolding absorbed
    one_block h = let n : (k + 72) / 64 ≡ 1 = omega arith in rw n (absorbed_taken s a p end 1 e (omega arith))

    pub two_blocks : 64 < end → k < 120 → C (C s (word_from a 0)) (word_from a 64) ≡ absorbed C s p ((k + 72) / 64)
    unfolding absorbed
    two_blocks h m = let n : (k + 72) / 64 ≡ 2 = omega arith in rw n (absorbed_taken s a p end 2 e (omega arith))

  -- one block more of m, which stands after x
  pub next_block : (s : State) (x m : List ℕ) (p i : ℕ) → length x + p ≡ 64 * i → p + 64 ≤ length m
      → C (absorbed C s (x ++ m) i) (word_from m p) ≡ absorbed C s (x ++ m) (i + 1)
  unfolding absorbed
  next_block s x m p i e h =
      rw (add-one i)
      (sym
      (block_same (x ++ m) m (64 * i) p (absorbed C s (x ++ m) i)
      (λ k l. let f : 64 * i + k ≡ length x + (p + k) = omega arith in rw f (get_or-append-add x m (p + k) 0))))

  -- ---- the last blocks of a message: r, after the i blocks x

  pub hash_ends : (s : State) (x r : List ℕ) (i n : ℕ) → length x ≡ 64 * i → n ≡ length x + length r
      → absorbed C (absorbed C s x i) (r ++ ending n) ((length r + 72) / 64) ≡ hash_value C s (x ++ r)
  unfolding hash_value padded
  hash_ends s x r i n e f =
      let l : length (x ++ r) ≡ n = length-append x r ∙ sym f in
      let z : length (r ++ ending n) ≡ 64 * ((length r + 72) / 64) = last_length r n (omega arith) in
      let y : length (x ++ (r ++ ending n)) ≡ length x + length (r ++ ending n) = length-append x (r ++ ending n) in
      let c : length (x ++ (r ++ ending n)) / 64 ≡ i + (length r + 72) / 64 = omega arith in
      rw (l, append_assoc x r (ending n), c) (sym (absorbed_more s x (r ++ ending n) i e ((length r + 72) / 64)))

  -- the same where x is a first part h and the first p bytes of m, v the value after it, and r what is left of m, after an empty part
  pub long_ends : (s v : State) (h m e r : List ℕ) (p i n : ℕ) → p ≤ length m → length h + p ≡ 64 * i → n ≡ length h + length m
      → v ≡ absorbed C s (h ++ m) i → e ≡ [] → r ≡ drop p m → absorbed C v ((e ++ r) ++ ending n) ((length e + length r + 72) / 64) ≡ hash_value C s (h ++ m)
  long_ends s v h m e r p i n k f o q a b =
      let x : List ℕ = h ++ take p m in
      let g : h ++ m ≡ x ++ drop p m = parts h m p in
      let l : length x ≡ 64 * i = length-append h (take p m) ∙ rw (length-take-le p m k) f in
      let z : n ≡ length x + length (drop p m) = o ∙ sym (length-append h m) ∙ ap length g ∙ length-append x (drop p m) in
      rw (q, a, b, zero-add (length (drop p m)), g, absorbed_front s x (drop p m) i (omega arith)) (hash_ends s x (drop p m) i n l z)

  -- the same of a message that is all last bytes, in two parts
  pub short_ends : (s : State) (h m : List ℕ) (n : ℕ) → n ≡ length h + length m
      → absorbed C s ((h ++ m) ++ ending n) ((length h + length m + 72) / 64) ≡ hash_value C s (h ++ m)
  unfolding absorbed
  short_ends s h m n e = rw (length-append h m) at (hash_ends s [] (h ++ m) 0 n refl (rw (length-append h m) (omega arith)))

  -- the two blocks of a node
  pub node_ends : (s : State) (l r a : List ℕ) → length a ≡ 128 → take 128 a ≡ (1 ∷ (l ++ r)) ++ ending 65
      → C (C s (word_from a 0)) (word_from a 64) ≡ hash_value C s (1 ∷ (l ++ r))
  node_ends s l r a h e =
      let n : length (take 128 a) ≡ 128 = length-take-le 128 a (omega arith) in
      let m : length ((1 ∷ (l ++ r)) ++ ending 65) ≡ length (1 ∷ (l ++ r)) + length (ending 65) = length-append (1 ∷ (l ++ r)) (ending 65) in
      let k : length (1 ∷ l) + length r ≡ 65 = omega (arith, n, m, ap length e, length-append l r, ending_length 65) in
      two_blocks s a ((1 ∷ (l ++ r)) ++ ending 65) (length (1 ∷ l) + length r) 128 e (omega arith) (parts_length (1 ∷ l) r 65 (omega arith)) (omega arith) (omega arith)
      ∙ short_ends s (1 ∷ l) r 65 (omega arith)
