-- The laws of heads joined in a buffer: how the first is read, and that heads that fit their fields are read back. Assumes nothing.
use mathlib.Core.Path.{◌≡◌, refl, sym, ap, ◌∙◌}
use mathlib.Core.Logic.{⊎_elim}
use mathlib.Core.Bool.{cond}
use mathlib.Core.List.{List, [], ◌++◌}
use Prim.Native.Nat.{ℕ, zero, suc, ◌+◌, ◌-◌, ◌*◌, ◌/◌, ◌%◌, ◌^◌, ◌≤◌, ◌<◌}
use native.Mathlib.Omega.{arith}
use lib.Dec.{eqb}
use lib.ListN.{length, drop, length-append, length-drop}
use lib.Seq.{take_at, drop_at, drop-drop}
use borrow.Author.Tests.{lt-ltb, le-ltb, eq-eqb, ne_eqb}
use Rattle.octets.specs.Numbers.{be}
use Rattle.octets.proofs.Numbers.{be_length, unbe_be}
use Rattle.octets.proofs.Order.{lt_or_ge}
use Rattle.auditor.specs.Heads.{Heads, end, truncated, then, joined_heads, head_size, head_root, head_count, head_path, head_bytes, heads_in, heads_of}

-- the first head is whole, or cut short
pub bytes_whole : (s : List ℕ) → 42 + 32 * head_count s ≤ length s → head_bytes s ≡ 42 + 32 * head_count s
unfolding head_bytes
bytes_whole s h = rw (le-ltb (length s) 42 (omega arith), le-ltb (length s - 42) (32 * head_count s) (omega arith))

pub bytes_truncated : (s : List ℕ) → length s < 42 + 32 * head_count s → head_bytes s ≡ 0
unfolding head_bytes
bytes_truncated s h =
    ⊎_elim (λ l. rw (lt-ltb (length s) 42 l))
    (λ l. rw (le-ltb (length s) 42 l, lt-ltb (length s - 42) (32 * head_count s) (omega arith)))
    (lt_or_ge (length s) 42)

-- a whole head has bytes, and they are there
pub bytes_there : (s : List ℕ) → (head_bytes s ≡ 0 → ⊥) → (head_bytes s ≡ 42 + 32 * head_count s) × (42 + 32 * head_count s ≤ length s)
bytes_there s z =
    ⊎_elim (λ l. absurd (z (bytes_truncated s l))) (λ l. (bytes_whole s l, l)) (lt_or_ge (length s) (42 + 32 * head_count s))

pub bytes_least : (s : List ℕ) → (head_bytes s ≡ 0 → ⊥) → (42 ≤ head_bytes s) × (head_bytes s ≤ length s)
bytes_least s z = let b = bytes_there s z in (omega arith, omega arith)

-- the bound does not matter, if it is long enough
fuel : (f g : ℕ) (s : List ℕ) → length s ≤ f → length s ≤ g → heads_in f s ≡ heads_in g s
unfolding heads_in
fuel zero zero s h k = refl
fuel zero (suc g) s h k = rw (eq-eqb (length s) 0 (omega arith))
fuel (suc f) zero s h k = rw (eq-eqb (length s) 0 (omega arith))
fuel (suc f) (suc g) s h k =
    ⊎_elim (λ l.
    let b : head_bytes s ≡ 0 = omega arith in
    rw (eq-eqb (head_bytes s) 0 b))
    (λ l.
    let d = length-drop (head_bytes s) s in
    let e = bytes_least s (λ z. omega arith) in
    ap (λ (hs : Heads).
    cond (eqb (length s) 0) end
    (cond (eqb (head_bytes s) 0) truncated
    (then (head_size s) (head_root s) (head_path s) hs)))
    (fuel f g (drop (head_bytes s) s) (omega arith) (omega arith)))
    (lt_or_ge (head_bytes s) 1)

pub heads_end : (s : List ℕ) → length s ≡ 0 → heads_of s ≡ end
unfolding heads_in
heads_end s e = rw e

opened : (s : List ℕ) → heads_of s ≡ heads_in (suc (length s)) s
opened s = fuel (length s) (suc (length s)) s (omega arith) (omega arith)

pub heads_truncated : (s : List ℕ) → (length s ≡ 0 → ⊥) → head_bytes s ≡ 0 → heads_of s ≡ truncated
unfolding heads_in
heads_truncated s z e = opened s ∙ rw (ne_eqb (length s) 0 z, eq-eqb (head_bytes s) 0 e)

pub heads_then : (s : List ℕ) → (head_bytes s ≡ 0 → ⊥) → heads_of s ≡ then (head_size s) (head_root s) (head_path s) (heads_of (drop (head_bytes s) s))
unfolding heads_in
heads_then s z =
    let b = bytes_least s z in
    let d = length-drop (head_bytes s) s in
    opened s ∙ rw (ne_eqb (length s) 0 (λ e. omega arith), ne_eqb (head_bytes s) 0 z)
    (ap (then (head_size s) (head_root s) (head_path s)) (fuel (length s) (length (drop (head_bytes s) s)) (drop (head_bytes s) s) (omega arith) (omega arith)))

-- heads that fit their fields, all of them whole
unfoldable pub Fits : Heads → Type 0
Fits end = Unit {0}
Fits truncated = ⊥
Fits (then size root path hs) = ((size < 256 ^ 8) × (length root ≡ 32) × (length path % 32 ≡ 0) × (length path / 32 < 65536)) × Fits hs

skip : (a b : List ℕ) (i j : ℕ) → length a ≡ i → drop (i + j) (a ++ b) ≡ drop j b
skip a b i j e = sym (drop-drop j i (a ++ b)) ∙ ap (drop j) (drop_at a b i e)

module _ (size : ℕ) (root path rest : List ℕ) (small : size < 256 ^ 8) (root_32 : length root ≡ 32) (even : length path % 32 ≡ 0) (few : length path / 32 < 65536) where
  count : ℕ
  count = length path / 32

  after_root : List ℕ
  after_root = be 2 count ++ (path ++ rest)

  all : List ℕ
  all = be 8 size ++ (root ++ after_root)

  reads_size : head_size all ≡ size
  unfolding all
  reads_size = rw (take_at (be 8 size) (root ++ after_root) 8 (be_length 8 size)) (unbe_be 8 size small)

  reads_root : head_root all ≡ root
  unfolding all
  reads_root = rw (drop_at (be 8 size) (root ++ after_root) 8 (be_length 8 size)) (take_at root after_root 32 root_32)

  to_count : drop 40 all ≡ after_root
  unfolding all
  to_count = skip (be 8 size) (root ++ after_root) 8 32 (be_length 8 size) ∙ drop_at root after_root 32 root_32

  reads_count : head_count all ≡ count
  unfolding after_root count
  reads_count = rw (to_count, take_at (be 2 (length path / 32)) (path ++ rest) 2 (be_length 2 (length path / 32))) (unbe_be 2 (length path / 32) few)

  to_path : drop 42 all ≡ path ++ rest
  unfolding after_root
  to_path = sym (drop-drop 2 40 all) ∙ ap (drop 2) to_count ∙ drop_at (be 2 count) (path ++ rest) 2 (be_length 2 count)

  nodes_all : 32 * count ≡ length path
  unfolding count
  nodes_all = omega arith

  reads_path : head_path all ≡ path
  reads_path = rw (reads_count, to_path) (take_at path rest (32 * count) (sym nodes_all))

  all_length : length all ≡ 42 + (length path + length rest)
  unfolding all after_root
  all_length =
      let a = be_length 8 size in
      let b = be_length 2 count in
      simp length-append (omega arith)

  reads_bytes : head_bytes all ≡ 42 + length path
  reads_bytes =
      let l = all_length in
      let c = reads_count in
      let n = nodes_all in
      bytes_whole all (omega arith) ∙ omega arith

  to_rest : drop (head_bytes all) all ≡ rest
  to_rest = rw reads_bytes (sym (drop-drop (length path) 42 all) ∙ ap (drop (length path)) to_path ∙ drop_at path rest (length path) refl)

  pub one_back : heads_of (be 8 size ++ (root ++ (be 2 (length path / 32) ++ (path ++ rest)))) ≡ then size root path (heads_of rest)
  unfolding all after_root count
  one_back =
      let b = reads_bytes in
      heads_then all (λ z. omega arith) ∙ rw (reads_size, reads_root, reads_path, to_rest)

pub read_back : (hs : Heads) → Fits hs → heads_of (joined_heads hs) ≡ hs
unfolding joined_heads Fits
read_back end f = heads_end [] refl
read_back truncated f = absurd f
read_back (then size root path hs) f =
    let w = f.0 in
    one_back size root path (joined_heads hs) w.0 w.1 w.2 w.3 ∙ ap (then size root path) (read_back hs f.1)

-- a head whose bytes are counted is whole
pub head_whole : (s : List ℕ) (n : ℕ) → n ≡ head_bytes s → (n ≡ 0 → ⊥) → (42 ≤ n) × (n ≤ length s) × (n - 42 ≡ 32 * head_count s)
head_whole s n e z =
    let b = bytes_there s (λ y. z (e ∙ y)) in
    (omega arith, omega arith, omega arith)
