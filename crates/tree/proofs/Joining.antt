-- The laws of joined hashes. Assumes nothing.
use mathlib.Core.Path.{◌≡◌, refl, sym, ap, ap₂, ◌∙◌}
use mathlib.Core.List.{List, [], ◌∷◌, ◌++◌, append-nil}
use Prim.Native.Nat.{ℕ, zero, suc, ◌+◌, ◌-◌, ◌*◌, ◌/◌, ◌≤◌, ◌<◌}
use native.Mathlib.Omega.{arith}
use native.Mathlib.Nat.{zero-add, suc-add}
use native.Mathlib.Numerals.{add-one}
use lib.ListN.{length, take, drop, get_or, length-append, length-take, length-drop}
use lib.Seq.{length-take-le, take_at, drop_at, drop-drop, take_all}
use borrow.Author.Tests.{le-leb, lt-leb}
use Rattle.octets.specs.Bytes.{copied, joined}
use Rattle.octets.proofs.Joining.{joined_append}
use Rattle.octets.proofs.Putting.{copied_put, put_whole}
use Rattle.tree.specs.Joined.{first_nodes, nodes, node_at, nodes_from, no_hash, hash_at}
use Rattle.tree.specs.Yield.{init, last}
use Rattle.tree.proofs.Rfc.{init_snoc, last_snoc}

-- the hashes in a buffer, one after the other
pub first_length : (n : ℕ) (s : List ℕ) → length (first_nodes n s) ≡ n
unfolding first_nodes
first_length zero s = refl
first_length (suc n) s = ap suc (first_length n (drop 32 s))

first_add : (n m : ℕ) (s : List ℕ) → first_nodes (n + m) s ≡ first_nodes n s ++ first_nodes m (drop (32 * n) s)
unfolding first_nodes
first_add zero m s = rw (zero-add m)
first_add (suc n) m s =
    let e : 32 + 32 * n ≡ 32 * suc n = omega arith in
    ap (λ (k : ℕ). first_nodes k s) (suc-add n m)
    ∙ ap (λ (x : List (List ℕ)). take 32 s ∷ x) (first_add n m (drop 32 s) ∙ ap (λ (x : List ℕ). first_nodes n (drop 32 s) ++ first_nodes m x) (drop-drop (32 * n) 32 s ∙ ap (λ (k : ℕ). drop k s) e))

pub first_snoc : (n : ℕ) (s : List ℕ) → first_nodes (suc n) s ≡ first_nodes n s ++ (node_at n s ∷ [])
unfolding first_nodes
first_snoc n s = ap (λ (k : ℕ). first_nodes k s) (sym (add-one n)) ∙ first_add n 1 s

pub init_first : (j : ℕ) (s : List ℕ) → 0 < j → init (first_nodes j s) ≡ first_nodes (j - 1) s
init_first zero s h = absurd (omega arith)
init_first (suc n) s h =
    let e : n ≡ suc n - 1 = omega arith in
    ap init (first_snoc n s) ∙ init_snoc (first_nodes n s) (node_at n s) ∙ ap (λ (i : ℕ). first_nodes i s) e

pub last_first : (j : ℕ) (s : List ℕ) → 0 < j → last (first_nodes j s) ≡ node_at (j - 1) s
last_first zero s h = absurd (omega arith)
last_first (suc n) s h =
    let e : n ≡ suc n - 1 = omega arith in
    ap last (first_snoc n s) ∙ last_snoc (first_nodes n s) (node_at n s) ∙ ap (λ (i : ℕ). node_at i s) e

pub at_first : (n i : ℕ) (s : List ℕ) → i < n → get_or (first_nodes n s) i [] ≡ node_at i s
unfolding first_nodes
at_first zero i s h = absurd (omega arith)
at_first (suc n) zero s h = refl
at_first (suc n) (suc i) s h =
    let e : 32 + 32 * i ≡ 32 * suc i = omega arith in
    at_first n i (drop 32 s) (omega arith) ∙ ap (take 32) (drop-drop (32 * i) 32 s ∙ ap (λ (k : ℕ). drop k s) e)

-- n hashes from i on, in two parts
module _ (i n k : ℕ) (s : List ℕ) (le : k ≤ n) where
  parts : nodes_from i n s ≡ nodes_from i k s ++ nodes_from (i + k) (n - k) s
  parts =
      let e : n ≡ k + (n - k) = omega arith in
      let d : 32 * i + 32 * k ≡ 32 * (i + k) = omega arith in
      ap (λ (j : ℕ). nodes_from i j s) e ∙ first_add k (n - k) (drop (32 * i) s)
      ∙ ap (λ (x : List ℕ). nodes_from i k s ++ first_nodes (n - k) x) (drop-drop (32 * k) (32 * i) s ∙ ap (λ (j : ℕ). drop j s) d)

  pub take_from : take k (nodes_from i n s) ≡ nodes_from i k s
  take_from = ap (take k) parts ∙ take_at (nodes_from i k s) (nodes_from (i + k) (n - k) s) k (first_length k (drop (32 * i) s))

  pub drop_from : drop k (nodes_from i n s) ≡ nodes_from (i + k) (n - k) s
  drop_from = ap (drop k) parts ∙ drop_at (nodes_from i k s) (nodes_from (i + k) (n - k) s) k (first_length k (drop (32 * i) s))

pub one_from : (i : ℕ) (s : List ℕ) → nodes_from i 1 s ≡ node_at i s ∷ []
unfolding first_nodes
one_from i s = refl

pub nodes_length : (s : List ℕ) → length (nodes s) ≡ length s / 32
unfolding nodes
nodes_length s = first_length (length s / 32) s

pub nodes_first : (s : List ℕ) → nodes s ≡ first_nodes (length s / 32) s
unfolding nodes
nodes_first s = refl

-- what is read where the buffer holds it
pub hash_in : (i : ℕ) (s : List ℕ) → 32 * i + 32 ≤ length s → hash_at i s ≡ node_at i s
unfolding hash_at
hash_in i s h = rw (le-leb (32 * i + 32) (length s) h)

pub hash_out : (i : ℕ) (s : List ℕ) → length s < 32 * i + 32 → hash_at i s ≡ no_hash
unfolding hash_at
hash_out i s h = rw (lt-leb (32 * i + 32) (length s) h)

-- a hash that is copied out of a buffer that holds it
pub hash_copied : (i : ℕ) (s z y : List ℕ) → 32 * i + 32 ≤ length s → length z ≡ 32 → y ≡ copied s (32 * i) 32 z 0 → y ≡ hash_at i s
hash_copied i s z y h e f =
    let l : length (node_at i s) ≡ 32 = length-take-le 32 (drop (32 * i) s) (rw length-drop (omega arith)) in
    f ∙ copied_put s (32 * i) 32 z 0 h (omega arith) ∙ put_whole z (node_at i s) (e ∙ sym l) ∙ sym (hash_in i s h)

pub whole_hash : (s : List ℕ) → length s ≡ 32 → hash_at 0 s ≡ s
whole_hash s e = hash_in 0 s (omega arith) ∙ take_all 32 s (omega arith)

-- each hash has 32 bytes
unfoldable pub All32 : List (List ℕ) → Type 0
All32 [] = Unit {0}
All32 (h ∷ l) = (length h ≡ 32) × All32 l

pub all_append : (a b : List (List ℕ)) → All32 a → All32 b → All32 (a ++ b)
unfolding All32
all_append [] b p q = q
all_append (h ∷ a) b p q = (p.0, all_append a b p.1 q)

pub all_none : All32 []
unfolding All32
all_none = tt

pub all_one : (h : List ℕ) → length h ≡ 32 → All32 (h ∷ [])
unfolding All32
all_one h e = (e, tt)

pub all_take : (n : ℕ) (l : List (List ℕ)) → All32 l → All32 (take n l)
unfolding All32
all_take zero l p = tt
all_take (suc n) [] p = tt
all_take (suc n) (h ∷ l) p = (p.0, all_take n l p.1)

pub all_drop : (n : ℕ) (l : List (List ℕ)) → All32 l → All32 (drop n l)
unfolding All32
all_drop zero l p = p
all_drop (suc n) [] p = tt
all_drop (suc n) (h ∷ l) p = all_drop n l p.1

all_first : (n : ℕ) (s : List ℕ) → 32 * n ≤ length s → All32 (first_nodes n s)
unfolding All32 first_nodes
all_first zero s h = tt
all_first (suc n) s h = (simp length-take (omega arith), all_first n (drop 32 s) (simp length-drop (omega arith)))

pub all_from : (i n : ℕ) (s : List ℕ) → 32 * (i + n) ≤ length s → All32 (nodes_from i n s)
all_from i n s h = all_first n (drop (32 * i) s) (simp length-drop (omega arith))

pub all_nodes : (s : List ℕ) → All32 (nodes s)
unfolding nodes
all_nodes s = all_first (length s / 32) s (omega arith)

-- joining, and taking apart again
pub joined_snoc : (a : List (List ℕ)) (h : List ℕ) → joined (a ++ (h ∷ [])) ≡ joined a ++ h
unfolding joined
joined_snoc a h = joined_append a (h ∷ []) ∙ ap (λ (x : List ℕ). joined a ++ x) (append-nil h)

pub joined_length : (l : List (List ℕ)) → All32 l → length (joined l) ≡ 32 * length l
unfolding joined All32
joined_length [] p = refl
joined_length (h ∷ l) p = let e = joined_length l p.1 in let f = p.0 in simp length-append (omega arith)

first_joined : (l : List (List ℕ)) → All32 l → first_nodes (length l) (joined l) ≡ l
unfolding first_nodes joined All32
first_joined [] p = refl
first_joined (h ∷ l) p = ap₂ ◌∷◌ (take_at h (joined l) 32 p.0) (ap (first_nodes (length l)) (drop_at h (joined l) 32 p.0) ∙ first_joined l p.1)

pub nodes_joined : (l : List (List ℕ)) → All32 l → nodes (joined l) ≡ l
nodes_joined l p =
    let e = joined_length l p in
    let f : length (joined l) / 32 ≡ length l = omega arith in
    nodes_first (joined l) ∙ rw f (first_joined l p)
