-- Heads in order, each by the arguments of its offer, and how they are joined in a buffer: of each the size in 8 bytes, the root in 32, the count
-- of nodes in 2, and the nodes of its consistency path. Assumes nothing: these are definitions.
use Rattle.std.specs.Prelude.{cond, List, [], ◌++◌, ℕ, zero, suc, ◌+◌, ◌-◌, ◌*◌, ◌/◌, ltb, eqb, length, take, drop}
use Rattle.octets.specs.Numbers.{be, unbe}

-- `truncated` where a buffer ends within a head
pub data Heads : Type 0 where
  end : Heads
  truncated : Heads
  then : (size : ℕ) (root path : List ℕ) → Heads → Heads

-- heads joined
unfoldable pub joined_heads : Heads → List ℕ
joined_heads end = []
joined_heads truncated = []
joined_heads (then size root path hs) = be 8 size ++ (root ++ (be 2 (length path / 32) ++ (path ++ joined_heads hs)))

-- the parts of the first head
abbrev pub head_size : List ℕ → ℕ
head_size s = unbe (take 8 s)

abbrev pub head_root : List ℕ → List ℕ
head_root s = take 32 (drop 8 s)

abbrev pub head_count : List ℕ → ℕ
head_count s = unbe (take 2 (drop 40 s))

abbrev pub head_path : List ℕ → List ℕ
head_path s = take (32 * head_count s) (drop 42 s)

-- how many bytes it has, or 0 where it is cut short
unfoldable pub head_bytes : List ℕ → ℕ
head_bytes s = cond (ltb (length s) 42) 0 (cond (ltb (length s - 42) (32 * head_count s)) 0 (42 + 32 * head_count s))

-- the heads that a buffer joins; f bounds how many
unfoldable pub heads_in : ℕ → List ℕ → Heads
heads_in zero s = end
heads_in (suc f) s =
    cond (eqb (length s) 0) end
    (cond (eqb (head_bytes s) 0) truncated
    (then (head_size s) (head_root s) (head_path s) (heads_in f (drop (head_bytes s) s))))

abbrev pub heads_of : List ℕ → Heads
heads_of s = heads_in (length s) s

-- how many they are
unfoldable pub how_many : Heads → ℕ
how_many end = 0
how_many truncated = 0
how_many (then size root path hs) = suc (how_many hs)

-- the last of them: its size and its root; these where there is none
unfoldable pub last_size : ℕ → Heads → ℕ
last_size n end = n
last_size n truncated = n
last_size n (then size root path hs) = last_size size hs

unfoldable pub last_root : List ℕ → Heads → List ℕ
last_root r end = r
last_root r truncated = r
last_root r (then size root path hs) = last_root root hs
