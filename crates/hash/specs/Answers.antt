-- What the public functions answer, by the numbers of the table of refusals, and what they leave in lent memory. Assumes nothing.
use Rattle.std.specs.Prelude.{cond, List, ◌++◌, ℕ, ◌+◌, eqb, ltb, length, drop, replicate}
use Rattle.octets.specs.Limits.{most_item}

-- ---- the limit

-- the longest input of a digest: an item with the 0x00 before it
abbrev pub most_input : ℕ
most_input = most_item + 1

-- ---- a hash by value, of an input of at most `most` bytes

-- 1: the input is too long
unfoldable pub value_number : ℕ → List ℕ → ℕ
value_number most input = cond (ltb most (length input)) 1 0

-- the value v, or 32 zero bytes beside a refusal
unfoldable pub value_bytes : ℕ → List ℕ → List ℕ → List ℕ
value_bytes most input v = cond (eqb (value_number most input) 0) v (replicate 32 0)

-- ---- a hash into a lent buffer

-- 1: the input is too long; 9: the buffer has fewer than 32 bytes
unfoldable pub into_number : ℕ → List ℕ → List ℕ → ℕ
into_number most input out = cond (ltb most (length input)) 1 (cond (ltb (length out) 32) 9 0)

-- the buffer after it: the value v and the rest as it was, or all as it was
unfoldable pub into_bytes : ℕ → List ℕ → List ℕ → List ℕ → List ℕ
into_bytes most input v out = cond (eqb (into_number most input out) 0) (v ++ drop 32 out) out
