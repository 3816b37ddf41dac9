-- Hashes joined in one buffer, 32 bytes each. Assumes nothing: these are definitions.
use Rattle.std.specs.Prelude.{cond, List, [], ◌∷◌, ℕ, zero, suc, ◌+◌, ◌*◌, ◌/◌, leb, length, take, drop, replicate}

-- the first n hashes that s joins
unfoldable pub first_nodes : ℕ → List ℕ → List (List ℕ)
first_nodes zero s = []
first_nodes (suc n) s = take 32 s ∷ first_nodes n (drop 32 s)

-- all of them
unfoldable pub nodes : List ℕ → List (List ℕ)
nodes s = first_nodes (length s / 32) s

-- the one at an index, and n of them from an index on
abbrev pub node_at : ℕ → List ℕ → List ℕ
node_at i s = take 32 (drop (32 * i) s)

abbrev pub nodes_from : ℕ → ℕ → List ℕ → List (List ℕ)
nodes_from i n s = first_nodes n (drop (32 * i) s)

-- what is read at an index of any buffer: the hash there, or 32 zeros where the buffer does not hold it whole
abbrev pub no_hash : List ℕ
no_hash = replicate 32 0

unfoldable pub hash_at : ℕ → List ℕ → List ℕ
hash_at i s = cond (leb (32 * i + 32) (length s)) (node_at i s) no_hash
