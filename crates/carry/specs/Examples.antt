-- Examples of carrying and comparing with both lent buffers after it, where two strings have one hash: one table with one statement, over
-- hashes so weak that proofs are easily forged. Each hash is 32 bytes of one number and stands as that number. A path buffer is 160
-- bytes of 7, a pair buffer 130 bytes and more of 9. Assumes nothing: these are statements.
use Rattle.std.specs.Prelude.{◌≡◌, List, [], ◌∷◌, ◌++◌, map, ℕ, ◌+◌, ◌-◌, ◌*◌, ◌%◌, length, get_or, replicate}
use Rattle.octets.specs.Answer.{done}
use Rattle.octets.specs.Bytes.{joined}
use Rattle.carry.specs.Limits.{pair_bytes}
use Rattle.carry.specs.Strings.{string}
use Rattle.carry.specs.Forward as forward
use Rattle.carry.specs.Compare as compare
use Rattle.carry.specs.Cases.{Every}

-- every string has one hash
abbrev pub constant : List ℕ → List ℕ
constant s = replicate 32 0

-- a hash that keeps two bits of a node's children
abbrev pub few : List ℕ → List ℕ
few s = replicate 32 ((get_or s 1 0 + 2 * get_or s 33 0) % 4)

abbrev pub hash : ℕ → List ℕ
hash k = replicate 32 k

abbrev pub hashes : List ℕ → List ℕ
hashes ks = joined (map hash ks)

-- the buffers before, and the pair buffer after two strings of the children a, b and c, d
abbrev pub out : List ℕ
out = replicate 160 7

abbrev pub pair : ℕ → List ℕ
pair more = replicate (pair_bytes + more) 9

abbrev pub child : ℕ × ℕ → List ℕ
child c = string (hash c.0) (hash c.1)

abbrev pub written : ℕ × ℕ → ℕ × ℕ → ℕ → List ℕ
written s t more = child s ++ (child t ++ replicate more 9)

-- a row: the hash; leaf hash, place, both sizes, both roots, path and proof; how many bytes the pair buffer has past 130; and the new path, or the
-- children of both strings. Of comparing: the hash; place, size and root; leaf hash and path of both proofs, or of one that is compared to itself
pub data Example : Type 0 where
  carries : (List ℕ → List ℕ) → ℕ → ℕ → ℕ → ℕ → ℕ → ℕ → List ℕ → List ℕ → ℕ → List ℕ → Example
  collides : (List ℕ → List ℕ) → ℕ → ℕ → ℕ → ℕ → ℕ → ℕ → List ℕ → List ℕ → ℕ → ℕ × ℕ → ℕ × ℕ → Example
  agrees : (List ℕ → List ℕ) → ℕ → ℕ → ℕ → ℕ → List ℕ → ℕ → Example
  differs : (List ℕ → List ℕ) → ℕ → ℕ → ℕ → ℕ → List ℕ → ℕ → List ℕ → ℕ → ℕ × ℕ → ℕ × ℕ → Example

abbrev pub carry_of : (List ℕ → List ℕ) → ℕ → ℕ → ℕ → ℕ → ℕ → ℕ → List ℕ → List ℕ → ℕ → forward.Forward
carry_of H leaf place m n old new path proof more =
    forward.carry H (hash leaf) place m n (hash old) (hash new) (hashes path) (hashes proof) (length out) (length (pair more))

abbrev pub compare_of : (List ℕ → List ℕ) → ℕ → ℕ → ℕ → ℕ → List ℕ → ℕ → List ℕ → ℕ → compare.Comparison
compare_of H place size root leaf₁ path₁ leaf₂ path₂ more =
    compare.compare H place size (hash root) (hash leaf₁) (hashes path₁) (hash leaf₂) (hashes path₂) (length (pair more))

-- what a row says: the outcome, its report, the path buffer and the pair buffer
abbrev pub ExampleSays : Example → Type 0
ExampleSays (carries H leaf place m n old new path proof more w) =
    (carry_of H leaf place m n old new path proof more ≡ forward.carried (hashes w))
    × (forward.carry_report (carry_of H leaf place m n old new path proof more) ≡ done (forward.of_path (length (hashes w))))
    × (forward.path_carried (carry_of H leaf place m n old new path proof more) out ≡ hashes w ++ replicate (160 - length (hashes w)) 7)
    × (forward.pair_carried (carry_of H leaf place m n old new path proof more) (pair more) ≡ pair more)
ExampleSays (collides H leaf place m n old new path proof more s t) =
    (carry_of H leaf place m n old new path proof more ≡ forward.collision (child s) (child t))
    × (forward.carry_report (carry_of H leaf place m n old new path proof more) ≡ done forward.of_strings)
    × (forward.path_carried (carry_of H leaf place m n old new path proof more) out ≡ out)
    × (forward.pair_carried (carry_of H leaf place m n old new path proof more) (pair more) ≡ written s t more)
ExampleSays (agrees H place size root leaf path more) =
    (compare_of H place size root leaf path leaf path more ≡ compare.equal)
    × (compare.compare_report (compare_of H place size root leaf path leaf path more) ≡ done compare.same)
    × (compare.pair_compared (compare_of H place size root leaf path leaf path more) (pair more) ≡ pair more)
ExampleSays (differs H place size root leaf₁ path₁ leaf₂ path₂ more s t) =
    (compare_of H place size root leaf₁ path₁ leaf₂ path₂ more ≡ compare.collision (child s) (child t))
    × (compare.compare_report (compare_of H place size root leaf₁ path₁ leaf₂ path₂ more) ≡ done compare.of_strings)
    × (compare.pair_compared (compare_of H place size root leaf₁ path₁ leaf₂ path₂ more) (pair more) ≡ written s t more)

abbrev pub table : List Example
table =
    -- from 7 to 8, place 4: S is the second full subtree, leaves 4 and 5, two levels below the root. At the top
    collides constant 1 4 7 8 0 0 (2 ∷ 3 ∷ 4 ∷ []) (3 ∷ 5 ∷ 0 ∷ 6 ∷ []) 10 (4, 0) (6, 0) ∷
    -- at S, below equal pairs
    collides constant 1 4 7 8 0 0 (2 ∷ 3 ∷ 4 ∷ []) (3 ∷ 5 ∷ 7 ∷ 4 ∷ []) 10 (0, 3) (7, 3) ∷
    -- at both
    collides constant 1 4 7 8 0 0 (2 ∷ 3 ∷ 4 ∷ []) (8 ∷ 5 ∷ 7 ∷ 6 ∷ []) 10 (4, 0) (6, 0) ∷
    -- place 6: S is a leaf
    collides constant 1 6 7 8 0 0 (2 ∷ 4 ∷ []) (3 ∷ 5 ∷ 2 ∷ 4 ∷ []) 10 (2, 1) (2, 3) ∷
    -- place 0: S is the first part
    collides constant 1 0 7 8 0 0 (2 ∷ 3 ∷ 0 ∷ []) (3 ∷ 5 ∷ 2 ∷ 4 ∷ []) 10 (0, 0) (4, 0) ∷
    -- a pair buffer of just 130 bytes
    collides constant 1 4 7 8 0 0 (2 ∷ 3 ∷ 4 ∷ []) (8 ∷ 5 ∷ 7 ∷ 6 ∷ []) 0 (4, 0) (6, 0) ∷
    -- nothing differs; a power of two; a size to itself
    carries constant 1 0 7 8 0 0 (2 ∷ 3 ∷ 0 ∷ []) (3 ∷ 5 ∷ 2 ∷ 0 ∷ []) 10 (2 ∷ 3 ∷ 0 ∷ []) ∷
    carries constant 1 1 4 7 0 0 (2 ∷ 3 ∷ []) (5 ∷ []) 10 (2 ∷ 3 ∷ 5 ∷ []) ∷
    carries constant 1 1 4 4 0 0 (2 ∷ 3 ∷ []) [] 10 (2 ∷ 3 ∷ []) ∷
    -- the same over the other hash: at the top, at S, at both, nowhere
    collides few 2 4 7 8 1 1 (3 ∷ 0 ∷ 1 ∷ []) (0 ∷ 3 ∷ 0 ∷ 5 ∷ []) 10 (1, 0) (5, 0) ∷
    collides few 0 5 7 12 0 0 (0 ∷ 2 ∷ 0 ∷ []) (3 ∷ 1 ∷ 2 ∷ 0 ∷ 2 ∷ []) 10 (0, 2) (2, 3) ∷
    collides few 3 6 7 8 0 0 (1 ∷ 2 ∷ []) (0 ∷ 1 ∷ 3 ∷ 2 ∷ []) 10 (1, 3) (3, 0) ∷
    collides few 2 4 7 8 2 2 (3 ∷ 0 ∷ 2 ∷ []) (0 ∷ 3 ∷ 1 ∷ 0 ∷ []) 10 (2, 0) (0, 1) ∷
    carries few 2 4 7 8 1 1 (3 ∷ 0 ∷ 1 ∷ []) (0 ∷ 3 ∷ 0 ∷ 1 ∷ []) 10 (3 ∷ 2 ∷ 1 ∷ []) ∷
    carries few 1 3 6 13 2 2 (3 ∷ 2 ∷ 3 ∷ []) (3 ∷ 3 ∷ 0 ∷ 2 ∷ []) 10 (3 ∷ 2 ∷ 1 ∷ 2 ∷ []) ∷
    carries few 0 4 5 9 3 1 (3 ∷ []) (0 ∷ 0 ∷ 0 ∷ 3 ∷ 3 ∷ []) 10 (0 ∷ 0 ∷ 3 ∷ 3 ∷ []) ∷
    -- comparing at place 1 of 4: at the top, below equal pairs, at both (also with just 130 bytes), nowhere
    differs constant 1 4 0 1 (2 ∷ 3 ∷ []) 1 (2 ∷ 4 ∷ []) 10 (0, 3) (0, 4) ∷
    differs constant 1 4 0 1 (2 ∷ 3 ∷ []) 5 (2 ∷ 3 ∷ []) 10 (2, 1) (2, 5) ∷
    differs constant 1 4 0 1 (2 ∷ 3 ∷ []) 5 (2 ∷ 4 ∷ []) 10 (0, 3) (0, 4) ∷
    differs constant 1 4 0 1 (2 ∷ 3 ∷ []) 5 (2 ∷ 4 ∷ []) 0 (0, 3) (0, 4) ∷
    agrees constant 1 4 0 1 (2 ∷ 3 ∷ []) 10 ∷
    -- over the other hash: at the top of two levels, below equal pairs, at the last two of three, nowhere
    differs few 1 4 3 0 (3 ∷ 2 ∷ []) 0 (3 ∷ 0 ∷ []) 10 (3, 2) (3, 0) ∷
    differs few 6 7 0 0 (1 ∷ 2 ∷ []) 1 (3 ∷ 2 ∷ []) 10 (1, 0) (3, 1) ∷
    differs few 5 7 3 0 (0 ∷ 3 ∷ 3 ∷ []) 1 (2 ∷ 1 ∷ 3 ∷ []) 10 (0, 3) (0, 1) ∷
    agrees few 5 7 3 0 (0 ∷ 3 ∷ 3 ∷ []) 10 ∷
    []

abbrev pub Collisions : Type 0
Collisions = Every ExampleSays table
