-- SHA-256 (FIPS 180-4, section 6.2) and SM3 (GB/T 32905-2016, section 5) of a list of bytes, and the hashes of a leaf and of a node (RFC 9162, section
-- 2.1.1); what an entry answers by the number of a hash. Assumes nothing.
use Rattle.std.specs.Prelude.{List, ◌∷◌, ◌++◌, ℕ}
use Rattle.hash.specs.declared.Algorithm.{Algorithm}
use Rattle.hash.specs.declared.Algorithm.TheVariants.{Sha256, Sm3}
use Rattle.hash.specs.declared.Named.{Named}
use Rattle.hash.specs.declared.Named.TheVariants.{By, Unknown}
use Rattle.hash.specs.Algorithm.{algorithm_of, start_of, step_of}
use Rattle.hash.specs.Message.{hash_value, state_bytes}

unfoldable pub hash_of : Algorithm → List ℕ → List ℕ
hash_of a m = state_bytes (hash_value (step_of a) (start_of a) m)

abbrev pub sha256 : List ℕ → List ℕ
sha256 = hash_of Sha256

abbrev pub sm3 : List ℕ → List ℕ
sm3 = hash_of Sm3

-- HASH(0x00 || item)
abbrev pub leaf_hash : Algorithm → List ℕ → List ℕ
leaf_hash a item = hash_of a (0 ∷ item)

-- HASH(0x01 || left || right)
abbrev pub node_hash : Algorithm → List ℕ → List ℕ → List ℕ
node_hash a left right = hash_of a (1 ∷ (left ++ right))

-- What an entry answers by a number: what it answers over that hash, or its refusal where no hash has the number, before all else.
unfoldable pub by_named : {A : Type 0} → Named → A → ((List ℕ → List ℕ) → A) → A
by_named (By a) refusal answer = answer (hash_of a)
by_named Unknown refusal answer = refusal

unfoldable pub by_number : {A : Type 0} → ℕ → A → ((List ℕ → List ℕ) → A) → A
by_number n refusal answer = by_named (algorithm_of n) refusal answer
