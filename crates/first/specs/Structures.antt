-- The three structures as RFC 6962 writes them, field after field (sections 3.2, 3.4 and 3.5). Assumes nothing: these are definitions.
use Rattle.std.specs.Prelude.{ℕ, ◌^◌, ◌≤◌, ◌<◌, ◌≡◌, List, [], ◌∷◌, ◌++◌, length}
use Rattle.octets.specs.Bytes.{joined}
use Rattle.octets.specs.Numbers.{be}

-- select (entry_type): a certificate; or issuer_key_hash[32] and the TBS certificate
pub data Entry : Type 0 where
  x509 : (certificate : List ℕ) → Entry
  precert : (issuer_key_hash tbs_certificate : List ℕ) → Entry

pub data Structure : Type 0 where
  leaf : (timestamp : ℕ) → Entry → (extensions : List ℕ) → Structure
  certificate_timestamp : (log_id : List ℕ) (timestamp : ℕ) (extensions : List ℕ) (algorithms : ℕ) (signature : List ℕ) → Structure
  tree_head : (timestamp tree_size : ℕ) (root_hash : List ℕ) → Structure

-- an opaque vector whose length stands in w bytes
abbrev pub opaque : ℕ → List ℕ → List ℕ
opaque w b = be w (length b) ++ b

-- the fields one after the other: version v1(0), leaf_type timestamped_entry(0), then the timestamped entry; version v1(0) and the log's id; version v1(0),
-- signature_type tree_hash(1)
abbrev pub field_bytes : Structure → List (List ℕ)
field_bytes (leaf t (x509 c) x) = be 1 0 ∷ be 1 0 ∷ be 8 t ∷ be 2 0 ∷ opaque 3 c ∷ opaque 2 x ∷ []
field_bytes (leaf t (precert h c) x) = be 1 0 ∷ be 1 0 ∷ be 8 t ∷ be 2 1 ∷ h ∷ opaque 3 c ∷ opaque 2 x ∷ []
field_bytes (certificate_timestamp l t x a g) = be 1 0 ∷ l ∷ be 8 t ∷ opaque 2 x ∷ be 2 a ∷ opaque 2 g ∷ []
field_bytes (tree_head t n r) = be 1 0 ∷ be 1 1 ∷ be 8 t ∷ be 8 n ∷ r ∷ []

abbrev pub encoded : Structure → List ℕ
encoded x = joined (field_bytes x)

-- numbers that their bytes hold, hashes of 32 bytes, vectors within their ranges: <1..2^24-1>, <0..2^16-1>
abbrev pub FitsEntry : Entry → Type 0
FitsEntry (x509 c) = (1 ≤ length c) × (length c < 2 ^ 24)
FitsEntry (precert h c) = (length h ≡ 32) × (1 ≤ length c) × (length c < 2 ^ 24)

abbrev pub Fits : Structure → Type 0
Fits (leaf t e x) = (t < 2 ^ 64) × FitsEntry e × (length x < 2 ^ 16)
Fits (certificate_timestamp l t x a g) = (length l ≡ 32) × (t < 2 ^ 64) × (length x < 2 ^ 16) × (a < 2 ^ 16) × (length g < 2 ^ 16)
Fits (tree_head t n r) = (t < 2 ^ 64) × (n < 2 ^ 64) × (length r ≡ 32)

-- the name by which it is asked for
abbrev pub name_of : Structure → ℕ
name_of (leaf t e x) = 1
name_of (certificate_timestamp l t x a g) = 2
name_of (tree_head t n r) = 3
