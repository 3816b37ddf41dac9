-- What is proved of whole structures beside the promises, in the words of the second demand. Assumes nothing: these are statements.
use Rattle.std.specs.Prelude.{ℕ, ◌+◌, ◌^◌, ◌≤◌, ◌<◌, ◌≡◌, ◌↔◌, ◌≢◌, List, [], ◌∷◌, ◌++◌, cond, length, take, drop, eqb, Result, Ok, Err}
use Rattle.octets.specs.Bytes.{Bytes}
use Rattle.octets.specs.Limits.{most_item}
use Rattle.octets.specs.Numbers.{be}
use Rattle.fields.specs.Checked.{Checked, good, bad}
use Rattle.fields.specs.Layout.{bytes_at}
use Rattle.fields.specs.Effect.{wrote}
use Rattle.fields.specs.declared.layout.Part.{Part}
use Rattle.fields.specs.declared.layout.RefusedAt.{RefusedAt}
use Rattle.fields.specs.Claims.{Each, start_of}
use Rattle.first.specs.declared.reader.First.{First}
use Rattle.first.specs.declared.reader.First.TheVariants.{X509Entry as x509_entry, PrecertEntry as precert_entry}
use Rattle.first.specs.declared.reader.First.TheVariants.{CertificateTimestamp as certificate_timestamp, TreeHead as tree_head}
use Rattle.first.specs.declared.writer.Numbers.{Numbers}
use Rattle.first.specs.Structures.{Structure, leaf, certificate_timestamp as timestamp_of, tree_head as head_of, x509, precert}
use Rattle.first.specs.Structures.{field_bytes, encoded, Fits, name_of}
use Rattle.first.specs.First.{Reading, reading, read_first, Vectors, write_first}

-- What a caller takes of the reader's answer and hands to the writer, with the same name: each number as it was answered, the other fields' bytes where they
-- lie. Version, leaf type and signature type have one value each, and the writer is not given them.
abbrev pub Taken : List ℕ → Result First RefusedAt → Numbers → Vectors → Type 0
Taken s (Ok (x509_entry version leaf_type timestamp entry_type_of certificate extensions)) n t =
    (n.timestamp ≡ timestamp.value) × (n.entry_type ≡ entry_type_of.value) × (t.certificate ≡ bytes_at s certificate)
    × (t.extensions ≡ bytes_at s extensions)
Taken s (Ok (precert_entry version leaf_type timestamp entry_type_of issuer_key_hash tbs_certificate extensions)) n t =
    (n.timestamp ≡ timestamp.value) × (n.entry_type ≡ entry_type_of.value) × (t.issuer_key_hash ≡ bytes_at s issuer_key_hash)
    × (t.certificate ≡ bytes_at s tbs_certificate) × (t.extensions ≡ bytes_at s extensions)
Taken s (Ok (certificate_timestamp version log_id timestamp extensions algorithms signature)) n t =
    (t.log_id ≡ bytes_at s log_id) × (n.timestamp ≡ timestamp.value) × (t.extensions ≡ bytes_at s extensions) × (n.algorithms ≡ algorithms.value)
    × (t.signature ≡ bytes_at s signature)
Taken s (Ok (tree_head version signature_type timestamp size root_hash)) n t =
    (n.timestamp ≡ timestamp.value) × (n.size ≡ size.value) × (t.root_hash ≡ bytes_at s root_hash)
Taken s (Err e) n t = ⊥

-- what is read, written again, is the same bytes
abbrev pub ReadThenWritten : Type 0
ReadThenWritten =
    (e w : ℕ) (s out : List ℕ) (i : Result First RefusedAt) (n : Numbers) (t : Vectors)
    → Bytes s → reading i ≡ read_first e w s → Taken s i n t → length s ≤ length out → write_first e w n t out ≡ wrote s out

-- numbers as wide as the writer takes them
pub record Sized (n : Numbers) : Type 0 where
  pub timestamp : n.timestamp < 2 ^ 64
  pub size : n.size < 2 ^ 64
  pub entry_type_of : n.entry_type < 2 ^ 16
  pub algorithms : n.algorithms < 2 ^ 16

-- what is written reads back as the same fields
abbrev pub WrittenThenRead : Type 0
WrittenThenRead =
    (e w : ℕ) (n : Numbers) (t : Vectors) (out : List ℕ) (m : ℕ) (i : Result First RefusedAt) → Sized n → (write_first e w n t out).answer ≡ good m
    → reading i ≡ read_first e w (take m (write_first e w n t out).bytes) → Taken (take m (write_first e w n t out).bytes) i n t

-- a refusal of the writer changes no byte; otherwise the bytes past those written stay
abbrev pub WriterKeeps : Type 0
WriterKeeps =
    (e w : ℕ) (n : Numbers) (t : Vectors) (out : List ℕ)
    → ((x at : ℕ) → (write_first e w n t out).answer ≡ bad x at → (write_first e w n t out).bytes ≡ out)
    × ((m : ℕ) → (write_first e w n t out).answer ≡ good m → drop m (write_first e w n t out).bytes ≡ drop m out)

-- a refusal of the reader is given at a place within the input, or at its end; every field lies within the input
abbrev pub RefusedWithin : Type 0
RefusedWithin = (e w : ℕ) (s : List ℕ) (x at : ℕ) → read_first e w s ≡ bad x at → at ≤ length s

abbrev pub FieldsWithin : Type 0
FieldsWithin = (e w : ℕ) (s : List ℕ) (r : Reading) → read_first e w s ≡ good r → Each (λ p. p.start + p.len ≤ length s) r.fields

-- bytes that are a structure of the name that was given, as RFC 6962 writes it
pub record Encodes (e w : ℕ) (s : List ℕ) : Type 0 where
  pub is : Structure
  pub fits : Fits is
  pub edition : e ≡ 1
  pub named : w ≡ name_of is
  pub bytes : s ≡ encoded is

abbrev pub IsRead : Checked Reading → Type 0
IsRead (good r) = Unit
IsRead (bad x at) = ⊥

-- bytes are read exactly if they are such a structure
abbrev pub ReadIsEncoded : Type 0
ReadIsEncoded = (e w : ℕ) (s : List ℕ) → Bytes s → IsRead (read_first e w s) ↔ Encodes e w s

-- the structure that the writer is asked for: by its name, and a leaf by the entry type
abbrev pub asked : ℕ → Numbers → Vectors → Structure
asked w n t =
    cond (eqb w 1)
    (leaf n.timestamp (cond (eqb n.entry_type 1) (precert t.issuer_key_hash t.certificate) (x509 t.certificate)) t.extensions)
    (cond (eqb w 2) (timestamp_of t.log_id n.timestamp t.extensions n.algorithms t.signature) (head_of n.timestamp n.size t.root_hash))

-- what is written is that structure
pub record Wrote (e w : ℕ) (n : Numbers) (t : Vectors) (s : List ℕ) : Type 0 where
  pub fits : Fits (asked w n t)
  pub edition : e ≡ 1
  pub named : w ≡ name_of (asked w n t)
  pub bytes : s ≡ encoded (asked w n t)

abbrev pub WrittenIsEncoded : Type 0
WrittenIsEncoded =
    (e w : ℕ) (n : Numbers) (t : Vectors) (out : List ℕ) (m : ℕ) → Sized n → (write_first e w n t out).answer ≡ good m
    → Wrote e w n t (take m (write_first e w n t out).bytes)

-- where a part lies
abbrev pub LiesAt : Part → ℕ → ℕ → Type 0
LiesAt p start len = (p.start ≡ start) × (p.len ≡ len)

-- what the reader answers is the structure that the bytes are, each field by its name and at its place; a vector's bytes lie behind its length
abbrev pub Says : List ℕ → Result First RefusedAt → Type 0
Says s (Ok (x509_entry version leaf_type timestamp entry_type_of certificate extensions)) =
    (s ≡ encoded (leaf timestamp.value (x509 (bytes_at s certificate)) (bytes_at s extensions)))
    × LiesAt version 0 1 × (version.value ≡ 0) × LiesAt leaf_type 1 1 × (leaf_type.value ≡ 0) × LiesAt timestamp 2 8
    × LiesAt entry_type_of 10 2 × (entry_type_of.value ≡ 0) × (certificate.start ≡ 15) × (extensions.start ≡ 17 + certificate.len)
Says s (Ok (precert_entry version leaf_type timestamp entry_type_of issuer_key_hash tbs_certificate extensions)) =
    (s ≡ encoded (leaf timestamp.value (precert (bytes_at s issuer_key_hash) (bytes_at s tbs_certificate)) (bytes_at s extensions)))
    × LiesAt version 0 1 × (version.value ≡ 0) × LiesAt leaf_type 1 1 × (leaf_type.value ≡ 0) × LiesAt timestamp 2 8
    × LiesAt entry_type_of 10 2 × (entry_type_of.value ≡ 1) × LiesAt issuer_key_hash 12 32 × (tbs_certificate.start ≡ 47)
    × (extensions.start ≡ 49 + tbs_certificate.len)
Says s (Ok (certificate_timestamp version log_id timestamp extensions algorithms signature)) =
    (s ≡ encoded (timestamp_of (bytes_at s log_id) timestamp.value (bytes_at s extensions) algorithms.value (bytes_at s signature)))
    × LiesAt version 0 1 × (version.value ≡ 0) × LiesAt log_id 1 32 × LiesAt timestamp 33 8 × (extensions.start ≡ 43)
    × LiesAt algorithms (43 + extensions.len) 2 × (signature.start ≡ 47 + extensions.len)
Says s (Ok (tree_head version signature_type timestamp size root_hash)) =
    (s ≡ encoded (head_of timestamp.value size.value (bytes_at s root_hash)))
    × LiesAt version 0 1 × (version.value ≡ 0) × LiesAt signature_type 1 1 × (signature_type.value ≡ 1) × LiesAt timestamp 2 8 × LiesAt size 10 8
    × LiesAt root_hash 18 32
Says s (Err e) = Unit

abbrev pub ReadSays : Type 0
ReadSays = (e w : ℕ) (s : List ℕ) (i : Result First RefusedAt) → Bytes s → reading i ≡ read_first e w s → Says s i

-- a structure that is cut is refused with 2 where the field starts that is cut, and one with bytes behind it with 3 where these start
abbrev pub CutThere : Type 0
CutThere = (x : Structure) (k : ℕ) → Fits x → k < length (encoded x) → read_first 1 (name_of x) (take k (encoded x)) ≡ bad 2 (start_of (field_bytes x) k)

abbrev pub OverThere : Type 0
OverThere =
    (x : Structure) (b : ℕ) (r : List ℕ) → Fits x → length (encoded x ++ (b ∷ r)) ≤ most_item
    → read_first 1 (name_of x) (encoded x ++ (b ∷ r)) ≡ bad 3 (length (encoded x))

-- some structures byte by byte
abbrev pub ByHand : Type 0
ByHand =
    (encoded (leaf 7 (x509 (0x63 ∷ [])) []) ≡ 0 ∷ 0 ∷ 0 ∷ 0 ∷ 0 ∷ 0 ∷ 0 ∷ 0 ∷ 0 ∷ 7 ∷ 0 ∷ 0 ∷ 0 ∷ 0 ∷ 1 ∷ 0x63 ∷ 0 ∷ 0 ∷ [])
    × (encoded (leaf 7 (precert (1 ∷ 2 ∷ []) (3 ∷ [])) (4 ∷ []))
    ≡ 0 ∷ 0 ∷ 0 ∷ 0 ∷ 0 ∷ 0 ∷ 0 ∷ 0 ∷ 0 ∷ 7 ∷ 0 ∷ 1 ∷ 1 ∷ 2 ∷ 0 ∷ 0 ∷ 1 ∷ 3 ∷ 0 ∷ 1 ∷ 4 ∷ [])
    × (encoded (timestamp_of (1 ∷ 2 ∷ []) 7 (3 ∷ []) 0x0403 (5 ∷ [])) ≡ 0 ∷ 1 ∷ 2 ∷ 0 ∷ 0 ∷ 0 ∷ 0 ∷ 0 ∷ 0 ∷ 0 ∷ 7 ∷ 0 ∷ 1 ∷ 3 ∷ 4 ∷ 3 ∷ 0 ∷ 1 ∷ 5 ∷ [])
    × (encoded (head_of 7 8 (1 ∷ 2 ∷ [])) ≡ 0 ∷ 1 ∷ 0 ∷ 0 ∷ 0 ∷ 0 ∷ 0 ∷ 0 ∷ 0 ∷ 7 ∷ 0 ∷ 0 ∷ 0 ∷ 0 ∷ 0 ∷ 0 ∷ 0 ∷ 8 ∷ 1 ∷ 2 ∷ [])

-- 1 comes first, whatever the name; then the name, whatever the bytes, and for the writer whatever the fields and the room
abbrev pub LongFirst : Type 0
LongFirst = (e w : ℕ) (s : List ℕ) → most_item < length s → read_first e w s ≡ bad 1 0

abbrev pub Named : ℕ → ℕ → Type 0
Named e w = (e ≡ 1) × (1 ≤ w) × (w ≤ 3)

abbrev pub NameNext : Type 0
NameNext =
    (e w : ℕ) → (Named e w → ⊥)
    → ((s : List ℕ) → length s ≤ most_item → read_first e w s ≡ bad 4 0)
    × ((n : Numbers) (t : Vectors) (out : List ℕ) → (write_first e w n t out).answer ≡ bad 4 0)

-- the writer asks for the room last: what it refuses otherwise it refuses whatever is lent, and what is written elsewhere is 9 at 0 where it does not fit
abbrev pub RoomLast : Type 0
RoomLast =
    (e w : ℕ) (n : Numbers) (t : Vectors) (out other : List ℕ)
    → ((x y : ℕ) → x ≢ 9 → (write_first e w n t other).answer ≡ bad x y → (write_first e w n t out).answer ≡ bad x y)
    × ((m : ℕ) → (write_first e w n t other).answer ≡ good m → length out < m → (write_first e w n t out).answer ≡ bad 9 0)

-- a version, leaf type, signature type or entry type that is not allowed is 4 where it starts, whatever comes behind it; the writer is given an entry type
abbrev pub FourThere : Type 0
FourThere =
    (w b : ℕ) (r : List ℕ) → Named 1 w → b < 256
    → (length (be 1 b ++ r) ≤ most_item → b ≢ 0 → read_first 1 w (be 1 b ++ r) ≡ bad 4 0)
    × (length (be 1 0 ++ (be 1 b ++ r)) ≤ most_item → b ≢ 0 → read_first 1 1 (be 1 0 ++ (be 1 b ++ r)) ≡ bad 4 1)
    × (length (be 1 0 ++ (be 1 b ++ r)) ≤ most_item → b ≢ 1 → read_first 1 3 (be 1 0 ++ (be 1 b ++ r)) ≡ bad 4 1)
    × ((time k : ℕ) → length (be 1 0 ++ (be 1 0 ++ (be 8 time ++ (be 2 k ++ r)))) ≤ most_item → time < 2 ^ 64 → 1 < k → k < 2 ^ 16
    → read_first 1 1 (be 1 0 ++ (be 1 0 ++ (be 8 time ++ (be 2 k ++ r)))) ≡ bad 4 10)
    × ((n : Numbers) (t : Vectors) (out : List ℕ) → 1 < n.entry_type → (write_first 1 1 n t out).answer ≡ bad 4 10)

-- the writer refuses a hash that has not 32 bytes, and a certificate out of its range, with 5 where it would start, whatever the other fields are
abbrev pub FiveThere : Type 0
FiveThere =
    (n : Numbers) (t : Vectors) (out : List ℕ)
    → (length t.log_id ≢ 32 → (write_first 1 2 n t out).answer ≡ bad 5 1)
    × (length t.root_hash ≢ 32 → (write_first 1 3 n t out).answer ≡ bad 5 18)
    × (n.entry_type ≡ 1 → length t.issuer_key_hash ≢ 32 → (write_first 1 1 n t out).answer ≡ bad 5 12)
    × ((1 ≤ length t.certificate → length t.certificate < 2 ^ 24 → ⊥)
    → (n.entry_type ≡ 0 → (write_first 1 1 n t out).answer ≡ bad 5 12)
    × (n.entry_type ≡ 1 → length t.issuer_key_hash ≡ 32 → (write_first 1 1 n t out).answer ≡ bad 5 44))

-- the reader refuses a certificate without a byte with 5 where its length starts, whatever comes behind
abbrev pub FiveRead : Type 0
FiveRead =
    (time : ℕ) (h r : List ℕ) → time < 2 ^ 64
    → (length (be 1 0 ++ (be 1 0 ++ (be 8 time ++ (be 2 0 ++ (be 3 0 ++ r))))) ≤ most_item
    → read_first 1 1 (be 1 0 ++ (be 1 0 ++ (be 8 time ++ (be 2 0 ++ (be 3 0 ++ r))))) ≡ bad 5 12)
    × (length h ≡ 32 → length (be 1 0 ++ (be 1 0 ++ (be 8 time ++ (be 2 1 ++ (h ++ (be 3 0 ++ r)))))) ≤ most_item
    → read_first 1 1 (be 1 0 ++ (be 1 0 ++ (be 8 time ++ (be 2 1 ++ (h ++ (be 3 0 ++ r)))))) ≡ bad 5 44)

-- extensions are opaque here: no order is asked
abbrev pub NoFifteen : Type 0
NoFifteen = (e w : ℕ) (s : List ℕ) (y : ℕ) → read_first e w s ≢ bad 15 y
