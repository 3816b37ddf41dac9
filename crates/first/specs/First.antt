-- Whole structures: what the reader answers and what the writer writes (RFC 6962, sections 3.2 to 3.5; document 02, request 6). Assumes nothing.
use Rattle.std.specs.Prelude.{ℕ, List, [], ◌∷◌, cond, length, take, drop, ltb, Result, Ok, Err}
use Rattle.octets.specs.Limits.{most_item}
use Rattle.octets.specs.Numbers.{unbe}
use Rattle.octets.specs.Refusals.{refusal_number}
use Rattle.fields.specs.declared.layout.Part.{Part}
use Rattle.fields.specs.declared.layout.RefusedAt.{RefusedAt}
use Rattle.fields.specs.declared.layout.Field.{Field}
use Rattle.fields.specs.Checked.{Checked, good, bad, then}
use Rattle.fields.specs.Layout.{read}
use Rattle.fields.specs.Write.{uint, bytes, Filled, write}
use Rattle.fields.specs.Effect.{Effect, effect}
use Rattle.first.specs.declared.table.Line.{Line}
use Rattle.first.specs.declared.table.Line.TheVariants.{X509Entry, PrecertEntry, CertificateTimestamp, TreeHead}
use Rattle.first.specs.declared.reader.First.{First}
use Rattle.first.specs.declared.reader.First.TheVariants.{X509Entry as x509_entry, PrecertEntry as precert_entry}
use Rattle.first.specs.declared.reader.First.TheVariants.{CertificateTimestamp as certificate_timestamp, TreeHead as tree_head}
use Rattle.first.specs.declared.writer.Numbers.{Numbers}
use Rattle.first.specs.declared.writer.Vectors.{Vectors as Slices}
use Rattle.first.specs.Table.{version, leaf_type, entry_type_of, signature_type, timestamp, size, algorithms, hash, certificate, extensions, signature}
use Rattle.first.specs.Table.{layout_of, line_of}

-- a structure that was read: its line of the table, and where its fields lie, in the table's order
pub record Reading : Type 0 where
  pub line : Line
  pub fields : List Part

abbrev pub structure : Line → List Part → Checked Reading
structure l ps = good (record { line = l; fields = ps })

-- what each case of the reader's answer says
abbrev pub reading : Result First RefusedAt → Checked Reading
reading (Ok (x509_entry version leaf_type timestamp entry_type_of certificate extensions)) =
    structure X509Entry (version ∷ leaf_type ∷ timestamp ∷ entry_type_of ∷ certificate ∷ extensions ∷ [])
reading (Ok (precert_entry version leaf_type timestamp entry_type_of issuer_key_hash tbs_certificate extensions)) =
    structure PrecertEntry (version ∷ leaf_type ∷ timestamp ∷ entry_type_of ∷ issuer_key_hash ∷ tbs_certificate ∷ extensions ∷ [])
reading (Ok (certificate_timestamp version log_id timestamp extensions algorithms signature)) =
    structure CertificateTimestamp (version ∷ log_id ∷ timestamp ∷ extensions ∷ algorithms ∷ signature ∷ [])
reading (Ok (tree_head version signature_type timestamp size root_hash)) =
    structure TreeHead (version ∷ signature_type ∷ timestamp ∷ size ∷ root_hash ∷ [])
reading (Err e) = bad (refusal_number e.refusal) e.place

-- the number in the bytes where a leaf's entry type stands, behind version, leaf type and timestamp
abbrev pub entry_at : List ℕ → ℕ
entry_at s = unbe (take 2 (drop 10 s))

-- a whole structure: 1 at 0 if it is too long; then its name; then its fields
unfoldable pub read_first : ℕ → ℕ → List ℕ → Checked Reading
read_first edition which s =
    cond (ltb most_item (length s)) (bad 1 0)
    (then (line_of edition which (entry_at s)) (λ l. then (read (layout_of l) s 0) (structure l)))

-- the bytes that the writer is given for each field that is no number
pub record Vectors : Type 0 where
  pub log_id : List ℕ
  pub issuer_key_hash : List ℕ
  pub certificate : List ℕ
  pub extensions : List ℕ
  pub signature : List ℕ
  pub root_hash : List ℕ

abbrev pub vectors : List ℕ → List ℕ → List ℕ → List ℕ → List ℕ → List ℕ → Vectors
vectors l i c x g r = record { log_id = l; issuer_key_hash = i; certificate = c; extensions = x; signature = g; root_hash = r }

-- what stands behind the code's slices
abbrev pub lent : Slices → Vectors
lent v = vectors v.log_id.now v.issuer_key_hash.now v.certificate.now v.extensions.now v.signature.now v.root_hash.now

abbrev number : Field → ℕ → Filled
number f n = record { field = f; value = uint n }

abbrev string : Field → List ℕ → Filled
string f v = record { field = f; value = bytes v }

-- what a line's fields are filled with: version, leaf type and signature type have one value each
abbrev pub filled : Numbers → Vectors → Line → List Filled
filled n t X509Entry =
    number version 0 ∷ number leaf_type 0 ∷ number timestamp n.timestamp ∷ number entry_type_of n.entry_type
    ∷ string certificate t.certificate ∷ string extensions t.extensions ∷ []
filled n t PrecertEntry =
    number version 0 ∷ number leaf_type 0 ∷ number timestamp n.timestamp ∷ number entry_type_of n.entry_type
    ∷ string hash t.issuer_key_hash ∷ string certificate t.certificate ∷ string extensions t.extensions ∷ []
filled n t CertificateTimestamp =
    number version 0 ∷ string hash t.log_id ∷ number timestamp n.timestamp ∷ string extensions t.extensions
    ∷ number algorithms n.algorithms ∷ string signature t.signature ∷ []
filled n t TreeHead =
    number version 0 ∷ number signature_type 1 ∷ number timestamp n.timestamp ∷ number size n.size ∷ string hash t.root_hash ∷ []

-- a whole structure: its name, then its fields, then the room
unfoldable pub write_first : ℕ → ℕ → Numbers → Vectors → List ℕ → Effect
write_first edition which n t out = effect out (then (line_of edition which n.entry_type) (λ l. write (filled n t l) 0))
