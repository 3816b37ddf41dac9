-- The names that a caller gives, and the fields of each structure, as data. Assumes nothing.
-- RFC 6962: version, log id, timestamp and extensions 3.2, the leaf with its types 3.4 and 3.1, the signed portion of a tree head 3.5.
use Rattle.std.specs.Prelude.{ℕ, List, [], ◌∷◌, cond, eqb}
use Rattle.octets.specs.declared.number.Width.TheVariants.{One, Two, Three, Eight}
use Rattle.fields.specs.declared.layout.Inner.TheVariants.{Opaque}
use Rattle.fields.specs.declared.layout.Field.{Field}
use Rattle.fields.specs.declared.layout.Field.TheVariants.{Uint, Vector, OneOf, Fixed}
use Rattle.fields.specs.Checked.{Checked, good, bad}
use Rattle.first.specs.declared.table.Line.{Line}
use Rattle.first.specs.declared.table.Line.TheVariants.{X509Entry, PrecertEntry, CertificateTimestamp, TreeHead}

-- v1(0); timestamped_entry(0); x509_entry(0), precert_entry(1); tree_hash(1)
abbrev pub version : Field
version = OneOf One 0 0

abbrev pub leaf_type : Field
leaf_type = OneOf One 0 0

abbrev pub entry_type_of : Field
entry_type_of = OneOf Two 0 1

abbrev pub signature_type : Field
signature_type = OneOf One 1 1

abbrev pub timestamp : Field
timestamp = Uint Eight

abbrev pub size : Field
size = Uint Eight

-- two bytes of the signature, one for the hash and one for the signing, not judged
abbrev pub algorithms : Field
algorithms = Uint Two

-- log id, issuer key hash, root: 32 bytes with no length in front
abbrev pub hash : Field
hash = Fixed 32

abbrev pub certificate : Field
certificate = Vector Three 1 16777215 Opaque

abbrev pub extensions : Field
extensions = Vector Two 0 65535 Opaque

abbrev pub signature : Field
signature = Vector Two 0 65535 Opaque

abbrev pub layout_of : Line → List Field
layout_of X509Entry = version ∷ leaf_type ∷ timestamp ∷ entry_type_of ∷ certificate ∷ extensions ∷ []
layout_of PrecertEntry = version ∷ leaf_type ∷ timestamp ∷ entry_type_of ∷ hash ∷ certificate ∷ extensions ∷ []
layout_of CertificateTimestamp = version ∷ hash ∷ timestamp ∷ extensions ∷ algorithms ∷ signature ∷ []
layout_of TreeHead = version ∷ signature_type ∷ timestamp ∷ size ∷ hash ∷ []

-- the two cases of a leaf, by the entry type. One that is neither is refused at that field, which stands before all that the two lines differ in.
abbrev pub leaf_line : ℕ → Line
leaf_line k = cond (eqb k 1) PrecertEntry X509Entry

-- edition 1 is RFC 6962, and its structures are 1, a leaf, 2, a signed certificate timestamp, and 3, a tree head; any other name is 4 at 0
unfoldable pub line_of : ℕ → ℕ → ℕ → Checked Line
line_of edition which entry =
    cond (eqb edition 1)
    (cond (eqb which 1) (good (leaf_line entry))
    (cond (eqb which 2) (good CertificateTimestamp)
    (cond (eqb which 3) (good TreeHead)
    (bad 4 0))))
    (bad 4 0)
