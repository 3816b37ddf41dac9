-- Document 01's table of items, as data: each named field's kind with its range, the fields of each line, the types of each line. Assumes nothing.
-- RFC 9162: log id 4.4, types 4.5, extensions 4.6, entries 4.7, receipts 4.8, node hash 4.9, signed head 4.10, consistency 4.11, inclusion 4.12.
use Rattle.std.specs.Prelude.{ℕ, List, [], ◌∷◌, map, cond, length, get_or, eqb, ltb}
use Rattle.fields.specs.declared.layout.Order.TheVariants.{Ordered}
use Rattle.fields.specs.declared.layout.Inner.TheVariants.{Opaque, ExtensionList, NodeList}
use Rattle.fields.specs.declared.layout.Field.{Field}
use Rattle.fields.specs.declared.layout.Field.TheVariants.{Uint, Vector}
use Rattle.octets.specs.declared.number.Width.TheVariants.{One, Two, Three, Eight}
use Rattle.item.specs.declared.table.Name.{Name}
use Rattle.item.specs.declared.table.Name.TheVariants.{Timestamp, Size, SizeOne, SizeTwo, Place, Agreement, PageNumber}
use Rattle.item.specs.declared.table.Name.TheVariants.{LogId, IssuerKeyHash, Certificate, RootHash, Extensions, Signature, Path, Body}
use Rattle.item.specs.declared.table.Met.{Met}
use Rattle.item.specs.declared.table.Met.TheVariants.{Named, After}
use Rattle.item.specs.declared.table.Case.{Case}
use Rattle.item.specs.declared.table.Case.TheVariants.{Entry, Receipt, SignedHead, Consistency, Inclusion, Page}
use Rattle.fields.specs.Checked.{Checked, good, bad}

-- a vector's prefix is as wide as the upper limit that the RFC gives it: <32..255> has one byte, though only 32 is ours
abbrev pub field_of : Name → Field
field_of Timestamp = Uint Eight
field_of Size = Uint Eight
field_of SizeOne = Uint Eight
field_of SizeTwo = Uint Eight
field_of Place = Uint Eight
field_of Agreement = Uint Eight
field_of PageNumber = Uint Two
field_of LogId = Vector One 2 127 Opaque
field_of IssuerKeyHash = Vector One 32 32 Opaque
field_of Certificate = Vector Three 1 16777215 Opaque
field_of RootHash = Vector One 32 32 Opaque
field_of Extensions = Vector Two 0 65535 (ExtensionList Ordered)
field_of Signature = Vector Two 1 65535 Opaque
field_of Path = Vector Two 0 65535 NodeList
field_of Body = Vector Three 1 16777215 Opaque

-- the fields after the two type bytes
abbrev pub names_of : Case → List Name
names_of Entry = Timestamp ∷ IssuerKeyHash ∷ Certificate ∷ Extensions ∷ []
names_of Receipt = LogId ∷ Timestamp ∷ Extensions ∷ Signature ∷ []
names_of SignedHead = LogId ∷ Timestamp ∷ Size ∷ RootHash ∷ Extensions ∷ Signature ∷ []
names_of Consistency = LogId ∷ SizeOne ∷ SizeTwo ∷ Path ∷ []
names_of Inclusion = LogId ∷ Size ∷ Place ∷ Path ∷ []
names_of Page = Timestamp ∷ Agreement ∷ PageNumber ∷ Body ∷ []

abbrev pub layout_of : Case → List Field
layout_of c = map field_of (names_of c)

-- what is met behind so many fields of a line: the next one by its name, or what comes after the last
abbrev pub met_in : Case → ℕ → Met
met_in c i = cond (ltb i (length (names_of c))) (Named (get_or (names_of c) i Timestamp)) After

-- a type and its line of the table
pub record TypeRow : Type 0 where
  pub kind : ℕ
  pub case : Case

abbrev pub type_row : ℕ → Case → TypeRow
type_row k c = record { kind = k; case = c }

abbrev pub types : List TypeRow
types =
    type_row 0x0100 Entry
    ∷ type_row 0x0101 Entry
    ∷ type_row 0x0102 Receipt
    ∷ type_row 0x0103 Receipt
    ∷ type_row 0x0104 SignedHead
    ∷ type_row 0x0105 Consistency
    ∷ type_row 0x0106 Inclusion
    ∷ type_row 0xF001 Page
    ∷ []

-- the line of a type; a type that is not in the list is 4 at 0
unfoldable pub find : List TypeRow → ℕ → Checked Case
find [] k = bad 4 0
find (r ∷ rs) k = cond (eqb k r.kind) (good r.case) (find rs k)
