-- Whole items: what the reader answers and what the writer writes (document 01, 'Items'; RFC 9162, sections 4.5 to 4.12). Assumes nothing.
use Rattle.std.specs.Prelude.{ℕ, ◌≡◌, List, [], ◌∷◌, map, cond, length, take, ltb, Result, Ok, Err}
use Rattle.octets.specs.Limits.{most_item}
use Rattle.octets.specs.Numbers.{unbe, be}
use Rattle.octets.specs.Refusals.{refusal_number}
use Rattle.fields.specs.declared.layout.Part.{Part}
use Rattle.fields.specs.declared.layout.Field.{Field}
use Rattle.fields.specs.Checked.{Checked, good, bad, then}
use Rattle.fields.specs.Layout.{read, parts_found}
use Rattle.fields.specs.Write.{Value, uint, bytes, Filled, join, write}
use Rattle.fields.specs.Effect.{Effect, effect}
use Rattle.item.specs.declared.table.Case.{Case}
use Rattle.item.specs.declared.table.Case.TheVariants.{Entry, Receipt, SignedHead, Consistency, Inclusion, Page}
use Rattle.item.specs.declared.reader.Item.{Item}
use Rattle.item.specs.declared.reader.Item.TheVariants.{Entry as entry, Receipt as receipt, SignedHead as signed_head, Consistency as consistency}
use Rattle.item.specs.declared.reader.Item.TheVariants.{Inclusion as inclusion, Page as page}
use Rattle.item.specs.declared.reader.ItemRefused.{ItemRefused}
use Rattle.item.specs.declared.table.Met.{Met}
use Rattle.item.specs.declared.table.Met.TheVariants.{Whole, TypeBytes}
use Rattle.item.specs.declared.table.Name.{Name}
use Rattle.item.specs.declared.table.Name.TheVariants.{Timestamp, Size, SizeOne, SizeTwo, Place, Agreement, PageNumber}
use Rattle.item.specs.declared.table.Name.TheVariants.{LogId, IssuerKeyHash, Certificate, RootHash, Extensions, Signature, Path, Body}
use Rattle.item.specs.declared.writer.Numbers.{Numbers}
use Rattle.item.specs.declared.writer.Vectors.{Vectors as Slices}
use Rattle.item.specs.Table.{field_of, names_of, layout_of, met_in, types, find}

-- an item that was read: its line of the table, its type, and where its fields lie, in the table's order
pub record Reading : Type 0 where
  pub case : Case
  pub kind : ℕ
  pub fields : List Part

abbrev pub item : Case → ℕ → List Part → Checked Reading
item c k ps = good (record { case = c; kind = k; fields = ps })

-- what each case of the reader's answer says
abbrev pub reading : Result Item ItemRefused → Checked Reading
reading (Ok (entry k timestamp issuer_key_hash certificate extensions)) =
    item Entry k (timestamp ∷ issuer_key_hash ∷ certificate ∷ extensions ∷ [])
reading (Ok (receipt k log_id timestamp extensions signature)) =
    item Receipt k (log_id ∷ timestamp ∷ extensions ∷ signature ∷ [])
reading (Ok (signed_head k log_id timestamp size root_hash extensions signature)) =
    item SignedHead k (log_id ∷ timestamp ∷ size ∷ root_hash ∷ extensions ∷ signature ∷ [])
reading (Ok (consistency k log_id size_one_of size_two_of path)) =
    item Consistency k (log_id ∷ size_one_of ∷ size_two_of ∷ path ∷ [])
reading (Ok (inclusion k log_id size place path)) =
    item Inclusion k (log_id ∷ size ∷ place ∷ path ∷ [])
reading (Ok (page k timestamp agreement number body)) =
    item Page k (timestamp ∷ agreement ∷ number ∷ body ∷ [])
reading (Err e) = bad (refusal_number e.refusal) e.place

-- a whole item by the fields of its line: 1 at 0 if it is too long; then the two bytes of its type; then its fields
unfoldable pub read_by : (Case → List Field) → List ℕ → Checked Reading
read_by fields_of s =
    cond (ltb most_item (length s)) (bad 1 0)
    (cond (ltb (length s) 2) (bad 2 0)
    (then (find types (unbe (take 2 s))) (λ c. then (read (fields_of c) s 2) (item c (unbe (take 2 s))))))

abbrev pub read_item : List ℕ → Checked Reading
read_item s = read_by layout_of s

-- what a refusal met: the whole item where it is too long, its type where that is cut or not in the list, the first field that is not found, or what comes
-- after the last
abbrev pub met_after : Checked Case → (Case → Met) → Met
met_after (good c) go = go c
met_after (bad x at) go = TypeBytes

unfoldable pub met_by : List ℕ → Met
met_by s =
    cond (ltb most_item (length s)) Whole
    (cond (ltb (length s) 2) TypeBytes
    (met_after (find types (unbe (take 2 s))) (λ c. met_in c (length (parts_found (layout_of c) s 2)))))

-- what the answer says of it; an item that is read met nothing
abbrev pub Meets : Result Item ItemRefused → Met → Type 0
Meets (Ok i) m = Unit
Meets (Err e) m = e.met ≡ m

-- the bytes that the writer is given for each vector: extensions as their encoded elements, a path as joined hashes
pub record Vectors : Type 0 where
  pub log_id : List ℕ
  pub issuer_key_hash : List ℕ
  pub certificate : List ℕ
  pub root_hash : List ℕ
  pub extensions : List ℕ
  pub signature : List ℕ
  pub path : List ℕ
  pub body : List ℕ

abbrev pub vectors : List ℕ → List ℕ → List ℕ → List ℕ → List ℕ → List ℕ → List ℕ → List ℕ → Vectors
vectors l i c r x g p b =
    record { log_id = l; issuer_key_hash = i; certificate = c; root_hash = r; extensions = x; signature = g; path = p; body = b }

-- what stands behind the code's slices
abbrev pub lent : Slices → Vectors
lent v = vectors v.log_id.now v.issuer_key_hash.now v.certificate.now v.root_hash.now v.extensions.now v.signature.now v.path.now v.body.now

-- what the writer is given by a field's name
abbrev pub value_of : Numbers → Vectors → Name → Value
value_of n t Timestamp = uint n.timestamp
value_of n t Size = uint n.size
value_of n t SizeOne = uint n.size_one
value_of n t SizeTwo = uint n.size_two
value_of n t Place = uint n.place
value_of n t Agreement = uint n.agreement
value_of n t PageNumber = uint n.page
value_of n t LogId = bytes t.log_id
value_of n t IssuerKeyHash = bytes t.issuer_key_hash
value_of n t Certificate = bytes t.certificate
value_of n t RootHash = bytes t.root_hash
value_of n t Extensions = bytes t.extensions
value_of n t Signature = bytes t.signature
value_of n t Path = bytes t.path
value_of n t Body = bytes t.body

abbrev pub filled : Numbers → Vectors → List Name → List Filled
filled n t ns = map (λ (x : Name). record { field = field_of x; value = value_of n t x }) ns

-- a whole item: the two bytes of its type, then its fields
unfoldable pub write_item : ℕ → Numbers → Vectors → List ℕ → Effect
write_item k n t out = effect out (then (find types k) (λ c. join (be 2 k) (write (filled n t (names_of c)) 2)))
