-- What is proved of whole items beside the promises, in the words of the second demand. Assumes nothing.
use Rattle.std.specs.Prelude.{ℕ, ◌+◌, ◌^◌, ◌≤◌, ◌<◌, ◌≡◌, ◌↔◌, ◌≢◌, List, [], ◌∷◌, ◌++◌, map, length, get_or, take, drop, Result, Ok, Err}
use Rattle.std.specs.Borrow.{Bor}
use Rattle.octets.specs.Bytes.{Bytes}
use Rattle.octets.specs.Limits.{most_item}
use Rattle.fields.specs.declared.layout.Part.{Part}
use Rattle.fields.specs.declared.layout.Order.TheVariants.{Ordered}
use Rattle.fields.specs.Checked.{Checked, good, bad}
use Rattle.fields.specs.Layout.{parts_found, bytes_at}
use Rattle.fields.specs.Write.{values}
use Rattle.fields.specs.Effect.{wrote}
use Rattle.fields.specs.Path.{path_at, copy_path}
use Rattle.fields.specs.Claims.{Each, PathCopied}
use Rattle.fields.specs.Extensions.{Extended, unordered, GoesOn, ListOutOfOrder, InOrder, all_laid}
use Rattle.fields.specs.Answers.{no_part}
use Rattle.octets.specs.Numbers.{be, unbe}
use Rattle.item.specs.declared.table.Name.TheVariants.{Timestamp}
use Rattle.item.specs.declared.table.Met.{Met}
use Rattle.item.specs.declared.table.Met.TheVariants.{Whole, TypeBytes, Named, After}
use Rattle.item.specs.declared.table.Case.{Case}
use Rattle.item.specs.declared.table.Case.TheVariants.{Entry, Receipt, SignedHead, Consistency, Inclusion, Page}
use Rattle.item.specs.declared.reader.Item.{Item}
use Rattle.item.specs.declared.reader.Item.TheVariants.{Entry as entry, Receipt as receipt, SignedHead as signed_head, Consistency as consistency}
use Rattle.item.specs.declared.reader.Item.TheVariants.{Inclusion as inclusion, Page as page}
use Rattle.item.specs.declared.reader.ItemRefused.{ItemRefused}
use Rattle.item.specs.declared.heads.Choice.TheVariants.{Neither}
use Rattle.item.specs.declared.writer.Numbers.{Numbers}
use Rattle.item.specs.Table.{names_of, layout_of, types, find}
use Rattle.item.specs.Item.{Reading, reading, read_by, read_item, met_by, Vectors, filled, write_item}
use Rattle.item.specs.Newer.{which, Returns}

-- the writer is given what was read in s: the type, and by each name that the type has, the value that was read there
abbrev pub Given : List ℕ → Reading → ℕ → Numbers → Vectors → Type 0
Given s r k n t = (k ≡ r.kind) × (filled n t (names_of r.case) ≡ values (layout_of r.case) r.fields s)

-- what is read, written again, is the same bytes
abbrev pub ReadThenWritten : Type 0
ReadThenWritten =
    (s out : List ℕ) (r : Reading) (k : ℕ) (n : Numbers) (t : Vectors) → Bytes s → read_item s ≡ good r → Given s r k n t → length s ≤ length out
    → write_item k n t out ≡ wrote s out

-- something that the writer can be given was read
pub record Gives (s : List ℕ) (r : Reading) : Type 0 where
  pub numbers : Numbers
  pub vectors : Vectors
  pub given : Given s r r.kind numbers vectors

abbrev pub ReadGives : Type 0
ReadGives = (s : List ℕ) (r : Reading) → read_item s ≡ good r → Gives s r

-- numbers as wide as the writer takes them
pub record Sized (k : ℕ) (n : Numbers) : Type 0 where
  pub kind : k < 2 ^ 16
  pub timestamp : n.timestamp < 2 ^ 64
  pub size : n.size < 2 ^ 64
  pub size_one_of : n.size_one < 2 ^ 64
  pub size_two_of : n.size_two < 2 ^ 64
  pub place : n.place < 2 ^ 64
  pub agreement : n.agreement < 2 ^ 64
  pub page : n.page < 2 ^ 16

-- what is written reads back as the same fields
pub record ReadsBack (s : List ℕ) (k : ℕ) (n : Numbers) (t : Vectors) : Type 0 where
  pub reading : Reading
  pub reads : read_item s ≡ good reading
  pub given : Given s reading k n t

abbrev pub WrittenThenRead : Type 0
WrittenThenRead =
    (k : ℕ) (n : Numbers) (t : Vectors) (out : List ℕ) (m : ℕ) → Sized k n → (write_item k n t out).answer ≡ good m
    → ReadsBack (take m (write_item k n t out).bytes) k n t

-- a refusal of the reader is given at a place within the input, or at its end
abbrev pub RefusedWithin : Type 0
RefusedWithin = (s : List ℕ) (x at : ℕ) → read_item s ≡ bad x at → at ≤ length s

-- every field lies within the input
abbrev pub FieldsWithin : Type 0
FieldsWithin = (s : List ℕ) (r : Reading) → read_item s ≡ good r → Each (λ p. p.start + p.len ≤ length s) r.fields

-- what a refusal met, with its number and place: the whole item with 1; the two bytes of the type; the field of its line behind those found, all of which
-- end at or before the place; what comes after the last field with 3
pub data Meeting (s : List ℕ) (x at : ℕ) : Met → Type 0 where
  whole : x ≡ 1 → at ≡ 0 → Meeting s x at Whole
  type_bytes : at ≡ 0 → Meeting s x at TypeBytes
  named : (c : Case) → find types (unbe (take 2 s)) ≡ good c → length (parts_found (layout_of c) s 2) < length (names_of c)
      → Each (λ p. p.start + p.len ≤ at) (parts_found (layout_of c) s 2)
      → Meeting s x at (Named (get_or (names_of c) (length (parts_found (layout_of c) s 2)) Timestamp))
  after : x ≡ 3 → Meeting s x at After

abbrev pub NamesItsField : Type 0
NamesItsField = (s : List ℕ) (x at : ℕ) → read_item s ≡ bad x at → Meeting s x at (met_by s)

-- a refusal of the writer changes no byte; otherwise the bytes past those written stay
abbrev pub WriterKeeps : Type 0
WriterKeeps =
    (k : ℕ) (n : Numbers) (t : Vectors) (out : List ℕ)
    → ((x at : ℕ) → (write_item k n t out).answer ≡ bad x at → (write_item k n t out).bytes ≡ out)
    × ((m : ℕ) → (write_item k n t out).answer ≡ good m → drop m (write_item k n t out).bytes ≡ drop m out)

-- the empty part comes back only where neither is chosen
abbrev pub EmptyIsNeither : Type 0
EmptyIsNeither = (a b r : Bor (List ℕ)) → Returns (which a.now b.now) a b r → r.now ≡ [] → which a.now b.now ≡ Neither

-- the lines of the table that have a path: it is their fourth field
abbrev pub HasPath : Case → Type 0
HasPath Consistency = Unit
HasPath Inclusion = Unit
HasPath Entry = ⊥
HasPath Receipt = ⊥
HasPath SignedHead = ⊥
HasPath Page = ⊥

abbrev pub path_part : Reading → Part
path_part r = get_or r.fields 3 no_part

-- the path of an item that was read is copied, and what is copied is what the item says and what the writer is given for it
pub record PathSaid (s : List ℕ) (r : Reading) : Type 0 where
  pub path : List ℕ
  pub copied : (out : List ℕ) → length path ≤ length out → copy_path s (path_part r) out ≡ wrote path out
  pub says : PathCopied s (path_part r) path
  pub given : (k : ℕ) (n : Numbers) (t : Vectors) → Given s r k n t → t.path ≡ path

abbrev pub PathIsSaid : Type 0
PathIsSaid = (s : List ℕ) (r : Reading) → read_item s ≡ good r → HasPath r.case → PathSaid s r

-- What a caller takes of the reader's answer and hands to the writer: the type, each number as it was answered, each vector's bytes where it lies, and for
-- a path what P says of its part.
abbrev pub Taken : (Part → List ℕ → Type 0) → List ℕ → Result Item ItemRefused → ℕ → Numbers → Vectors → Type 0
Taken P s (Ok (entry kind timestamp issuer_key_hash certificate extensions)) k n t =
    (k ≡ kind) × (n.timestamp ≡ timestamp.value) × (t.issuer_key_hash ≡ bytes_at s issuer_key_hash) × (t.certificate ≡ bytes_at s certificate)
    × (t.extensions ≡ bytes_at s extensions)
Taken P s (Ok (receipt kind log_id timestamp extensions signature)) k n t =
    (k ≡ kind) × (t.log_id ≡ bytes_at s log_id) × (n.timestamp ≡ timestamp.value) × (t.extensions ≡ bytes_at s extensions)
    × (t.signature ≡ bytes_at s signature)
Taken P s (Ok (signed_head kind log_id timestamp size root_hash extensions signature)) k n t =
    (k ≡ kind) × (t.log_id ≡ bytes_at s log_id) × (n.timestamp ≡ timestamp.value) × (n.size ≡ size.value) × (t.root_hash ≡ bytes_at s root_hash)
    × (t.extensions ≡ bytes_at s extensions) × (t.signature ≡ bytes_at s signature)
Taken P s (Ok (consistency kind log_id size_one_of size_two_of path)) k n t =
    (k ≡ kind) × (t.log_id ≡ bytes_at s log_id) × (n.size_one ≡ size_one_of.value) × (n.size_two ≡ size_two_of.value) × P path t.path
Taken P s (Ok (inclusion kind log_id size place path)) k n t =
    (k ≡ kind) × (t.log_id ≡ bytes_at s log_id) × (n.size ≡ size.value) × (n.place ≡ place.value) × P path t.path
Taken P s (Ok (page kind timestamp agreement number body)) k n t =
    (k ≡ kind) × (n.timestamp ≡ timestamp.value) × (n.agreement ≡ agreement.value) × (n.page ≡ number.value) × (t.body ≡ bytes_at s body)
Taken P s (Err e) k n t = ⊥

-- the path that is copied of its part
abbrev pub Copied : List ℕ → Part → List ℕ → Type 0
Copied s p w = path_at s p ≡ good w

-- both round trips as a caller makes them
abbrev pub TakenThenWritten : Type 0
TakenThenWritten =
    (s out : List ℕ) (i : Result Item ItemRefused) (k : ℕ) (n : Numbers) (t : Vectors)
    → Bytes s → reading i ≡ read_item s → Taken (Copied s) s i k n t → length s ≤ length out → write_item k n t out ≡ wrote s out

abbrev pub WrittenThenTaken : Type 0
WrittenThenTaken =
    (k : ℕ) (n : Numbers) (t : Vectors) (out : List ℕ) (m : ℕ) (i : Result Item ItemRefused) → Sized k n → (write_item k n t out).answer ≡ good m
    → reading i ≡ read_item (take m (write_item k n t out).bytes)
    → Taken (Copied (take m (write_item k n t out).bytes)) (take m (write_item k n t out).bytes) i k n t

-- by the older rule, which asks for no order of extensions
abbrev pub older_item : List ℕ → Checked Reading
older_item s = read_by (λ c. map unordered (layout_of c)) s

-- no item still accepted changes its reading
abbrev pub StillRead : Type 0
StillRead = (s : List ℕ) (r : Reading) → read_item s ≡ good r → older_item s ≡ good r

-- 15 is given only where the older rule accepted what stands before that place, and every other refusal is the older rule's
abbrev pub RefusedByOrder : Type 0
RefusedByOrder = (s : List ℕ) (x y : ℕ) → read_item s ≡ bad x y → (x ≡ 15 → GoesOn y (older_item s)) × (x ≢ 15 → older_item s ≡ bad x y)

-- 15 stands in a list of extensions, where the first one starts that is out of order
abbrev pub FifteenInList : Type 0
FifteenInList = (s : List ℕ) (y : ℕ) → Bytes s → read_item s ≡ bad 15 y → ListOutOfOrder s y

-- where the extensions of an item lie, of the lines that have them
abbrev pub extensions_in : Case → List Part → List Part
extensions_in Entry ps = get_or ps 3 no_part ∷ []
extensions_in Receipt ps = get_or ps 2 no_part ∷ []
extensions_in SignedHead ps = get_or ps 4 no_part ∷ []
extensions_in Consistency ps = []
extensions_in Inclusion ps = []
extensions_in Page ps = []

-- what the older rule accepted is accepted now exactly if its extensions are in strictly ascending order (RFC 9162, section 4.8)
abbrev pub ReadByOrder : Type 0
ReadByOrder =
    (s : List ℕ) (r : Reading) → Bytes s → older_item s ≡ good r
    → (read_item s ≡ good r) ↔ Each (λ p. Extended Ordered (bytes_at s p)) (extensions_in r.case r.fields)

-- 15 comes before anything later: where an item of a known type is refused otherwise, all lists found before it, by the older rule, are in order
abbrev pub OrderFirst : Type 0
OrderFirst =
    (s : List ℕ) (c : Case) (x y : ℕ) → Bytes s → length s ≤ most_item → 2 ≤ length s → find types (unbe (take 2 s)) ≡ good c → read_item s ≡ bad x y
    → x ≢ 15 → InOrder (layout_of c) s (parts_found (map unordered (layout_of c)) s 2)

-- what the writer refuses with 15 the reader would refuse so if it were written, at the same place
abbrev pub RefusedAsRead : Type 0
RefusedAsRead =
    (k : ℕ) (n : Numbers) (t : Vectors) (out : List ℕ) (c : Case) (y : ℕ) → Sized k n → find types k ≡ good c
    → length (be 2 k ++ all_laid (filled n t (names_of c))) ≤ most_item → (write_item k n t out).answer ≡ bad 15 y
    → read_item (be 2 k ++ all_laid (filled n t (names_of c))) ≡ bad 15 y

-- of two heads neither is chosen where one is refused, with 15 too
abbrev pub RefusedIsNeither : Type 0
RefusedIsNeither = (a b : List ℕ) (x y : ℕ) → read_item a ≡ bad x y → (which a b ≡ Neither) × (which b a ≡ Neither)
