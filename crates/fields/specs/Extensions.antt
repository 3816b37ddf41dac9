-- Extensions as RFC 9162 has them (sections 4.6 and 4.8), and what is claimed of lists of them and of their order: proved in proofs/. Assumes nothing.
use Rattle.std.specs.Prelude.{ℕ, ◌+◌, ◌^◌, ◌≤◌, ◌<◌, ◌≡◌, ◌↔◌, ◌≢◌, List, [], ◌∷◌, ◌++◌, map, length, take, drop}
use Rattle.octets.specs.Bytes.{Bytes, joined}
use Rattle.octets.specs.Numbers.{width_of, be}
use Rattle.octets.specs.declared.number.Width.{Width}
use Rattle.fields.specs.declared.layout.Part.{Part}
use Rattle.fields.specs.declared.layout.Order.{Order}
use Rattle.fields.specs.declared.layout.Order.TheVariants.{Ordered, Unordered}
use Rattle.fields.specs.declared.layout.Inner.{Inner}
use Rattle.fields.specs.declared.layout.Inner.TheVariants.{Opaque, ExtensionList, NodeList}
use Rattle.fields.specs.declared.layout.Field.{Field}
use Rattle.fields.specs.declared.layout.Field.TheVariants.{Uint, Vector, OneOf, Fixed}
use Rattle.fields.specs.Checked.{Checked, good, bad}
use Rattle.fields.specs.Layout.{inside, field, read, parts_found, bytes_at}
use Rattle.fields.specs.Write.{bytes, fill, laid, Filled, write}
use Rattle.fields.specs.Claims.{Each, AllTyped, layout}

-- an extension (section 4.6): extension_type in 2 bytes, extension_data <0..2^16-1>
pub record Extension : Type 0 where
  pub extension_type : ℕ
  pub extension_data : List ℕ

abbrev pub Fits : Extension → Type 0
Fits x = (x.extension_type < 2 ^ 16) × (length x.extension_data < 2 ^ 16)

abbrev pub extension_bytes : Extension → List ℕ
extension_bytes x = be 2 x.extension_type ++ (be 2 (length x.extension_data) ++ x.extension_data)

-- the body of a vector of extensions
abbrev pub list_bytes : List Extension → List ℕ
list_bytes xs = joined (map extension_bytes xs)

-- no two of one type, and ordered by type, smallest first (section 4.8)
abbrev pub Ascending : List Extension → Type 0
Ascending [] = Unit
Ascending (x ∷ xs) = Each (λ y. x.extension_type < y.extension_type) xs × Ascending xs

-- what an order asks of a list
abbrev pub Asked : Order → List Extension → Type 0
Asked Ordered xs = Ascending xs
Asked Unordered xs = Unit

-- bytes that are some extensions, in the order that is asked
pub record Extended (o : Order) (b : List ℕ) : Type 0 where
  pub list : List Extension
  pub fit : Each Fits list
  pub bytes : b ≡ list_bytes list
  pub asked : Asked o list

-- a body is fine exactly if it is some extensions in the order that is asked, and it is those of one list alone
abbrev pub FineIsExtended : Type 0
FineIsExtended = (o : Order) (b : List ℕ) (at : ℕ) → Bytes b → (inside (ExtensionList o) b at ≡ good tt) ↔ Extended o b

abbrev pub OneList : Type 0
OneList = (xs ys : List Extension) → Each Fits xs → Each Fits ys → list_bytes xs ≡ list_bytes ys → xs ≡ ys

-- bytes that begin with extensions in ascending order up to a place, and the one that starts there, whole, is not above all before it
pub record OutOfOrder (b : List ℕ) (at place : ℕ) : Type 0 where
  pub before : List Extension
  pub it : Extension
  pub rest : List ℕ
  pub fit : Each Fits (before ++ (it ∷ []))
  pub bytes : b ≡ list_bytes (before ++ (it ∷ [])) ++ rest
  pub ascending : Ascending before
  pub unsorted : Ascending (before ++ (it ∷ [])) → ⊥
  pub starts : place ≡ at + length (list_bytes before)

-- 15 is given exactly there, whatever comes behind that extension
abbrev pub FifteenIsOutOfOrder : Type 0
FifteenIsOutOfOrder = (b : List ℕ) (at place : ℕ) → Bytes b → (inside (ExtensionList Ordered) b at ≡ bad 15 place) ↔ OutOfOrder b at place

-- the older rule: the same fields, and no order asked
abbrev pub any_order : Inner → Inner
any_order Opaque = Opaque
any_order (ExtensionList o) = ExtensionList Unordered
any_order NodeList = NodeList

abbrev pub unordered : Field → Field
unordered (Uint w) = Uint w
unordered (Vector w least most i) = Vector w least most (any_order i)
unordered (OneOf w least most) = OneOf w least most
unordered (Fixed n) = Fixed n

-- over any layout: what is read now was read by the older rule, and alike
abbrev pub StillRead : Type 0
StillRead = (fs : List Field) (s : List ℕ) (at : ℕ) (ps : List Part) → read fs s at ≡ good ps → read (map unordered fs) s at ≡ good ps

-- an answer that accepts all that stands up to a place and at it
abbrev pub GoesOn : {A : Type 0} → ℕ → Checked A → Type 0
GoesOn y (good a) = Unit
GoesOn y (bad x z) = y < z

-- 15 is given only where the older rule went on, and every other refusal is the older rule's
abbrev pub RefusedByOrder : Type 0
RefusedByOrder =
    (fs : List Field) (s : List ℕ) (at x y : ℕ) → read fs s at ≡ bad x y
    → (x ≡ 15 → GoesOn y (read (map unordered fs) s at)) × (x ≢ 15 → read (map unordered fs) s at ≡ bad x y)

-- 15 stands in a list of extensions, where the first one starts that is out of order
pub record ListOutOfOrder (s : List ℕ) (y : ℕ) : Type 0 where
  pub start : ℕ
  pub len : ℕ
  pub within : start + len ≤ length s
  pub out : OutOfOrder (take len (drop start s)) start y

abbrev pub FifteenInList : Type 0
FifteenInList = (fs : List Field) (s : List ℕ) (at y : ℕ) → Bytes s → read fs s at ≡ bad 15 y → ListOutOfOrder s y

-- every list of extensions among the fields is in the order that its field asks
abbrev pub BodyInOrder : Inner → List ℕ → Type 0
BodyInOrder Opaque b = Unit
BodyInOrder (ExtensionList o) b = Extended o b
BodyInOrder NodeList b = Unit

abbrev pub FieldInOrder : Field → List ℕ → Part → Type 0
FieldInOrder (Uint w) s p = Unit
FieldInOrder (Vector w least most i) s p = BodyInOrder i (bytes_at s p)
FieldInOrder (OneOf w least most) s p = Unit
FieldInOrder (Fixed n) s p = Unit

abbrev pub InOrder : List Field → List ℕ → List Part → Type 0
InOrder [] s ps = Unit
InOrder (f ∷ fs) s [] = Unit
InOrder (f ∷ fs) s (p ∷ ps) = FieldInOrder f s p × InOrder fs s ps

-- what the older rule read is read now exactly if its extensions are in order
abbrev pub ReadByOrder : Type 0
ReadByOrder =
    (fs : List Field) (s : List ℕ) (at : ℕ) (ps : List Part) → Bytes s → read (map unordered fs) s at ≡ good ps
    → (read fs s at ≡ good ps) ↔ InOrder fs s ps

-- every other refusal comes where all lists found before it, by the older rule, are in order
abbrev pub OrderFirst : Type 0
OrderFirst =
    (fs : List Field) (s : List ℕ) (at x y : ℕ) → Bytes s → read fs s at ≡ bad x y → x ≢ 15 → InOrder fs s (parts_found (map unordered fs) s at)

-- the writer refuses extensions exactly as the reader refuses what they would be written as, whatever comes behind
abbrev pub RefusedAsRead : Type 0
RefusedAsRead =
    (w : Width) (least most : ℕ) (o : Order) (v rest : List ℕ) (at x y : ℕ) → length v < 256 ^ width_of w
    → (fill (Vector w least most (ExtensionList o)) (bytes v) at ≡ bad x y)
    ↔ (field (Vector w least most (ExtensionList o)) (laid (Vector w least most (ExtensionList o)) (bytes v) ++ rest) at ≡ bad x y)

-- the bytes of all fields, each as it is laid out, whether its value is refused or not
abbrev pub all_laid : List Filled → List ℕ
all_laid [] = []
all_laid (f ∷ fs) = laid f.field f.value ++ all_laid fs

-- over any layout: an element that the writer refuses is the first thing that the reader refuses in what would be written
abbrev pub LayoutRefusedAsRead : Type 0
LayoutRefusedAsRead =
    (fs : List Filled) (front : List ℕ) (x y : ℕ) → AllTyped fs → write fs (length front) ≡ bad x y → x ≢ 5 → x ≢ 10
    → read (layout fs) (front ++ all_laid fs) (length front) ≡ bad x y
