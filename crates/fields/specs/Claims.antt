-- What is claimed of fields and layouts: proved in proofs/. Assumes nothing: these are statements.
use Rattle.std.specs.Prelude.{ℕ, ◌+◌, ◌-◌, ◌*◌, ◌^◌, ◌≤◌, ◌<◌, ◌≡◌, ◌≢◌, List, [], ◌∷◌, ◌++◌, map, cond, ltb, length, get_or, take, drop, Result}
use Rattle.octets.specs.Bytes.{Bytes, joined}
use Rattle.octets.specs.declared.number.Width.{Width}
use Rattle.octets.specs.Numbers.{width_of, be}
use Rattle.octets.specs.Claims.{AnswersTellApart}
use Rattle.fields.specs.declared.layout.Part.{Part}
use Rattle.fields.specs.declared.layout.Element.{Element}
use Rattle.fields.specs.declared.layout.RefusedAt.{RefusedAt}
use Rattle.fields.specs.declared.reading.LayoutRefused.{LayoutRefused}
use Rattle.fields.specs.declared.layout.Inner.{Inner}
use Rattle.fields.specs.declared.layout.Field.{Field}
use Rattle.fields.specs.declared.layout.Field.TheVariants.{Uint, Vector, OneOf, Fixed}
use Rattle.fields.specs.Checked.{Checked, good, bad, checked}
use Rattle.fields.specs.Layout.{inside, whole, field, read, parts_found, bytes_at}
use Rattle.fields.specs.Write.{Value, uint, bytes, fill, laid, Filled, write, opened, values}
use Rattle.fields.specs.Effect.{wrote, effect}
use Rattle.fields.specs.Answers.{told_of}
use Rattle.fields.specs.Path.{encoded, path_at, copy_path}

-- what the code's answers say loses nothing, of an element, a field, a length and a layout of n fields: no two answers say the same
pub record AnswersLoseNothing : Type 0 where
  pub of_an_element : AnswersTellApart Element
  pub of_a_field : (x y : Result Part RefusedAt) → checked x ≡ checked y → x ≡ y
  pub of_a_length : (x y : Result ℕ RefusedAt) → checked x ≡ checked y → x ≡ y
  pub of_a_layout : (n : ℕ) (x y : Result (List Part) LayoutRefused) → told_of n x ≡ told_of n y → x ≡ y

-- one field that was found, filled with what was found there, is the same bytes
abbrev pub ReadThenFilled : Type 0
ReadThenFilled =
    (f : Field) (s : List ℕ) (at : ℕ) (p : Part) → Bytes s → field f (drop at s) at ≡ good p
    → (fill f (opened f p s) at ≡ good (take (p.start + p.len - at) (drop at s))) × (at ≤ p.start + p.len)

-- a field and a value of its kind: a number that its bytes can hold; a prefix that can hold the vector's length
abbrev pub Typed : Field → Value → Type 0
Typed (Uint w) (uint n) = n < 256 ^ width_of w
Typed (Uint w) (bytes v) = ⊥
Typed (Vector w least most i) (uint n) = ⊥
Typed (Vector w least most i) (bytes v) = most < 256 ^ width_of w
Typed (OneOf w least most) (uint n) = n < 256 ^ width_of w
Typed (OneOf w least most) (bytes v) = ⊥
Typed (Fixed n) (uint m) = ⊥
Typed (Fixed n) (bytes v) = Unit

-- one field that was filled is found, whatever stands before it and behind it, with its value
pub record Kept (f : Field) (v : Value) (front b rest : List ℕ) : Type 0 where
  pub place : Part
  pub found : field f (b ++ rest) (length front) ≡ good place
  pub end : place.start + place.len ≡ length front + length b
  pub same : opened f place (front ++ (b ++ rest)) ≡ v

abbrev pub FilledThenRead : Type 0
FilledThenRead =
    (f : Field) (v : Value) (front b rest : List ℕ) → Typed f v → fill f v (length front) ≡ good b → Kept f v front b rest

-- a vector that is there, with a length in its range, is judged by its elements alone, whatever comes behind it
abbrev pub VectorByElements : Type 0
VectorByElements =
    (w : Width) (least most : ℕ) (i : Inner) (b rest : List ℕ) (at : ℕ) → least ≤ length b → length b ≤ most → length b < 256 ^ width_of w
    → field (Vector w least most i) ((be (width_of w) (length b) ++ b) ++ rest) at
    ≡ whole (inside i b (at + width_of w)) (record { start = at + width_of w; len = length b; value = length b })

-- a number that must be one of few is taken exactly if it is; any other is 4 where it starts, written, and read whatever comes behind it
abbrev pub OneOfJudged : Type 0
OneOfJudged =
    (w : Width) (least most n : ℕ) (rest : List ℕ) (at : ℕ)
    → (least ≤ n → n ≤ most
    → (fill (OneOf w least most) (uint n) at ≡ good (be (width_of w) n))
    × (n < 256 ^ width_of w → field (OneOf w least most) (be (width_of w) n ++ rest) at ≡ good (record { start = at; len = width_of w; value = n })))
    × ((least ≤ n → n ≤ most → ⊥)
    → (fill (OneOf w least most) (uint n) at ≡ bad 4 at)
    × (n < 256 ^ width_of w → field (OneOf w least most) (be (width_of w) n ++ rest) at ≡ bad 4 at))

-- bytes of a fixed length stand as they are, whatever comes behind them; others are 5 where they would start
abbrev pub FixedAsIs : Type 0
FixedAsIs =
    (n : ℕ) (b rest : List ℕ) (at : ℕ)
    → (length b ≡ n → (field (Fixed n) (b ++ rest) at ≡ good (record { start = at; len = n; value = n })) × (fill (Fixed n) (bytes b) at ≡ good b))
    × (length b ≢ n → fill (Fixed n) (bytes b) at ≡ bad 5 at)

-- where there are too few bytes for either, it is cut, whatever they are
abbrev pub CutFirst : Type 0
CutFirst =
    (w : Width) (least most n : ℕ) (r : List ℕ) (at : ℕ)
    → (length r < width_of w → field (OneOf w least most) r at ≡ bad 2 at) × (length r < n → field (Fixed n) r at ≡ bad 2 at)

-- over any layout: what is read, written again, is the same bytes
abbrev pub LayoutAgain : Type 0
LayoutAgain =
    (fs : List Field) (s : List ℕ) (at : ℕ) (ps : List Part) → Bytes s → at ≤ length s → read fs s at ≡ good ps
    → write (values fs ps s) at ≡ good (drop at s)

-- every field has a value of its kind
pub data AllTyped : List Filled → Type 0 where
  no_fields : AllTyped []
  one_field : {f : Filled} {fs : List Filled} → Typed f.field f.value → AllTyped fs → AllTyped (f ∷ fs)

abbrev pub layout : List Filled → List Field
layout [] = []
layout (f ∷ fs) = f.field ∷ layout fs

-- over any layout: what is written reads back as the same values
pub record ReadBack (fs : List Filled) (front b : List ℕ) : Type 0 where
  pub parts : List Part
  pub read : read (layout fs) (front ++ b) (length front) ≡ good parts
  pub same : values (layout fs) parts (front ++ b) ≡ fs

abbrev pub LayoutBack : Type 0
LayoutBack = (fs : List Filled) (front b : List ℕ) → AllTyped fs → write fs (length front) ≡ good b → ReadBack fs front b

-- over any layout: the fields that are read lie in a row, each behind its prefix if it has one, from the place where reading began to the end of the bytes
abbrev pub lead : Field → ℕ
lead (Uint w) = 0
lead (Vector w least most i) = width_of w
lead (OneOf w least most) = 0
lead (Fixed n) = 0

abbrev pub LongAs : Field → Part → Type 0
LongAs (Uint w) p = p.len ≡ width_of w
LongAs (Vector w least most i) p = p.len ≡ p.value
LongAs (OneOf w least most) p = p.len ≡ width_of w
LongAs (Fixed n) p = p.len ≡ n

abbrev pub InARow : List Field → List Part → ℕ → ℕ → Type 0
InARow [] [] at end = at ≡ end
InARow [] (p ∷ ps) at end = ⊥
InARow (f ∷ fs) [] at end = ⊥
InARow (f ∷ fs) (p ∷ ps) at end = (p.start ≡ at + lead f) × LongAs f p × InARow fs ps (p.start + p.len) end

abbrev pub ReadInARow : Type 0
ReadInARow = (fs : List Field) (s : List ℕ) (at : ℕ) (ps : List Part) → at ≤ length s → read fs s at ≡ good ps → InARow fs ps at (length s)

-- fields that are found one after the other, from a place up to another
pub data Upto (s : List ℕ) : List Field → ℕ → ℕ → Type 0 where
  here : {at : ℕ} → Upto s [] at at
  past : {f : Field} {fs : List Field} {at end : ℕ} (p : Part) → field f (drop at s) at ≡ good p → Upto s fs (p.start + p.len) end → Upto s (f ∷ fs) at end

-- over any layout: left to right, the first bad field decides, with its own number and place, and bytes behind the last field are 3 where they start
abbrev pub LeftToRight : Type 0
LeftToRight =
    ((fs gs : List Field) (f : Field) (s : List ℕ) (at end x y : ℕ) → Upto s fs at end → field f (drop end s) end ≡ bad x y
    → read (fs ++ (f ∷ gs)) s at ≡ bad x y)
    × ((fs : List Field) (s : List ℕ) (at end : ℕ) → Upto s fs at end → end < length s → read fs s at ≡ bad 3 end)
    × ((fs gs : List Filled) (f : Filled) (at x y : ℕ) (b : List ℕ) → write fs at ≡ good b → fill f.field f.value (at + length b) ≡ bad x y
    → write (fs ++ (f ∷ gs)) at ≡ bad x y)

-- where the piece starts that holds byte k of pieces that stand one after the other
abbrev pub start_of : List (List ℕ) → ℕ → ℕ
start_of [] k = 0
start_of (b ∷ bs) k = cond (ltb k (length b)) 0 (length b + start_of bs (k - length b))

-- over any layout: what was written, cut at any byte, is refused with 2 where the field starts that is cut, whatever fields are asked for behind; and with
-- bytes behind it, it is refused with 3 where these start
abbrev pub pieces : List Filled → List (List ℕ)
pieces fs = map (λ (f : Filled). laid f.field f.value) fs

abbrev pub CutThere : Type 0
CutThere =
    (fs : List Filled) (gs : List Field) (front b : List ℕ) (k : ℕ) → AllTyped fs → write fs (length front) ≡ good b → k < length b
    → read (layout fs ++ gs) (front ++ take k b) (length front) ≡ bad 2 (length front + start_of (pieces fs) k)

abbrev pub OverThere : Type 0
OverThere =
    (fs : List Filled) (front b : List ℕ) (c : ℕ) (r : List ℕ) → AllTyped fs → write fs (length front) ≡ good b
    → read (layout fs) (front ++ (b ++ (c ∷ r))) (length front) ≡ bad 3 (length front + length b)

-- the room is asked for last: what is refused is refused in any buffer, and what does not fit is 9 at 0
abbrev pub RoomLast : Type 0
RoomLast =
    (a : Checked (List ℕ)) (out : List ℕ)
    → ((x y : ℕ) → a ≡ bad x y → (effect out a).answer ≡ bad x y)
    × ((b : List ℕ) → a ≡ good b → length out < length b → (effect out a).answer ≡ bad 9 0)
    × ((b : List ℕ) → a ≡ good b → length b ≤ length out → effect out a ≡ wrote b out)

abbrev pub Each : {A : Type 0} → (A → Type 0) → List A → Type 0
Each P [] = Unit
Each P (x ∷ xs) = P x × Each P xs

-- over any layout: every field that is read, and the place of every refusal, lies within the bytes
abbrev pub FieldsWithin : Type 0
FieldsWithin =
    (s : List ℕ) (fs : List Field) (at : ℕ) (ps : List Part) → at ≤ length s → read fs s at ≡ good ps → Each (λ p. p.start + p.len ≤ length s) ps

abbrev pub RefusedWithin : Type 0
RefusedWithin = (s : List ℕ) (fs : List Field) (at x y : ℕ) → at ≤ length s → read fs s at ≡ bad x y → y ≤ length s

-- over any layout: what is read is what is found; where reading is refused, the fields found end at or before the refusal's place, and the field behind
-- them is the one that was refused, or, with 3, there is none
pub record Met (fs : List Field) (s : List ℕ) (at x y : ℕ) : Type 0 where
  pub before : Each (λ p. p.start + p.len ≤ y) (parts_found fs s at)
  pub some : length (parts_found fs s at) ≤ length fs
  pub over : length (parts_found fs s at) ≡ length fs → x ≡ 3

abbrev pub FoundBefore : Type 0
FoundBefore =
    (fs : List Field) (s : List ℕ) (at : ℕ)
    → ((ps : List Part) → read fs s at ≡ good ps → parts_found fs s at ≡ ps)
    × ((x y : ℕ) → read fs s at ≡ bad x y → Met fs s at x y)

-- what is copied of a part is what stands there: hashes of 32 bytes, each with its length, and the same hashes joined
pub record PathCopied (s : List ℕ) (p : Part) (w : List ℕ) : Type 0 where
  pub within : p.start + p.len ≤ length s
  pub hashes : List (List ℕ)
  pub ours : Each (λ h. length h ≡ 32) hashes
  pub item : bytes_at s p ≡ encoded hashes
  pub path : w ≡ joined hashes
  pub size : length w ≡ 32 * length hashes
  pub each : (i : ℕ) → i < length hashes → take 32 (drop (32 * i) w) ≡ get_or hashes i []

abbrev pub CopiedIsJoined : Type 0
CopiedIsJoined = (s : List ℕ) (p : Part) (w : List ℕ) → path_at s p ≡ good w → PathCopied s p w

-- and whatever part holds such hashes is copied
abbrev pub JoinedIsCopied : Type 0
JoinedIsCopied =
    (s : List ℕ) (p : Part) (hs : List (List ℕ)) → p.start + p.len ≤ length s → Each (λ h. length h ≡ 32) hs → bytes_at s p ≡ encoded hs
    → path_at s p ≡ good (joined hs)

-- a refused copy changes no byte; otherwise the bytes past those written stay
abbrev pub CopyKeeps : Type 0
CopyKeeps =
    (s : List ℕ) (p : Part) (out : List ℕ)
    → ((x at : ℕ) → (copy_path s p out).answer ≡ bad x at → (copy_path s p out).bytes ≡ out)
    × ((m : ℕ) → (copy_path s p out).answer ≡ good m → drop m (copy_path s p out).bytes ≡ drop m out)
