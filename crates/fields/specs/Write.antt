-- Writing by a layout: each field is filled with a value, and refused where it would start. Assumes nothing.
use Rattle.std.specs.Prelude.{ℕ, zero, suc, ◌+◌, ◌*◌, ◌/◌, ◌%◌, List, [], ◌∷◌, ◌++◌, Bool, true, map, cond, length, get_or, take, drop, ltb, eqb}
use Rattle.std.specs.Borrow.{Bor}
use Rattle.octets.specs.Numbers.{width_of, be}
use Rattle.fields.specs.declared.layout.Part.{Part}
use Rattle.fields.specs.declared.layout.Inner.{Inner}
use Rattle.fields.specs.declared.layout.Inner.TheVariants.{Opaque, ExtensionList, NodeList}
use Rattle.fields.specs.declared.layout.Field.{Field}
use Rattle.fields.specs.declared.layout.Field.TheVariants.{Uint, Vector, OneOf, Fixed}
use Rattle.fields.specs.Checked.{Checked, good, bad, then}
use Rattle.fields.specs.Layout.{inside, allowed, bytes_at}

-- a field's value: a number, or the bytes that a vector stands for or that have a fixed length
pub data Value : Type 0 where
  uint : ℕ → Value
  bytes : List ℕ → Value

abbrev pub number_in : Value → ℕ
number_in (uint n) = n
number_in (bytes v) = 0

abbrev pub bytes_in : Value → List ℕ
bytes_in (uint n) = []
bytes_in (bytes v) = v

-- k joined hashes, each with its length in front; and k such elements without
unfoldable pub prefixed : ℕ → List ℕ → List ℕ
prefixed zero v = []
prefixed (suc k) v = 32 ∷ (take 32 v ++ prefixed k (drop 32 v))

unfoldable pub stripped : ℕ → List ℕ → List ℕ
stripped zero b = []
stripped (suc k) b = take 32 (drop 1 b) ++ stripped k (drop 33 b)

-- the body that a value stands as, and the value of a body: only node hashes differ, whose value is the joined hashes
unfoldable pub wrap : Inner → List ℕ → List ℕ
wrap Opaque v = v
wrap (ExtensionList o) v = v
wrap NodeList v = prefixed (length v / 32) v

unfoldable pub unwrap : Inner → List ℕ → List ℕ
unwrap Opaque b = b
unwrap (ExtensionList o) b = b
unwrap NodeList b = stripped (length b / 33) b

-- how long a body a value of some length needs, a hash begun counting whole
unfoldable pub body_size : Inner → ℕ → ℕ
body_size Opaque n = n
body_size (ExtensionList o) n = n
body_size NodeList n = (n + 31) / 32 * 33

-- a value of that length is whole
unfoldable pub wholes : Inner → ℕ → Bool
wholes Opaque n = true
wholes (ExtensionList o) n = true
wholes NodeList n = eqb (n % 32) 0

abbrev pub fine : Checked Unit → List ℕ → Checked (List ℕ)
fine (good u) b = good b
fine (bad x at) b = bad x at

-- what a vector is laid out as: its body's length in w bytes, then the body
abbrev pub vector_bytes : ℕ → Inner → List ℕ → List ℕ
vector_bytes w i v = be w (length (wrap i v)) ++ wrap i v

-- a vector filled with a value, at a place: 5 for a length out of range, 10 for hashes cut, then the elements' own refusal
unfoldable pub vector_filled : ℕ → ℕ → ℕ → Inner → List ℕ → ℕ → Checked (List ℕ)
vector_filled w least most i v at =
    cond (ltb (body_size i (length v)) least) (bad 5 at)
    (cond (ltb most (body_size i (length v))) (bad 5 at)
    (cond (wholes i (length v))
    (fine (inside i (wrap i v) (at + w)) (vector_bytes w i v))
    (bad 10 at)))

-- a number that must be one of few: 4 for any other; and bytes of a fixed length: 5 for another
unfoldable pub one_of_filled : ℕ → ℕ → ℕ → ℕ → ℕ → Checked (List ℕ)
one_of_filled w least most n at = cond (allowed least most n) (good (be w n)) (bad 4 at)

unfoldable pub fixed_filled : ℕ → List ℕ → ℕ → Checked (List ℕ)
fixed_filled n v at = cond (eqb (length v) n) (good v) (bad 5 at)

-- a field by its kind, filled with a value; and what it is laid out as, whether its value is refused or not
abbrev pub fill : Field → Value → ℕ → Checked (List ℕ)
fill (Uint w) v at = good (be (width_of w) (number_in v))
fill (Vector w least most i) v at = vector_filled (width_of w) least most i (bytes_in v) at
fill (OneOf w least most) v at = one_of_filled (width_of w) least most (number_in v) at
fill (Fixed n) v at = fixed_filled n (bytes_in v) at

abbrev pub laid : Field → Value → List ℕ
laid (Uint w) v = be (width_of w) (number_in v)
laid (Vector w least most i) v = vector_bytes (width_of w) i (bytes_in v)
laid (OneOf w least most) v = be (width_of w) (number_in v)
laid (Fixed n) v = bytes_in v

-- a field's value out of a number and some bytes: the one that its kind has no use for is not looked at
abbrev pub held : Field → ℕ → List ℕ → Value
held (Uint w) n v = uint n
held (Vector w least most i) n v = bytes v
held (OneOf w least most) n v = uint n
held (Fixed m) n v = bytes v

-- a field with its value
pub record Filled : Type 0 where
  pub field : Field
  pub value : Value

abbrev pub join : List ℕ → Checked (List ℕ) → Checked (List ℕ)
join b (good r) = good (b ++ r)
join b (bad x at) = bad x at

-- the fields one after the other, from a place on
unfoldable pub write : List Filled → ℕ → Checked (List ℕ)
write [] at = good []
write (f ∷ fs) at = then (fill f.field f.value at) (λ b. join b (write fs (at + length b)))

-- the bytes behind some references, in their order
abbrev pub behind : List (Bor (List ℕ)) → List (List ℕ)
behind vs = map (λ (v : Bor (List ℕ)). v.now) vs

-- the fields of a layout, each with the number and the bytes of its place
abbrev pub filled_by : List Field → List ℕ → List (List ℕ) → List Filled
filled_by [] ns vs = []
filled_by (f ∷ fs) ns vs = record { field = f; value = held f (get_or ns 0 0) (get_or vs 0 []) } ∷ filled_by fs (drop 1 ns) (drop 1 vs)

-- the value that was read at a part
unfoldable pub opened : Field → Part → List ℕ → Value
opened (Uint w) p s = uint p.value
opened (Vector w least most i) p s = bytes (unwrap i (bytes_at s p))
opened (OneOf w least most) p s = uint p.value
opened (Fixed n) p s = bytes (bytes_at s p)

-- the fields of a layout with the values that were read at their parts
unfoldable pub values : List Field → List Part → List ℕ → List Filled
values [] ps s = []
values (f ∷ fs) [] s = []
values (f ∷ fs) (p ∷ ps) s = record { field = f; value = opened f p s } ∷ values fs ps s
