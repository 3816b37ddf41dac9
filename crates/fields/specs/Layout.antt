-- Reading by a layout, which is a list of fields. Numbers are big-endian (RFC 9162, section 1.2, and RFC 8446, section 3). Assumes nothing.
use Rattle.std.specs.Prelude.{ℕ, zero, suc, ◌+◌, ◌-◌, List, [], ◌∷◌, Bool, false, cond, ◌&&◌, length, get_or, take, drop, ltb, leb, eqb}
use Rattle.octets.specs.Numbers.{width_of, unbe}
use Rattle.fields.specs.declared.layout.Part.{Part}
use Rattle.fields.specs.declared.layout.Order.{Order}
use Rattle.fields.specs.declared.layout.Order.TheVariants.{Ordered, Unordered}
use Rattle.fields.specs.declared.layout.Inner.{Inner}
use Rattle.fields.specs.declared.layout.Inner.TheVariants.{Opaque, ExtensionList, NodeList}
use Rattle.fields.specs.declared.layout.Field.{Field}
use Rattle.fields.specs.declared.layout.Field.TheVariants.{Uint, Vector, OneOf, Fixed}
use Rattle.fields.specs.declared.layout.Element.{Element}
use Rattle.octets.specs.Answer.{Answer, done, refused}
use Rattle.fields.specs.Checked.{Checked, good, bad}

-- whether a type is out of order, told one more than the type before it, or 0 at the first: in an ordered list a type is above the one before (section 4.8)
abbrev pub out_of_order : Order → ℕ → ℕ → Bool
out_of_order Ordered last t = ltb t last
out_of_order Unordered last t = false

-- an element of n bytes, and what the next one must know of it
abbrev pub sized : ℕ → ℕ → Answer Element
sized n next = done (record { len = n; next = next })

-- the first element of a body that is not empty: its size, and what the next one must know of it; or the number of its refusal.
-- An extension (section 4.6) is a type of 2 bytes and data <0..65535>, and the next one is told one more than its type; a node hash
-- (section 4.9) is <32..255>, and only 32 is ours.
unfoldable pub element : Inner → ℕ → List ℕ → Answer Element
element Opaque last r = sized (length r) 0
element (ExtensionList o) last r =
    cond (ltb (length r) 4) (refused 2)
    (cond (ltb (length r - 4) (unbe (take 2 (drop 2 r)))) (refused 2)
    (cond (out_of_order o last (unbe (take 2 r))) (refused 15)
    (sized (4 + unbe (take 2 (drop 2 r))) (unbe (take 2 r) + 1))))
element NodeList last r =
    cond (eqb (get_or r 0 0) 32)
    (cond (ltb (length r) 33) (refused 2) (sized 33 0))
    (refused 5)

-- go on past an element, or refuse where it starts
abbrev pub past : Answer Element → ℕ → (ℕ → ℕ → Checked Unit) → Checked Unit
past (done e) at go = go e.len e.next
past (refused x) at go = bad x at

-- the elements of a body that starts at a place, at most so many, after an element that said `last`
unfoldable pub elements : ℕ → Inner → ℕ → List ℕ → ℕ → Checked Unit
elements zero i last r at = good tt
elements (suc more) i last r at =
    cond (eqb (length r) 0) (good tt)
    (past (element i last r) at (λ n next. elements more i next (drop n r) (at + n)))

unfoldable pub inside_from : Inner → ℕ → List ℕ → ℕ → Checked Unit
inside_from i last r at = elements (length r) i last r at

-- every element of a body that starts at a place
unfoldable pub inside : Inner → List ℕ → ℕ → Checked Unit
inside i r at = inside_from i 0 r at

-- a body whose elements are fine is found
abbrev pub whole : Checked Unit → Part → Checked Part
whole (good u) p = good p
whole (bad x at) p = bad x at

-- a number of w bytes that starts at a place, at the front of the bytes r
unfoldable pub number_at : ℕ → List ℕ → ℕ → Checked Part
number_at w r at =
    cond (ltb (length r) w) (bad 2 at)
    (good (record { start = at; len = w; value = unbe (take w r) }))

-- a vector with a prefix of w bytes: prefix missing 2, length out of range 5, body cut 2, then its elements
unfoldable pub vector_at : ℕ → ℕ → ℕ → Inner → List ℕ → ℕ → Checked Part
vector_at w least most i r at =
    cond (ltb (length r) w) (bad 2 at)
    (cond (ltb (unbe (take w r)) least) (bad 5 at)
    (cond (ltb most (unbe (take w r))) (bad 5 at)
    (cond (ltb (length r - w) (unbe (take w r))) (bad 2 at)
    (whole (inside i (take (unbe (take w r)) (drop w r)) (at + w))
    (record { start = at + w; len = unbe (take w r); value = unbe (take w r) })))))

-- a number that must be one of few, which stand in a row: cut 2, any other number 4
abbrev pub allowed : ℕ → ℕ → ℕ → Bool
allowed least most n = leb least n && leb n most

abbrev pub among : ℕ → ℕ → Checked Part → Checked Part
among least most (good p) = cond (allowed least most p.value) (good p) (bad 4 p.start)
among least most (bad x at) = bad x at

unfoldable pub one_of_at : ℕ → ℕ → ℕ → List ℕ → ℕ → Checked Part
one_of_at w least most r at = among least most (number_at w r at)

-- n bytes with no prefix
unfoldable pub fixed_at : ℕ → List ℕ → ℕ → Checked Part
fixed_at n r at = cond (ltb (length r) n) (bad 2 at) (good (record { start = at; len = n; value = n }))

-- a field by its kind
abbrev pub field : Field → List ℕ → ℕ → Checked Part
field (Uint w) r at = number_at (width_of w) r at
field (Vector w least most i) r at = vector_at (width_of w) least most i r at
field (OneOf w least most) r at = one_of_at (width_of w) least most r at
field (Fixed n) r at = fixed_at n r at

-- go on past a field, or refuse
abbrev pub next : {A : Type 0} → Checked Part → (Part → Checked A) → Checked A
next (good p) go = go p
next (bad x at) go = bad x at

-- a field that is found, and those after it
abbrev pub found_then : Checked Part → (Part → List Part) → List Part
found_then (good p) go = p ∷ go p
found_then (bad x at) go = []

-- one more part in front
abbrev pub push : Part → Checked (List Part) → Checked (List Part)
push p (good ps) = good (p ∷ ps)
push p (bad x at) = bad x at

-- the fields of a layout from a place on, left to right, and nothing after them
unfoldable pub read : List Field → List ℕ → ℕ → Checked (List Part)
read [] s at = cond (ltb at (length s)) (bad 3 at) (good [])
read (f ∷ fs) s at = next (field f (drop at s) at) (λ p. push p (read fs s (p.start + p.len)))

-- the fields that are found before the first that is refused
unfoldable pub parts_found : List Field → List ℕ → ℕ → List Part
parts_found [] s at = []
parts_found (f ∷ fs) s at = found_then (field f (drop at s) at) (λ p. parts_found fs s (p.start + p.len))

-- the bytes where a part lies
abbrev pub bytes_at : List ℕ → Part → List ℕ
bytes_at s p = take p.len (drop p.start s)
