-- Every refusal, of the reader and of the writer, has the number of one of the code's. Assumes nothing.
use mathlib.Core.Path.{◌≡◌, refl, subst}
use mathlib.Core.List.{List, [], ◌∷◌}
use mathlib.Core.Bool.{Bool, true, false, cond}
use Prim.Native.Nat.{ℕ, zero, suc, ◌+◌, ◌-◌, ◌<◌}
use native.Mathlib.Omega.{arith}
use lib.ListN.{length, get_or, take, drop}
use lib.Dec.{ltb, eqb}
use Rattle.std.specs.Prelude.{Result, Ok, Err}
use Rattle.octets.specs.Numbers.{width_of, unbe}
use Rattle.octets.specs.Answer.{Answer, done, refused}
use Rattle.octets.specs.Refusals.{refusal_number}
use Rattle.octets.specs.declared.refusal.Refusal.{Refusal}
use Rattle.octets.specs.declared.refusal.Refusal.TheVariants.{TooLong, CutShort, BytesAfter, UnknownType, Length, OutOfRange, NodeCount, RootDisagrees}
use Rattle.octets.specs.declared.refusal.Refusal.TheVariants.{NoRoom, Joined, OtherLog, EarlierTimestamp, OtherRoot, NoHead, OutOfOrder, UnknownHash}
use Rattle.fields.specs.declared.layout.Part.{Part}
use Rattle.fields.specs.declared.layout.Element.{Element}
use Rattle.fields.specs.declared.layout.RefusedAt.{RefusedAt}
use Rattle.fields.specs.declared.layout.Inner.{Inner}
use Rattle.fields.specs.declared.layout.Inner.TheVariants.{Opaque, ExtensionList, NodeList}
use Rattle.fields.specs.declared.layout.Field.{Field}
use Rattle.fields.specs.declared.layout.Field.TheVariants.{Uint, Vector, OneOf, Fixed}
use Rattle.fields.specs.Checked.{Checked, good, bad, checked, then}
use Rattle.fields.specs.Layout.{out_of_order, element, elements, inside_from, inside, past, whole, number_at, allowed, among, one_of_at, fixed_at, vector_at, field, next, push, read, sized, bytes_at}
use Rattle.fields.specs.Write.{Value, number_in, bytes_in, wrap, unwrap, body_size, wholes, fine, vector_bytes, vector_filled, one_of_filled, fixed_filled, fill, Filled, join, write}
use Rattle.fields.specs.Effect.{wrote, unwritten, effect}
use Rattle.fields.specs.Path.{path_at}

-- a number that a refusal has
pub record Told (x : ℕ) : Type 0 where
  pub refusal : Refusal
  pub is : refusal_number refusal ≡ x

pub told_by : (r : Refusal) → Told (refusal_number r)
told_by r = record { refusal = r; is = refl }

pub told_number : (r : Refusal) → 0 < refusal_number r
told_number TooLong = omega arith
told_number CutShort = omega arith
told_number BytesAfter = omega arith
told_number UnknownType = omega arith
told_number Length = omega arith
told_number OutOfRange = omega arith
told_number NodeCount = omega arith
told_number RootDisagrees = omega arith
told_number NoRoom = omega arith
told_number Joined = omega arith
told_number OtherLog = omega arith
told_number EarlierTimestamp = omega arith
told_number OtherRoot = omega arith
told_number NoHead = omega arith
told_number OutOfOrder = omega arith
told_number UnknownHash = omega arith

pub told_some : (x : ℕ) → Told x → 0 < x
told_some x t = omega (arith, told_number t.refusal, t.is)

-- what each answer says of its number
abbrev NumberedElement : Answer Element → Type 0
NumberedElement (done d) = Unit
NumberedElement (refused x) = Told x

abbrev pub Numbered : {A : Type 0} → Checked A → Type 0
Numbered (good a) = Unit
Numbered (bad x p) = Told x

-- one of the code's answers that says it
unfoldable pub answer_of : {A : Type 0} (a : Checked A) → Numbered a → Result A RefusedAt
answer_of (good a) t = Ok a
answer_of (bad x at) t = Err (record { refusal = t.refusal; place = at })

pub answer_is : {A : Type 0} (a : Checked A) (t : Numbered a) → checked (answer_of a t) ≡ a
unfolding answer_of
answer_is (good a) t = refl
answer_is (bad x at) t = rw t.is

element_numbered : (i : Inner) (last : ℕ) (r : List ℕ) → NumberedElement (element i last r)
unfolding element
element_numbered Opaque last r = tt
element_numbered (ExtensionList o) last r = go (ltb (length r) 4) (ltb (length r - 4) (unbe (take 2 (drop 2 r)))) (out_of_order o last (unbe (take 2 r)))
  where
    go : (a b c : Bool) → NumberedElement (cond a (refused 2) (cond b (refused 2) (cond c (refused 15) (sized (4 + unbe (take 2 (drop 2 r))) (unbe (take 2 r) + 1)))))
    go true b c = told_by CutShort
    go false true c = told_by CutShort
    go false false true = told_by OutOfOrder
    go false false false = tt
element_numbered NodeList last r = go (eqb (get_or r 0 0) 32) (ltb (length r) 33)
  where
    go : (a b : Bool) → NumberedElement (cond a (cond b (refused 2) (sized 33 0)) (refused 5))
    go false b = told_by Length
    go true true = told_by CutShort
    go true false = tt

elements_numbered : (n : ℕ) (i : Inner) (last : ℕ) (r : List ℕ) (at : ℕ) → Numbered (elements n i last r at)
unfolding elements
elements_numbered zero i last r at = tt
elements_numbered (suc n) i last r at = go (eqb (length r) 0) (element i last r) (element_numbered i last r) (λ m t. elements_numbered n i t (drop m r) (at + m))
  where
    go : (b : Bool) (x : Answer Element) → NumberedElement x → ((m t : ℕ) → Numbered (elements n i t (drop m r) (at + m))) → Numbered (cond b (good tt) (past x at (λ m t. elements n i t (drop m r) (at + m))))
    go true x h less = tt
    go false (refused x) h less = h
    go false (done d) h less = less d.len d.next

inside_numbered : (i : Inner) (r : List ℕ) (at : ℕ) → Numbered (inside i r at)
unfolding inside inside_from
inside_numbered i r at = elements_numbered (length r) i 0 r at

number_numbered : (w : ℕ) (r : List ℕ) (at : ℕ) → Numbered (number_at w r at)
unfolding number_at
number_numbered w r at = go (ltb (length r) w)
  where
    go : (b : Bool) → Numbered {A = Part} (cond b (bad 2 at) (good (record { start = at; len = w; value = unbe (take w r) })))
    go true = told_by CutShort
    go false = tt

among_numbered : (least most : ℕ) (a : Checked Part) → Numbered a → Numbered (among least most a)
among_numbered least most (bad x y) h = h
among_numbered least most (good p) h = go (allowed least most p.value)
  where
    go : (b : Bool) → Numbered (cond b (good p) (bad 4 p.start))
    go true = tt
    go false = told_by UnknownType

whole_numbered : (x : Checked Unit) (p : Part) → Numbered x → Numbered (whole x p)
whole_numbered (good u) p h = tt
whole_numbered (bad x y) p h = h

field_numbered : (f : Field) (r : List ℕ) (at : ℕ) → Numbered (field f r at)
unfolding vector_at one_of_at fixed_at
field_numbered (Uint w) r at = number_numbered (width_of w) r at
field_numbered (OneOf w least most) r at = among_numbered least most _ (number_numbered (width_of w) r at)
field_numbered (Fixed n) r at = go (ltb (length r) n)
  where
    go : (b : Bool) → Numbered {A = Part} (cond b (bad 2 at) (good (record { start = at; len = n; value = n })))
    go true = told_by CutShort
    go false = tt
field_numbered (Vector width least most i) r at =
    let w = width_of width in
    let n = unbe (take w r) in
    let b = take n (drop w r) in
    let p : Part = record { start = at + w; len = n; value = n } in
    go (ltb (length r) w) (ltb n least) (ltb most n) (ltb (length r - w) n) _ (whole_numbered _ p (inside_numbered i b (at + w)))
  where
    go : (a b c d : Bool) (x : Checked Part) → Numbered x → Numbered (cond a (bad 2 at) (cond b (bad 5 at) (cond c (bad 5 at) (cond d (bad 2 at) x))))
    go true b c d x h = told_by CutShort
    go false true c d x h = told_by Length
    go false false true d x h = told_by Length
    go false false false true x h = told_by CutShort
    go false false false false x h = h

push_numbered : (p : Part) (a : Checked (List Part)) → Numbered a → Numbered (push p a)
push_numbered p (good ps) h = tt
push_numbered p (bad x y) h = h

pub reads_numbered : (fs : List Field) (s : List ℕ) (at : ℕ) → Numbered (read fs s at)
unfolding read
reads_numbered [] s at = go (ltb at (length s))
  where
    go : (b : Bool) → Numbered {A = List Part} (cond b (bad 3 at) (good []))
    go true = told_by BytesAfter
    go false = tt
reads_numbered (f ∷ fs) s at = go (field f (drop at s) at) (field_numbered f (drop at s) at) (λ n. reads_numbered fs s n)
  where
    go : (z : Checked Part) → Numbered z → ((n : ℕ) → Numbered (read fs s n)) → Numbered (next z (λ p. push p (read fs s (p.start + p.len))))
    go (bad u v) h less = h
    go (good p) h less = push_numbered p (read fs s (p.start + p.len)) (less (p.start + p.len))

pub read_numbered : (fs : List Field) (s : List ℕ) (at x y : ℕ) → read fs s at ≡ bad x y → 0 < x
read_numbered fs s at x y e = told_some x (subst (λ (a : Checked (List Part)). Numbered a) e (reads_numbered fs s at))

-- and of the writer
fine_numbered : (x : Checked Unit) (b : List ℕ) → Numbered x → Numbered (fine x b)
fine_numbered (good u) b h = tt
fine_numbered (bad x y) b h = h

fill_numbered : (f : Field) (v : Value) (at : ℕ) → Numbered (fill f v at)
unfolding vector_filled one_of_filled fixed_filled
fill_numbered (Uint w) v at = tt
fill_numbered (OneOf w least most) v at = go (allowed least most (number_in v)) _
  where
    go : (b : Bool) (r : List ℕ) → Numbered (cond b (good r) (bad 4 at))
    go true r = tt
    go false r = told_by UnknownType
fill_numbered (Fixed n) v at = go (eqb (length (bytes_in v)) n) _
  where
    go : (b : Bool) (r : List ℕ) → Numbered (cond b (good r) (bad 5 at))
    go true r = tt
    go false r = told_by Length
fill_numbered (Vector width least most i) v at =
    let w = width_of width in
    let b = bytes_in v in
    let n = body_size i (length b) in
    go (ltb n least) (ltb most n) (wholes i (length b)) _ (fine_numbered _ (vector_bytes w i b) (inside_numbered i (wrap i b) (at + w)))
  where
    go : (a b c : Bool) (x : Checked (List ℕ)) → Numbered x → Numbered (cond a (bad 5 at) (cond b (bad 5 at) (cond c x (bad 10 at))))
    go true b c x h = told_by Length
    go false true c x h = told_by Length
    go false false true x h = h
    go false false false x h = told_by Joined

pub join_numbered : (b : List ℕ) (a : Checked (List ℕ)) → Numbered a → Numbered (join b a)
join_numbered b (good r) h = tt
join_numbered b (bad x y) h = h

pub write_numbered : (fs : List Filled) (at : ℕ) → Numbered (write fs at)
unfolding write
write_numbered [] at = tt
write_numbered (f ∷ fs) at = go (fill f.field f.value at) (fill_numbered f.field f.value at) (λ n. write_numbered fs n)
  where
    go : (z : Checked (List ℕ)) → Numbered z → ((n : ℕ) → Numbered (write fs n)) → Numbered (then z (λ b. join b (write fs (at + length b))))
    go (bad u v) h less = h
    go (good b) h less = join_numbered b (write fs (at + length b)) (less (at + length b))

pub path_numbered : (s : List ℕ) (p : Part) → Numbered (path_at s p)
unfolding path_at
path_numbered s p = go (ltb (length s) (p.start + p.len)) _ (fine_numbered _ (unwrap NodeList (bytes_at s p)) (inside_numbered NodeList (bytes_at s p) p.start))
  where
    go : (b : Bool) (x : Checked (List ℕ)) → Numbered x → Numbered (cond b (bad 2 p.start) x)
    go true x h = told_by CutShort
    go false x h = h

pub effect_numbered : (out : List ℕ) (a : Checked (List ℕ)) → Numbered a → Numbered (effect out a).answer
effect_numbered out (bad x y) h = h
effect_numbered out (good b) h = go (ltb (length out) (length b))
  where
    go : (c : Bool) → Numbered (cond c (unwritten 9 0 out) (wrote b out)).answer
    go true = told_by NoRoom
    go false = tt
