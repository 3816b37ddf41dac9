-- Lists of extensions: a body that is fine is some extensions in order, and 15 stands where the order ends. Assumes nothing.
use mathlib.Core.Path.{◌≡◌, refl, ap, ap₂, sym, subst, ◌∙◌}
use mathlib.Core.List.{List, [], ◌∷◌, ◌++◌, append_assoc, append-nil}
use mathlib.Core.Bool.{Bool, true, false, cond}
use Prim.Native.Nat.{ℕ, zero, suc, ◌+◌, ◌-◌, ◌^◌, ◌≤◌, ◌<◌}
use native.Mathlib.Omega.{arith}
use lib.ListN.{length, take, drop, length-append, length-drop, take-append-drop}
use lib.Dec.{ltb, eqb}
use lib.Seq.{take_at, drop_at, drop-drop, length-take-le}
use borrow.Author.Tests.{le-ltb, ltb-false, eqb-true}
use Rattle.octets.specs.Bytes.{Bytes, joined}
use Rattle.octets.specs.Numbers.{be, unbe}
use Rattle.octets.proofs.Numbers.{be_length, unbe_be, be_unbe, unbe_below}
use Rattle.fields.specs.declared.layout.Order.{Order}
use Rattle.fields.specs.declared.layout.Order.TheVariants.{Ordered, Unordered}
use Rattle.fields.specs.declared.layout.Inner.TheVariants.{ExtensionList}
use Rattle.fields.specs.Layout.{out_of_order, element, elements, inside_from, inside, past, sized}
use Rattle.fields.specs.Claims.{Each}
use Rattle.fields.specs.Extensions.{Extension, Fits, extension_bytes, list_bytes, Ascending, Asked, Extended, OutOfOrder, FineIsExtended, OneList, FifteenIsOutOfOrder}
use Rattle.fields.specs.Checked.{Checked, good, bad}
use Rattle.octets.specs.Answer.{refused}
use Rattle.fields.proofs.Answers.{bad_good, same_place, same_number}
use Rattle.fields.proofs.Elements.{inside_none, inside_bad, inside_more}
use Rattle.fields.proofs.Vectors.{bytes_take, bytes_drop, length_there, body_there}

-- what stands where in an extension's bytes
module _ (x : Extension) (rest : List ℕ) where
  abbrev t : ℕ
  t = x.extension_type

  abbrev l : ℕ
  l = length x.extension_data

  bytes_length : length (extension_bytes x) ≡ 4 + l
  bytes_length = length-append (be 2 t) (be 2 l ++ x.extension_data) ∙ omega (arith, be_length 2 t, length-append (be 2 l) x.extension_data, be_length 2 l)

  -- its type, then its data as a vector
  laid_out : extension_bytes x ++ rest ≡ be 2 t ++ ((be 2 l ++ x.extension_data) ++ rest)
  laid_out = append_assoc (be 2 t) (be 2 l ++ x.extension_data) rest

  behind_type : drop 2 (extension_bytes x ++ rest) ≡ (be 2 l ++ x.extension_data) ++ rest
  behind_type = ap (drop 2) laid_out ∙ drop_at (be 2 t) ((be 2 l ++ x.extension_data) ++ rest) 2 (be_length 2 t)

  type_there : Fits x → unbe (take 2 (extension_bytes x ++ rest)) ≡ t
  type_there f = ap (λ (a : List ℕ). unbe (take 2 a)) laid_out ∙ ap unbe (take_at (be 2 t) ((be 2 l ++ x.extension_data) ++ rest) 2 (be_length 2 t)) ∙ unbe_be 2 t f.0

  data_length : Fits x → unbe (take 2 (drop 2 (extension_bytes x ++ rest))) ≡ l
  data_length f = ap (λ (a : List ℕ). unbe (take 2 a)) behind_type ∙ length_there 2 x.extension_data rest f.1

  data_there : Fits x → take l (drop 4 (extension_bytes x ++ rest)) ≡ x.extension_data
  data_there f = ap (take l) (sym (drop-drop 2 2 (extension_bytes x ++ rest)) ∙ ap (drop 2) behind_type) ∙ body_there 2 x.extension_data rest f.1

  rest_there : drop (4 + l) (extension_bytes x ++ rest) ≡ rest
  rest_there = drop_at (extension_bytes x) rest (4 + l) bytes_length

  -- an extension that is whole is out of order, or is passed
  pub element_first : (o : Order) (last : ℕ) → Fits x → element (ExtensionList o) last (extension_bytes x ++ rest) ≡ cond (out_of_order o last t) (refused 15) (sized (4 + l) (t + 1))
  unfolding element
  element_first o last f =
      let z : length (extension_bytes x ++ rest) ≡ 4 + l + length rest = length-append (extension_bytes x) rest ∙ omega (arith, bytes_length) in
      let h : 4 ≤ length (extension_bytes x ++ rest) = omega arith in
      let g : l ≤ length (extension_bytes x ++ rest) - 4 = omega arith in
      rw (data_length f, type_there f, le-ltb _ _ h, le-ltb _ _ g)

-- and bytes that are passed, or out of order, begin with an extension
record There (r : List ℕ) : Type 0 where
  it : Extension
  fits : Fits it
  rest : List ℕ
  is : r ≡ extension_bytes it ++ rest

there : (r : List ℕ) → Bytes r → 4 ≤ length r → unbe (take 2 (drop 2 r)) ≤ length r - 4 → There r
there r b h g =
    let t = unbe (take 2 r) in
    let l = unbe (take 2 (drop 2 r)) in
    let lt : length (take 2 r) ≡ 2 = length-take-le 2 r (omega arith) in
    let ll : length (take 2 (drop 2 r)) ≡ 2 = length-take-le 2 (drop 2 r) (rw (length-drop 2 r) (omega arith)) in
    let ld : length (take l (drop 4 r)) ≡ l = length-take-le l (drop 4 r) (rw (length-drop 4 r) g) in
    let bt : be 2 t ≡ take 2 r = ap (λ (k : ℕ). be k t) (sym lt) ∙ be_unbe (bytes_take 2 b) in
    let bl : be 2 l ≡ take 2 (drop 2 r) = ap (λ (k : ℕ). be k l) (sym ll) ∙ be_unbe (bytes_take 2 (bytes_drop 2 b)) in
    let ft : t < 2 ^ 16 = subst (λ (k : ℕ). t < 256 ^ k) lt (unbe_below (bytes_take 2 b)) in
    let fl : l < 2 ^ 16 = subst (λ (k : ℕ). l < 256 ^ k) ll (unbe_below (bytes_take 2 (bytes_drop 2 b))) in
    let x : Extension = record { extension_type = t; extension_data = take l (drop 4 r) } in
    let d : drop 2 (drop 2 r) ≡ drop 4 r = drop-drop 2 2 r in
    record {
      it = x;
      fits = (ft, rw ld fl);
      rest = drop l (drop 4 r);
      is =
          sym
          (laid_out x (drop l (drop 4 r))
          ∙ ap (λ (a : List ℕ). be 2 t ++ a) (append_assoc (be 2 (length (take l (drop 4 r)))) (take l (drop 4 r)) (drop l (drop 4 r)))
          ∙ ap (λ (a : List ℕ). be 2 t ++ (be 2 (length (take l (drop 4 r))) ++ a)) (take-append-drop l (drop 4 r))
          ∙ ap (λ (k : ℕ). be 2 t ++ (be 2 k ++ drop 4 r)) ld
          ∙ ap₂ (λ (a c : List ℕ). a ++ (c ++ drop 4 r)) bt bl
          ∙ ap (λ (a : List ℕ). take 2 r ++ (take 2 (drop 2 r) ++ a)) (sym d)
          ∙ ap (λ (a : List ℕ). take 2 r ++ a) (take-append-drop 2 (drop 2 r))
          ∙ take-append-drop 2 r);
    }

data Seen (o : Order) (last : ℕ) (r : List ℕ) : Type 0 where
  cut : element (ExtensionList o) last r ≡ refused 2 → Seen o last r
  whole : There r → Seen o last r

seen : (o : Order) (last : ℕ) (r : List ℕ) → Bytes r → Seen o last r
unfolding element
seen o last r b = go (ltb (length r) 4) (ltb (length r - 4) (unbe (take 2 (drop 2 r)))) refl refl
  where
    go : (p q : Bool) → ltb (length r) 4 ≡ p → ltb (length r - 4) (unbe (take 2 (drop 2 r))) ≡ q → Seen o last r
    go true q hp hq = cut (rw hp)
    go false true hp hq = cut (rw (hp, hq))
    go false false hp hq = whole (there r b (ltb-false _ _ hp) (ltb-false _ _ hq))

-- extensions that are in order after one that said `last`, and what the last of them says
abbrev From : Order → ℕ → List Extension → Type 0
From o last [] = Unit
From o last (x ∷ xs) = (out_of_order o last x.extension_type ≡ false) × From o (x.extension_type + 1) xs

abbrev after : ℕ → List Extension → ℕ
after last [] = last
after last (x ∷ xs) = after (x.extension_type + 1) xs

list_more : (x : Extension) (xs : List Extension) (rest : List ℕ) → list_bytes (x ∷ xs) ++ rest ≡ extension_bytes x ++ (list_bytes xs ++ rest)
unfolding joined
list_more x xs rest = append_assoc (extension_bytes x) (list_bytes xs) rest

list_length : (x : Extension) (xs : List Extension) → length (list_bytes (x ∷ xs)) ≡ 4 + length x.extension_data + length (list_bytes xs)
unfolding joined
list_length x xs = length-append (extension_bytes x) (list_bytes xs) ∙ omega (arith, bytes_length x [])

some_there : (x : Extension) (rest : List ℕ) → 0 < length (extension_bytes x ++ rest)
some_there x rest = omega (arith, length-append (extension_bytes x) rest, bytes_length x rest)

-- a list in order is passed
go_on : (o : Order) (last : ℕ) (xs : List Extension) (rest : List ℕ) (at : ℕ) → Each Fits xs → From o last xs → inside_from (ExtensionList o) last (list_bytes xs ++ rest) at ≡ inside_from (ExtensionList o) (after last xs) rest (at + length (list_bytes xs))
unfolding joined
go_on o last [] rest at f h = ap (inside_from (ExtensionList o) last rest) (omega arith)
go_on o last (x ∷ xs) rest at f h =
    let n = 4 + length x.extension_data in
    let t = x.extension_type + 1 in
    let m = list_bytes xs ++ rest in
    let e : element (ExtensionList o) last (extension_bytes x ++ m) ≡ sized n t = element_first x m o last f.0 ∙ rw h.0 in
    ap (λ (a : List ℕ). inside_from (ExtensionList o) last a at) (list_more x xs rest)
    ∙ inside_more (ExtensionList o) last (extension_bytes x ++ m) at n t (some_there x m) e
    ∙ ap (λ (a : List ℕ). inside_from (ExtensionList o) t a (at + n)) (rest_there x m)
    ∙ go_on o t xs rest (at + n) f.1 h.1
    ∙ ap (inside_from (ExtensionList o) (after t xs) rest) (omega (arith, list_length x xs))

-- how the bytes after an element that said `last` end: all are extensions in order, one is cut short, or one is out of order
data Ended (o : Order) (last : ℕ) (r : List ℕ) (at : ℕ) : Checked Unit → Type 0 where
  all : (xs : List Extension) → Each Fits xs → From o last xs → r ≡ list_bytes xs → Ended o last r at (good tt)
  cut_at : (p : ℕ) → Ended o last r at (bad 2 p)
  out_at :
      (p : ℕ) (xs : List Extension) (it : Extension) (rest : List ℕ) → Each Fits xs → Fits it → From o last xs → r ≡ list_bytes xs ++ (extension_bytes it ++ rest)
      → out_of_order o (after last xs) it.extension_type ≡ true → p ≡ at + length (list_bytes xs) → Ended o last r at (bad 15 p)

nothing : (r : List ℕ) → length r ≡ 0 → r ≡ []
nothing [] h = refl
nothing (x ∷ r) h = absurd (omega arith)

-- one extension more in front
more_in_front :
    (o : Order) (last : ℕ) (r : List ℕ) (at : ℕ) (x : Extension) (rest : List ℕ) → Fits x → r ≡ extension_bytes x ++ rest → out_of_order o last x.extension_type ≡ false → (a : Checked Unit)
    → Ended o (x.extension_type + 1) rest (at + (4 + length x.extension_data)) a → Ended o last r at a
unfolding joined
more_in_front o last r at x rest f e h a (all xs fs hs es) = all (x ∷ xs) (f, fs) (h, hs) (e ∙ ap (λ (b : List ℕ). extension_bytes x ++ b) es)
more_in_front o last r at x rest f e h a (cut_at p) = cut_at p
more_in_front o last r at x rest f e h a (out_at p xs it tail fs fi hs es w pl) =
    out_at p (x ∷ xs) it tail (f, fs) fi (h, hs)
    (e ∙ ap (λ (b : List ℕ). extension_bytes x ++ b) es ∙ sym (list_more x xs (extension_bytes it ++ tail)))
    w
    (omega (arith, pl, list_length x xs))

ended : (n : ℕ) (o : Order) (last : ℕ) (r : List ℕ) (at : ℕ) → Bytes r → length r ≤ n → Ended o last r at (elements n (ExtensionList o) last r at)
unfolding elements joined
ended zero o last r at b h = all [] tt tt (nothing r (omega arith))
ended (suc n) o last r at b h = go (eqb (length r) 0) refl (seen o last r b) (λ m t. ended n o t (drop m r) (at + m) (bytes_drop m b))
  where
    go : (q : Bool) → eqb (length r) 0 ≡ q → Seen o last r → ((m t : ℕ) → length (drop m r) ≤ n → Ended o t (drop m r) (at + m) (elements n (ExtensionList o) t (drop m r) (at + m))) → Ended o last r at (cond q (good tt) (past (element (ExtensionList o) last r) at (λ m t. elements n (ExtensionList o) t (drop m r) (at + m))))
    go true hq v less = all [] tt tt (nothing r (eqb-true _ _ hq))
    go false hq (cut e) less = rw e (cut_at at)
    go false hq (whole w) less = judge (out_of_order o last w.it.extension_type) refl
      where
        first : element (ExtensionList o) last r ≡ cond (out_of_order o last w.it.extension_type) (refused 15) (sized (4 + length w.it.extension_data) (w.it.extension_type + 1))
        first = ap (element (ExtensionList o) last) w.is ∙ element_first w.it w.rest o last w.fits

        judge : (d : Bool) → out_of_order o last w.it.extension_type ≡ d → Ended o last r at (past (element (ExtensionList o) last r) at (λ m t. elements n (ExtensionList o) t (drop m r) (at + m)))
        judge true hd = rw (first, hd) (out_at at [] w.it w.rest tt w.fits tt w.is hd (omega arith))
        judge false hd =
            let k = 4 + length w.it.extension_data in
            let some = some_there w.it w.rest in
            let d : drop k r ≡ w.rest = ap (drop k) w.is ∙ rest_there w.it w.rest in
            let s : length (drop k r) ≤ n = omega (arith, length-drop k r, ap length w.is) in
            rw (first, hd)
            (more_in_front o last r at w.it (drop k r) w.fits (w.is ∙ ap (λ (a : List ℕ). extension_bytes w.it ++ a) (sym d)) hd _
            (less k (w.it.extension_type + 1) s))

inside_ended : (o : Order) (b : List ℕ) (at : ℕ) → Bytes b → Ended o 0 b at (inside (ExtensionList o) b at)
unfolding inside inside_from
inside_ended o b at bs = ended (length b) o 0 b at bs (omega arith)

-- what an order asks, element by element and of the whole list
each_to : {A : Type 0} (P Q : A → Type 0) → ((x : A) → P x → Q x) → (xs : List A) → Each P xs → Each Q xs
each_to P Q f [] e = tt
each_to P Q f (x ∷ xs) e = (f x e.0, each_to P Q f xs e.1)

each_any : {A : Type 0} (P : A → Type 0) → ((x : A) → P x) → (xs : List A) → Each P xs
each_any P f [] = tt
each_any P f (x ∷ xs) = (f x, each_any P f xs)

each_append : {A : Type 0} (P : A → Type 0) (xs ys : List A) → Each P xs → Each P ys → Each P (xs ++ ys)
each_append P [] ys e f = f
each_append P (x ∷ xs) ys e f = (e.0, each_append P xs ys e.1 f)

each_parts : {A : Type 0} (P : A → Type 0) (xs ys : List A) → Each P (xs ++ ys) → Each P xs × Each P ys
each_parts P [] ys e = (tt, e)
each_parts P (x ∷ xs) ys e = let r = each_parts P xs ys e.1 in ((e.0, r.0), r.1)

abbrev NotBelow : ℕ → Extension → Type 0
NotBelow last y = last ≤ y.extension_type

from_ascending : (last : ℕ) (xs : List Extension) → From Ordered last xs → Each (NotBelow last) xs × Ascending xs
from_ascending last [] h = (tt, tt)
from_ascending last (x ∷ xs) h =
    let r = from_ascending (x.extension_type + 1) xs h.1 in
    let l : last ≤ x.extension_type = ltb-false _ _ h.0 in
    ((l, each_to (NotBelow (x.extension_type + 1)) (NotBelow last) (λ y z. omega arith) xs r.0), (each_to (NotBelow (x.extension_type + 1)) (λ y. x.extension_type < y.extension_type) (λ y z. omega arith) xs r.0, r.1))

ascending_from : (last : ℕ) (xs : List Extension) → Each (NotBelow last) xs → Ascending xs → From Ordered last xs
ascending_from last [] l a = tt
ascending_from last (x ∷ xs) l a =
    (le-ltb _ _ l.0, ascending_from (x.extension_type + 1) xs (each_to (λ y. x.extension_type < y.extension_type) (NotBelow (x.extension_type + 1)) (λ y z. omega arith) xs a.0) a.1)

any_from : (last : ℕ) (xs : List Extension) → From Unordered last xs
any_from last [] = tt
any_from last (x ∷ xs) = (refl, any_from (x.extension_type + 1) xs)

from_asked : (o : Order) (xs : List Extension) → From o 0 xs → Asked o xs
from_asked Ordered xs h = (from_ascending 0 xs h).1
from_asked Unordered xs h = tt

asked_from : (o : Order) (xs : List Extension) → Asked o xs → From o 0 xs
asked_from Ordered xs h = ascending_from 0 xs (each_any (NotBelow 0) (λ y. omega arith) xs) h
asked_from Unordered xs h = any_from 0 xs

-- one extension more at the end
from_last : (o : Order) (last : ℕ) (xs : List Extension) (x : Extension) → From o last (xs ++ (x ∷ [])) → out_of_order o (after last xs) x.extension_type ≡ false
from_last o last [] x h = h.0
from_last o last (y ∷ xs) x h = from_last o (y.extension_type + 1) xs x h.1

last_from : (o : Order) (last : ℕ) (xs : List Extension) (x : Extension) → From o last xs → out_of_order o (after last xs) x.extension_type ≡ false → From o last (xs ++ (x ∷ []))
last_from o last [] x h w = (w, tt)
last_from o last (y ∷ xs) x h w = (h.0, last_from o (y.extension_type + 1) xs x h.1 w)

list_last : (xs : List Extension) (x : Extension) (rest : List ℕ) → list_bytes (xs ++ (x ∷ [])) ++ rest ≡ list_bytes xs ++ (extension_bytes x ++ rest)
unfolding joined
list_last [] x rest = ap (λ (a : List ℕ). a ++ rest) (append-nil (extension_bytes x))
list_last (y ∷ xs) x rest =
    list_more y (xs ++ (x ∷ [])) rest ∙ ap (λ (a : List ℕ). extension_bytes y ++ a) (list_last xs x rest) ∙ sym (list_more y xs (extension_bytes x ++ rest))

fine_from : (o : Order) (xs : List Extension) (at : ℕ) → Each Fits xs → From o 0 xs → (b : List ℕ) → b ≡ list_bytes xs → inside (ExtensionList o) b at ≡ good tt
unfolding inside
fine_from o xs at f h b e =
    ap (λ (a : List ℕ). inside_from (ExtensionList o) 0 a at) (e ∙ sym (append-nil (list_bytes xs))) ∙ go_on o 0 xs [] at f h
    ∙ inside_none (ExtensionList o) (after 0 xs) [] (at + length (list_bytes xs)) refl

-- a body is fine exactly if it is some extensions in the order that is asked
pub fine_is_extended : FineIsExtended
fine_is_extended o b at bs = (λ e. go (inside (ExtensionList o) b at) e (inside_ended o b at bs), back)
  where
    go : (a : Checked Unit) → a ≡ good tt → Ended o 0 b at a → Extended o b
    go a e (all xs f h is) = record { list = xs; fit = f; bytes = is; asked = from_asked o xs h }
    go a e (cut_at p) = bad_good 2 p tt e
    go a e (out_at p xs it rest f g h is w pl) = bad_good 15 p tt e

    back : Extended o b → inside (ExtensionList o) b at ≡ good tt
    back x = fine_from o x.list at x.fit (asked_from o x.list x.asked) b x.bytes

-- 15 stands exactly where the first extension starts that is not above all before it
out_from : (xs : List Extension) (it : Extension) (rest : List ℕ) (at : ℕ) → Each Fits xs → Fits it → From Ordered 0 xs → out_of_order Ordered (after 0 xs) it.extension_type ≡ true → (b : List ℕ) → b ≡ list_bytes xs ++ (extension_bytes it ++ rest) → inside (ExtensionList Ordered) b at ≡ bad 15 (at + length (list_bytes xs))
unfolding inside
out_from xs it rest at f g h w b e =
    let n : element (ExtensionList Ordered) (after 0 xs) (extension_bytes it ++ rest) ≡ refused 15 = element_first it rest Ordered (after 0 xs) g ∙ rw w in
    ap (λ (a : List ℕ). inside_from (ExtensionList Ordered) 0 a at) e ∙ go_on Ordered 0 xs (extension_bytes it ++ rest) at f h
    ∙ inside_bad (ExtensionList Ordered) (after 0 xs) (extension_bytes it ++ rest) (at + length (list_bytes xs)) 15 (some_there it rest) n

true_false : {A : Type 0} (b : Bool) → b ≡ true → b ≡ false → A
true_false true h g = absurd (let z : ◌≡◌ {A = ℕ} 0 1 = ap (λ (c : Bool). cond c 0 1) g in omega arith)
true_false false h g = absurd (let z : ◌≡◌ {A = ℕ} 1 0 = ap (λ (c : Bool). cond c 0 1) h in omega arith)

pub fifteen_is_out_of_order : FifteenIsOutOfOrder
fifteen_is_out_of_order b at place bs = (λ e. go (inside (ExtensionList Ordered) b at) e (inside_ended Ordered b at bs), back)
  where
    go : (a : Checked Unit) → a ≡ bad 15 place → Ended Ordered 0 b at a → OutOfOrder b at place
    go a e (all xs f h is) = bad_good 15 place tt (sym e)
    go a e (cut_at p) = absurd (omega (arith, same_number 2 15 p place e))
    go a e (out_at p xs it rest f g h is w pl) =
        record {
          before = xs;
          it = it;
          rest = rest;
          fit = each_append Fits xs (it ∷ []) f (g, tt);
          bytes = is ∙ sym (list_last xs it rest);
          ascending = (from_ascending 0 xs h).1;
          unsorted = λ q. true_false _ w (from_last Ordered 0 xs it (asked_from Ordered (xs ++ (it ∷ [])) q));
          starts = same_place 15 15 p place e ∙ pl;
        }

    back : OutOfOrder b at place → inside (ExtensionList Ordered) b at ≡ bad 15 place
    back x = judge (out_of_order Ordered (after 0 xs) x.it.extension_type) refl
      where
        xs : List Extension
        xs = x.before

        h : From Ordered 0 xs
        h = asked_from Ordered xs x.ascending

        f : Each Fits xs × Each Fits (x.it ∷ [])
        f = each_parts Fits xs (x.it ∷ []) x.fit

        judge : (d : Bool) → out_of_order Ordered (after 0 xs) x.it.extension_type ≡ d → inside (ExtensionList Ordered) b at ≡ bad 15 place
        judge false w = absurd (x.unsorted (from_asked Ordered (xs ++ (x.it ∷ [])) (last_from Ordered 0 xs x.it h w)))
        judge true w = out_from xs x.it x.rest at f.0 f.1.0 h w b (x.bytes ∙ list_last xs x.it x.rest) ∙ ap (bad 15) (sym x.starts)

-- the extensions of some bytes are of one list alone
same_extension : (x y : Extension) (a b : List ℕ) → Fits x → Fits y → extension_bytes x ++ a ≡ extension_bytes y ++ b → (x ≡ y) × (a ≡ b)
same_extension x y a b f g e =
    let r = extension_bytes x ++ a in
    let t : x.extension_type ≡ y.extension_type = sym (type_there x a f) ∙ ap (λ (s : List ℕ). unbe (take 2 s)) e ∙ type_there y b g in
    let l : length x.extension_data ≡ length y.extension_data = sym (data_length x a f) ∙ ap (λ (s : List ℕ). unbe (take 2 (drop 2 s))) e ∙ data_length y b g in
    let d : x.extension_data ≡ y.extension_data = sym (data_there x a f) ∙ ap₂ (λ (k : ℕ) (s : List ℕ). take k (drop 4 s)) l e ∙ data_there y b g in
    (ap₂ (λ (k : ℕ) (s : List ℕ). record { extension_type = k; extension_data = s }) t d, sym (rest_there x a) ∙ ap₂ (λ (k : ℕ) (s : List ℕ). drop (4 + k) s) l e ∙ rest_there y b)

pub one_list : OneList
unfolding joined
one_list [] [] f g e = refl
one_list [] (y ∷ ys) f g e = absurd (omega (arith, ap length e, some_there y (list_bytes ys)))
one_list (x ∷ xs) [] f g e = absurd (omega (arith, ap length e, some_there x (list_bytes xs)))
one_list (x ∷ xs) (y ∷ ys) f g e =
    let s = same_extension x y (list_bytes xs) (list_bytes ys) f.0 g.0 e in
    ap₂ (λ (z : Extension) (zs : List Extension). z ∷ zs) s.0 (one_list xs ys f.1 g.1 s.1)
