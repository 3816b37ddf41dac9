-- Whole items: the theorems of specs/Claims.antt, from the laws over any layout. Assumes nothing.
use mathlib.Core.Path.{◌≡◌, refl, ap, sym, subst, ◌∙◌}
use mathlib.Core.List.{List, [], ◌∷◌, ◌++◌, map}
use mathlib.Core.Bool.{Bool, true, false, cond}
use Prim.Native.Nat.{ℕ, ◌/◌, ◌≤◌}
use native.Mathlib.Omega.{arith}
use lib.ListN.{length, get_or, take, drop, length-append, take-append-drop}
use lib.Dec.{ltb, eqb}
use lib.Seq.{take_at, length-take-le}
use borrow.Author.Tests.{le-ltb, ltb-false}
use Rattle.fields.specs.declared.layout.Part.{Part}
use Rattle.fields.specs.declared.layout.Field.{Field}
use Rattle.item.specs.declared.table.Name.{Name}
use Rattle.item.specs.declared.table.Name.TheVariants.{Timestamp, Size, SizeOne, SizeTwo, Place, Agreement, PageNumber, LogId, IssuerKeyHash, Certificate, RootHash, Extensions, Signature, Path, Body}
use Rattle.item.specs.declared.table.Case.{Case}
use Rattle.item.specs.declared.table.Case.TheVariants.{Entry, Receipt, SignedHead, Consistency, Inclusion, Page}
use Rattle.item.specs.declared.writer.Numbers.{Numbers}
use Rattle.fields.specs.Checked.{Checked, good, bad, then}
use Rattle.octets.specs.Numbers.{unbe, be}
use Rattle.fields.specs.Layout.{read, bytes_at}
use Rattle.fields.specs.Write.{Filled, join, write, values, opened, unwrap, stripped}
use Rattle.octets.specs.Limits.{most_item}
use Rattle.item.specs.Table.{TypeRow, field_of, names_of, layout_of, types, find}
use Rattle.item.specs.Item.{Reading, item, read_by, read_item, Vectors, vectors, value_of, filled, write_item}
use Rattle.fields.specs.Effect.{Effect, unwritten, wrote, effect}
use Rattle.item.specs.Claims.{ReadThenWritten, Gives, ReadGives, Sized, ReadsBack, WrittenThenRead, RefusedWithin, FieldsWithin, WriterKeeps}
use Rattle.fields.proofs.Answers.{bad_good, good_bad, same_good, same_place}
use Rattle.fields.proofs.Lent.{refused_keeps, past_keeps}
use Rattle.octets.proofs.Numbers.{be_length, unbe_be, be_unbe}
use Rattle.fields.proofs.Reaching.{most_all, write_short}
use Rattle.fields.proofs.Vectors.{bytes_take}
use Rattle.fields.specs.Claims.{Typed, AllTyped, no_fields, one_field, layout}
use Rattle.fields.proofs.Rounds.{write_again, read_back}
use Rattle.fields.specs.Answers.{no_part}
use Rattle.fields.proofs.Resuming.{firsts, all_firsts}
use Rattle.item.proofs.Rows.{layout_length}
use Rattle.fields.proofs.Within.{parts_within, place_within, read_count}

-- an item that was read
pub record WasRead (s : List ℕ) (r : Reading) : Type 0 where
  pub short : length s ≤ most_item
  pub typed : 2 ≤ length s
  pub kind : r.kind ≡ unbe (take 2 s)
  pub case : find types (unbe (take 2 s)) ≡ good r.case
  pub fields : read (layout_of r.case) s 2 ≡ good r.fields

pub was_read : (s : List ℕ) (r : Reading) → read_item s ≡ good r → WasRead s r
unfolding read_by
was_read s r e = go (ltb most_item (length s)) (ltb (length s) 2) (find types k) refl refl refl e
  where
    k : ℕ
    k = unbe (take 2 s)

    inner : (c : Case) (a : Checked (List Part)) → find types k ≡ good c → read (layout_of c) s 2 ≡ a → then a (item c k) ≡ good r → length s ≤ most_item → 2 ≤ length s → WasRead s r
    inner c (bad x y) hc ha e l t = bad_good x y r e
    inner c (good ps) hc ha e l t =
        subst (WasRead s) (same_good (record { case = c; kind = k; fields = ps }) r e)
        (record { short = l; typed = t; kind = refl; case = hc; fields = ha })

    go : (a b : Bool) (c : Checked Case) → ltb most_item (length s) ≡ a → ltb (length s) 2 ≡ b → find types k ≡ c → cond a (bad 1 0) (cond b (bad 2 0) (then c (λ d. then (read (layout_of d) s 2) (item d k)))) ≡ good r → WasRead s r
    go true b c ha hb hc e = bad_good 1 0 r e
    go false true c ha hb hc e = bad_good 2 0 r e
    go false false (bad x y) ha hb hc e = bad_good x y r e
    go false false (good d) ha hb hc e = inner d (read (layout_of d) s 2) hc refl e (ltb-false most_item (length s) ha) (ltb-false (length s) 2 hb)

pub two_bytes : (s : List ℕ) (r : Reading) → read_item s ≡ good r → 2 ≤ length s
two_bytes s r e = (was_read s r e).typed

pub fields_within : FieldsWithin
fields_within s r e = let h = was_read s r e in parts_within s (layout_of r.case) 2 r.fields h.typed h.fields

pub find_place : (rs : List TypeRow) (k x at : ℕ) → find rs k ≡ bad x at → at ≡ 0
unfolding find
find_place [] k x at e = same_place 4 x 0 at e
find_place (r ∷ rs) k x at e = go (eqb k r.kind) e (find_place rs k x at)
  where
    go : (b : Bool) → cond b (good r.case) (find rs k) ≡ bad x at → (find rs k ≡ bad x at → at ≡ 0) → at ≡ 0
    go true e later = good_bad x at _ e
    go false e later = later e

pub refused_within : RefusedWithin
unfolding read_by
refused_within s x at e = go (ltb most_item (length s)) (ltb (length s) 2) (find types k) refl refl e
  where
    k : ℕ
    k = unbe (take 2 s)

    inner : (c : Case) (a : Checked (List Part)) → read (layout_of c) s 2 ≡ a → then a (item c k) ≡ bad x at → 2 ≤ length s → at ≤ length s
    inner c (good ps) ha e t = good_bad x at _ e
    inner c (bad y z) ha e t = place_within s (layout_of c) 2 x at t (ha ∙ again y z e)
      where
        again : (y z : ℕ) → ◌≡◌ {A = Checked Reading} (bad y z) (bad x at) → ◌≡◌ {A = Checked (List Part)} (bad y z) (bad x at)
        again y z e = let p : y ≡ x = cc in let q : z ≡ at = cc in rw (p, q)

    go : (a b : Bool) (c : Checked Case) → ltb (length s) 2 ≡ b → find types k ≡ c → cond a (bad 1 0) (cond b (bad 2 0) (then c (λ d. then (read (layout_of d) s 2) (item d k)))) ≡ bad x at → at ≤ length s
    go true b c hb hc e = omega (arith, same_place 1 x 0 at e)
    go false true c hb hc e = omega (arith, same_place 2 x 0 at e)
    go false false (bad y z) hb hc e = omega (arith, same_place y x z at e, find_place types k y z hc)
    go false false (good d) hb hc e = inner d (read (layout_of d) s 2) refl e (ltb-false (length s) 2 hb)

-- what is read, written again, is the same bytes
pub read_then_written : ReadThenWritten
unfolding write_item
read_then_written s out r k n t bs e (is, same) fit =
    let h = was_read s r e in
    let two = h.typed in
    let kk : k ≡ unbe (take 2 s) = is ∙ h.kind in
    let row : find types k ≡ good r.case = rw kk h.case in
    let w : write (filled n t (names_of r.case)) 2 ≡ good (drop 2 s) = ap (λ (l : List Filled). write l 2) same ∙ write_again (layout_of r.case) s 2 r.fields bs two h.fields in
    let m : length (take 2 s) ≡ 2 = length-take-le 2 s two in
    let b : be 2 k ≡ take 2 s = ap (be 2) kk ∙ ap (λ (j : ℕ). be j (unbe (take 2 s))) (sym m) ∙ be_unbe (bytes_take 2 bs) in
    let a : be 2 k ++ drop 2 s ≡ s = rw b (take-append-drop 2 s) in
    rw (row, w, a, le-ltb _ _ fit)

-- every field of the table can hold what the writer is given by its name
typed : (k : ℕ) (n : Numbers) (t : Vectors) → Sized k n → (x : Name) → Typed (field_of x) (value_of n t x)
typed k n t z Timestamp = z.timestamp
typed k n t z Size = z.size
typed k n t z SizeOne = z.size_one_of
typed k n t z SizeTwo = z.size_two_of
typed k n t z Place = z.place
typed k n t z Agreement = z.agreement
typed k n t z PageNumber = z.page
typed k n t z LogId = omega arith
typed k n t z IssuerKeyHash = omega arith
typed k n t z Certificate = omega arith
typed k n t z RootHash = omega arith
typed k n t z Extensions = omega arith
typed k n t z Signature = omega arith
typed k n t z Path = omega arith
typed k n t z Body = omega arith

pub all_typed : (k : ℕ) (n : Numbers) (t : Vectors) → Sized k n → (ns : List Name) → AllTyped (filled n t ns)
all_typed k n t z [] = no_fields
all_typed k n t z (x ∷ ns) = one_field (typed k n t z x) (all_typed k n t z ns)

pub layout_filled : (n : Numbers) (t : Vectors) (ns : List Name) → layout (filled n t ns) ≡ map field_of ns
layout_filled n t [] = refl
layout_filled n t (x ∷ ns) = ap (λ (l : List Field). field_of x ∷ l) (layout_filled n t ns)

-- the longest item of each line is within the limit
total_short : (c : Case) → most_all (layout_of c) ≤ 33554430
total_short Entry = omega arith
total_short Receipt = omega arith
total_short SignedHead = omega arith
total_short Consistency = omega arith
total_short Inclusion = omega arith
total_short Page = omega arith

-- an item that was written
record WasWritten (k : ℕ) (n : Numbers) (t : Vectors) (out : List ℕ) (m : ℕ) : Type 0 where
  case : Case
  body : List ℕ
  row : find types k ≡ good case
  fields : write (filled n t (names_of case)) 2 ≡ good body
  size : length (be 2 k ++ body) ≡ m
  bytes : (write_item k n t out).bytes ≡ (be 2 k ++ body) ++ drop m out

was_written : (k : ℕ) (n : Numbers) (t : Vectors) (out : List ℕ) (m : ℕ) → (write_item k n t out).answer ≡ good m → WasWritten k n t out m
unfolding write_item
was_written k n t out m e = go (find types k) refl e
  where
    go : (c : Checked Case) → find types k ≡ c → (effect out (then c (λ d. join (be 2 k) (write (filled n t (names_of d)) 2)))).answer ≡ good m → WasWritten k n t out m
    go (bad x y) hc e = bad_good x y m e
    go (good c) hc e = deep (write (filled n t (names_of c)) 2) refl e
      where
        deep : (a : Checked (List ℕ)) → write (filled n t (names_of c)) 2 ≡ a → (effect out (join (be 2 k) a)).answer ≡ good m → WasWritten k n t out m
        deep (bad x y) ha e = bad_good x y m e
        deep (good b) ha e = last (ltb (length out) (length (be 2 k ++ b))) refl e
          where
            last : (q : Bool) → ltb (length out) (length (be 2 k ++ b)) ≡ q → ◌≡◌ {A = Checked ℕ} (cond {A = Effect} q (unwritten 9 0 out) (wrote (be 2 k ++ b) out)).answer (good m) → WasWritten k n t out m
            last true hq e = bad_good 9 0 m e
            last false hq e =
                let z = same_good (length (be 2 k ++ b)) m e in
                record { case = c; body = b; row = hc; fields = ha; size = z; bytes = rw (hc, ha, hq) (ap (λ (i : ℕ). (be 2 k ++ b) ++ drop i out) z) }

-- what is written reads back as the same fields
pub written_then_read : WrittenThenRead
unfolding read_by
written_then_read k n t out m z e =
    let h = was_written k n t out m e in
    let c = h.case in
    let b = h.body in
    let l : length (be 2 k) ≡ 2 = be_length 2 k in
    let s : take m (write_item k n t out).bytes ≡ be 2 k ++ b = ap (take m) h.bytes ∙ take_at (be 2 k ++ b) (drop m out) m h.size in
    let y : layout (filled n t (names_of c)) ≡ layout_of c = layout_filled n t (names_of c) in
    let q = read_back (filled n t (names_of c)) (be 2 k) b (all_typed k n t z (names_of c)) (rw l h.fields) in
    let short : length (be 2 k ++ b) ≤ most_item = omega (arith, length-append (be 2 k) b, write_short (filled n t (names_of c)) 2 b h.fields, ap most_all y, total_short c) in
    let two : 2 ≤ length (be 2 k ++ b) = omega (arith, length-append (be 2 k) b) in
    let u : unbe (take 2 (be 2 k ++ b)) ≡ k = ap unbe (take_at (be 2 k) b 2 l) ∙ unbe_be 2 k z.kind in
    let rd : read (layout_of c) (be 2 k ++ b) 2 ≡ good q.parts = rw (y, l) at q.read in
    let sm : values (layout_of c) q.parts (be 2 k ++ b) ≡ filled n t (names_of c) = rw y at q.same in
    subst (λ (x : List ℕ). ReadsBack x k n t) (sym s)
    (record {
      reading = record { case = c; kind = k; fields = q.parts };
      reads = rw (le-ltb _ _ short, le-ltb _ _ two, u, h.row, rd);
      given = (refl, sym sm);
    })

-- a refusal of the writer changes nothing, and bytes past the item stay
pub writer_keeps : WriterKeeps
unfolding write_item
writer_keeps k n t out =
    let a = then (find types k) (λ d. join (be 2 k) (write (filled n t (names_of d)) 2)) in (refused_keeps a out, past_keeps a out)

abbrev numbers : ℕ → ℕ → ℕ → ℕ → ℕ → ℕ → ℕ → Numbers
numbers t z a b p g n =
    record { timestamp = t; size = z; size_one = a; size_two = b; place = p; agreement = g; page = n }

-- the values of an item that was read, by their names
module _ (s : List ℕ) (k : ℕ) (ps : List Part) where
  abbrev n : ℕ → ℕ
  n i = (get_or ps i no_part).value

  abbrev v : ℕ → List ℕ
  v i = bytes_at s (get_or ps i no_part)

  abbrev path : ℕ → List ℕ
  path i = stripped (length (v i) / 33) (v i)

  abbrev is : Case → Reading
  is c = record { case = c; kind = k; fields = firsts (length (names_of c)) ps }

  gives : (c : Case) → Gives s (is c)
  unfolding values opened unwrap
  gives Entry = record { numbers = numbers (n 0) 0 0 0 0 0 0; vectors = vectors [] (v 1) (v 2) [] (v 3) [] [] []; given = (refl, refl) }
  gives Receipt = record { numbers = numbers (n 1) 0 0 0 0 0 0; vectors = vectors (v 0) [] [] [] (v 2) (v 3) [] []; given = (refl, refl) }
  gives SignedHead = record { numbers = numbers (n 1) (n 2) 0 0 0 0 0; vectors = vectors (v 0) [] [] (v 3) (v 4) (v 5) [] []; given = (refl, refl) }
  gives Consistency = record { numbers = numbers 0 0 (n 1) (n 2) 0 0 0; vectors = vectors (v 0) [] [] [] [] [] (path 3) []; given = (refl, refl) }
  gives Inclusion = record { numbers = numbers 0 (n 1) 0 0 (n 2) 0 0; vectors = vectors (v 0) [] [] [] [] [] (path 3) []; given = (refl, refl) }
  gives Page = record { numbers = numbers (n 0) 0 0 0 0 (n 1) (n 2); vectors = vectors [] [] [] [] [] [] [] (v 3); given = (refl, refl) }

-- whatever is read can be written again
pub read_gives : ReadGives
read_gives s r e =
    let h = was_read s r e in
    let c = r.case in
    let l : length r.fields ≡ length (names_of c) = read_count (layout_of c) s 2 r.fields h.fields ∙ layout_length c in
    subst (λ (ps : List Part). Gives s (record { case = c; kind = r.kind; fields = ps })) (all_firsts (length (names_of c)) r.fields l) (gives s r.kind r.fields c)
