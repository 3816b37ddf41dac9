-- What the order of extensions changes in the answer on an item, from the laws over any layout. Assumes nothing.
use mathlib.Core.Path.{◌≡◌, refl, ap, ap₂, sym, subst, ◌∙◌}
use mathlib.Core.Logic.{◌↔◌}
use mathlib.Core.List.{List, [], ◌∷◌, ◌++◌, map}
use mathlib.Core.Bool.{Bool, true, false, cond}
use Prim.Native.Nat.{ℕ, ◌≤◌}
use native.Mathlib.Omega.{arith}
use lib.ListN.{length, take, length-map, length-append}
use lib.Seq.{take_at}
use lib.Dec.{ltb, eqb}
use borrow.Author.Tests.{le-ltb}
use Rattle.octets.specs.Limits.{most_item}
use Rattle.octets.specs.Numbers.{be, unbe}
use Rattle.octets.proofs.Numbers.{be_length, unbe_be}
use Rattle.fields.specs.declared.layout.Part.{Part}
use Rattle.fields.specs.declared.layout.Field.{Field}
use Rattle.fields.specs.declared.layout.Order.TheVariants.{Ordered}
use Rattle.fields.specs.Checked.{Checked, good, bad, then}
use Rattle.fields.specs.Layout.{read, bytes_at}
use Rattle.fields.specs.Write.{Filled, join, write}
use Rattle.fields.specs.Effect.{Effect, effect, unwritten, wrote}
use Rattle.fields.specs.Claims.{Each}
use Rattle.fields.specs.Extensions.{Extended, unordered, GoesOn, ListOutOfOrder, InOrder, all_laid}
use Rattle.fields.proofs.Answers.{bad_good, good_bad, same_good, same_place, same_number}
use Rattle.fields.proofs.Resuming.{firsts}
use Rattle.fields.proofs.Within.{read_count}
use Rattle.fields.proofs.Ordering as fields
use Rattle.fields.proofs.Sorting as sorted
use Rattle.fields.proofs.Refusing.{layout_refused_as_read}
use Rattle.item.specs.declared.table.Case.{Case}
use Rattle.item.specs.declared.table.Case.TheVariants.{Entry, Receipt, SignedHead, Consistency, Inclusion, Page}
use Rattle.item.specs.Table.{TypeRow, names_of, layout_of, types, find}
use Rattle.item.specs.Item.{Reading, item, read_by, read_item, filled, write_item}
use Rattle.item.proofs.Rows.{layout_length}
use Rattle.item.proofs.Items.{all_typed, layout_filled}
use Rattle.fields.proofs.Resuming.{all_firsts}
use Rattle.item.specs.Claims.{older_item, StillRead, RefusedByOrder, FifteenInList, extensions_in, ReadByOrder, OrderFirst, RefusedAsRead}

find_number : (rs : List TypeRow) (k x at : ℕ) → find rs k ≡ bad x at → x ≡ 4
unfolding find
find_number [] k x at e = same_number 4 x 0 at e
find_number (r ∷ rs) k x at e = go (eqb k r.kind) e (find_number rs k x at)
  where
    go : (b : Bool) → cond b (good r.case) (find rs k) ≡ bad x at → (find rs k ≡ bad x at → x ≡ 4) → x ≡ 4
    go true e later = good_bad x at _ e
    go false e later = later e

-- both rules refuse before they look at a field, and alike, or read the fields of one line
data Rules (s : List ℕ) (now older : Checked Reading) : Type 0 where
  early : (x y : ℕ) → (x ≡ 15 → ⊥) → now ≡ bad x y → older ≡ bad x y → Rules s now older
  line :
      (c : Case) (k : ℕ) → now ≡ then (read (layout_of c) s 2) (item c k) → older ≡ then (read (map unordered (layout_of c)) s 2) (item c k)
      → Rules s now older

rules : (s : List ℕ) → Rules s (read_item s) (older_item s)
unfolding read_by
rules s = go (ltb most_item (length s)) (ltb (length s) 2) (find types k) refl
  where
    k : ℕ
    k = unbe (take 2 s)

    by : (Case → List Field) → Bool → Bool → Checked Case → Checked Reading
    by fields_of a b c = cond a (bad 1 0) (cond b (bad 2 0) (then c (λ d. then (read (fields_of d) s 2) (item d k))))

    go : (a b : Bool) (c : Checked Case) → find types k ≡ c → Rules s (by layout_of a b c) (by (λ d. map unordered (layout_of d)) a b c)
    go true b c h = early 1 0 (λ z. omega arith) refl refl
    go false true c h = early 2 0 (λ z. omega arith) refl refl
    go false false (bad x y) h = early x y (λ z. omega (arith, find_number types k x y h)) refl refl
    go false false (good d) h = line d k refl refl

module _ (c : Case) (k : ℕ) where
  -- what a line reads, and what it refuses
  line_good : (a : Checked (List Part)) (r : Reading) → then a (item c k) ≡ good r → (a ≡ good r.fields) × (r.case ≡ c)
  line_good (bad x y) r e = bad_good x y r e
  line_good (good ps) r e = let q = same_good (record { case = c; kind = k; fields = ps }) r e in (ap (λ (z : Reading). good z.fields) q, sym (ap (λ (z : Reading). z.case) q))

  line_bad : (a : Checked (List Part)) (x y : ℕ) → then a (item c k) ≡ bad x y → a ≡ bad x y
  line_bad (good ps) x y e = good_bad x y _ e
  line_bad (bad u v) x y e = cc

  line_on : (a : Checked (List Part)) (y : ℕ) → GoesOn y a → GoesOn y (then a (item c k))
  line_on (good ps) y h = tt
  line_on (bad x z) y h = h

pub still_read : StillRead
still_read s r e = go (rules s)
  where
    go : Rules s (read_item s) (older_item s) → older_item s ≡ good r
    go (early x y h n o) = bad_good x y r (sym n ∙ e)
    go (line c k n o) =
        let g = (line_good c k (read (layout_of c) s 2) r (sym n ∙ e)).0 in
        o ∙ ap (λ (a : Checked (List Part)). then a (item c k)) (fields.still_read (layout_of c) s 2 r.fields g ∙ sym g) ∙ sym n ∙ e

pub refused_by_order : RefusedByOrder
refused_by_order s x y e = go (rules s)
  where
    go : Rules s (read_item s) (older_item s) → (x ≡ 15 → GoesOn y (older_item s)) × ((x ≡ 15 → ⊥) → older_item s ≡ bad x y)
    go (early u v h n o) = let q = same_number u x v y (sym n ∙ e) in ((λ z. absurd (h (sym q ∙ z))), λ z. o ∙ sym n ∙ e)
    go (line c k n o) =
        let b = line_bad c k (read (layout_of c) s 2) x y (sym n ∙ e) in
        let f = fields.refused_by_order (layout_of c) s 2 x y b in
        ((λ z. rw o (line_on c k (read (map unordered (layout_of c)) s 2) y (f.0 z))), λ z. rw (o, f.1 z))

pub fifteen_in_list : FifteenInList
fifteen_in_list s y bs e = go (rules s)
  where
    go : Rules s (read_item s) (older_item s) → ListOutOfOrder s y
    go (early u v h n o) = absurd (h (sym (same_number u 15 v y (sym n ∙ e))))
    go (line c k n o) = sorted.fifteen_in_list (layout_of c) s 2 y bs (line_bad c k (read (layout_of c) s 2) 15 y (sym n ∙ e))

-- of a line's fields extensions alone have an order
abbrev Ascend : List ℕ → Case → List Part → Type 0
Ascend s c ps = Each (λ p. Extended Ordered (bytes_at s p)) (extensions_in c ps)

in_order : (s : List ℕ) (c : Case) (ps : List Part) → InOrder (layout_of c) s (firsts (length (names_of c)) ps) ↔ Ascend s c (firsts (length (names_of c)) ps)
in_order s Entry ps = ((λ i. (i.1.1.1.0, tt)), λ i. (tt, (tt, (tt, (i.0, tt)))))
in_order s Receipt ps = ((λ i. (i.1.1.0, tt)), λ i. (tt, (tt, (i.0, (tt, tt)))))
in_order s SignedHead ps = ((λ i. (i.1.1.1.1.0, tt)), λ i. (tt, (tt, (tt, (tt, (i.0, (tt, tt)))))))
in_order s Consistency ps = ((λ i. tt), λ i. (tt, (tt, (tt, (tt, tt)))))
in_order s Inclusion ps = ((λ i. tt), λ i. (tt, (tt, (tt, (tt, tt)))))
in_order s Page ps = ((λ i. tt), λ i. (tt, (tt, (tt, (tt, tt)))))

pub read_by_order : ReadByOrder
read_by_order s r bs e = go (rules s)
  where
    go : Rules s (read_item s) (older_item s) → (read_item s ≡ good r) ↔ Ascend s r.case r.fields
    go (early x y h n o) = bad_good x y r (sym o ∙ e)
    go (line c k n o) =
        let g = line_good c k (read (map unordered (layout_of c)) s 2) r (sym o ∙ e) in
        let f = sorted.read_by_order (layout_of c) s 2 r.fields bs g.0 in
        let l : length r.fields ≡ length (names_of c) = read_count (map unordered (layout_of c)) s 2 r.fields g.0 ∙ length-map (layout_of c) unordered ∙ layout_length c in
        let w = subst (λ (ps : List Part). InOrder (layout_of c) s ps ↔ Ascend s c ps) (all_firsts (length (names_of c)) r.fields l) (in_order s c r.fields) in (
          (λ z. rw g.1 (w.0 (f.0 (line_good c k (read (layout_of c) s 2) r (sym n ∙ z)).0))),
          λ i. n ∙ ap (λ (a : Checked (List Part)). then a (item c k)) (f.1 (w.1 (rw g.1 at i)) ∙ sym g.0) ∙ sym o ∙ e,
        )

pub order_first : OrderFirst
unfolding read_by
order_first s c x y bs short typed known e h =
    let k = unbe (take 2 s) in
    let r : read_item s ≡ then (read (layout_of c) s 2) (item c k) = rw (le-ltb most_item (length s) short, le-ltb (length s) 2 typed, known) in
    sorted.order_first (layout_of c) s 2 x y bs (line_bad c k (read (layout_of c) s 2) x y (sym r ∙ e)) h

pub refused_as_read : RefusedAsRead
unfolding read_by write_item
refused_as_read k n t out c y z known short e = go (write fs 2) refl (rw known at e)
  where
    fs : List Filled
    fs = filled n t (names_of c)

    b : List ℕ
    b = be 2 k ++ all_laid fs

    l : length (be 2 k) ≡ 2
    l = be_length 2 k

    reads : write fs 2 ≡ bad 15 y → read (layout_of c) b 2 ≡ bad 15 y
    reads h =
        let r = layout_refused_as_read fs (be 2 k) 15 y (all_typed k n t z (names_of c)) (rw l h) (λ q. omega arith) (λ q. omega arith) in
        rw (layout_filled n t (names_of c), l) at r

    there : write fs 2 ≡ bad 15 y → read_item b ≡ bad 15 y
    there h =
        let two : 2 ≤ length b = omega (arith, l, length-append (be 2 k) (all_laid fs)) in
        let u : unbe (take 2 b) ≡ k = ap unbe (take_at (be 2 k) (all_laid fs) 2 l) ∙ unbe_be 2 k z.kind in
        rw (le-ltb most_item (length b) short, le-ltb (length b) 2 two, u, known, reads h)

    no_room : (q : Bool) (a : List ℕ) → (cond {A = Effect} q (unwritten 9 0 out) (wrote a out)).answer ≡ bad 15 y → ⊥
    no_room true a e = let q = same_number 9 15 0 y e in omega arith
    no_room false a e = good_bad 15 y _ e

    go : (a : Checked (List ℕ)) → write fs 2 ≡ a → (effect out (join (be 2 k) a)).answer ≡ bad 15 y → read_item b ≡ bad 15 y
    go (good d) ha e = absurd (no_room (ltb (length out) (length (be 2 k ++ d))) (be 2 k ++ d) e)
    go (bad u v) ha e = there (ha ∙ ap₂ bad (sym (same_number u 15 v y e)) (sym (same_place u 15 v y e)))
