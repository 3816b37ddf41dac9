-- What is read of a line's layout, as an item; and what a refusal met. Assumes nothing.
use mathlib.Core.Path.{◌≡◌, refl, ◌∙◌}
use mathlib.Core.List.{List}
use mathlib.Core.Bool.{Bool, true, false, cond}
use Prim.Native.Nat.{ℕ}
use native.Mathlib.Omega.{arith}
use lib.ListN.{length, get_or, take}
use lib.Dec.{ltb}
use borrow.Author.Tests.{ltb-true, ltb-false}
use Rattle.std.specs.Prelude.{Result, Ok, Err}
use Rattle.octets.specs.Refusals.{refusal_number}
use Rattle.octets.specs.Limits.{most_item}
use Rattle.octets.specs.Numbers.{unbe}
use Rattle.fields.specs.declared.layout.Part.{Part}
use Rattle.fields.specs.Checked.{Checked, good, bad, then}
use Rattle.fields.specs.Layout.{read, parts_found}
use Rattle.fields.specs.Claims.{Met}
use Rattle.fields.proofs.Answers.{bad_good, good_bad, same_number, same_place}
use Rattle.fields.proofs.Within.{found_before}
use Rattle.item.specs.declared.table.Case.{Case}
use Rattle.item.specs.declared.table.Name.TheVariants.{Timestamp}
use Rattle.item.specs.declared.table.Met.{Met as MetKind}
use Rattle.item.specs.declared.table.Met.TheVariants.{Whole, TypeBytes, Named, After}
use Rattle.item.specs.declared.reader.Item.{Item}
use Rattle.item.specs.declared.reader.ItemRefused.{ItemRefused}
use Rattle.item.specs.Table.{names_of, layout_of, met_in, types, find}
use Rattle.item.specs.Item.{Reading, item, reading, read_by, Meets, met_after, met_by}
use Rattle.item.specs.Claims.{Meeting, whole, type_bytes, named, after, NamesItsField}
use Rattle.item.proofs.Rows.{layout_length}
use Rattle.item.proofs.Items.{find_place}

-- an item that was read met nothing
pub reads_meets : (i : Result Item ItemRefused) (q : Reading) (m : MetKind) → reading i ≡ good q → Meets i m
reads_meets (Ok i) q m e = tt
reads_meets (Err r) q m e = bad_good (refusal_number r.refusal) r.place q e

-- a refusal names what it met
met_field : (s : List ℕ) (c : Case) (x at : ℕ) → find types (unbe (take 2 s)) ≡ good c → read (layout_of c) s 2 ≡ bad x at → Meeting s x at (met_in c (length (parts_found (layout_of c) s 2)))
met_field s c x at h e =
    let m = (found_before (layout_of c) s 2).1 x at e in
    go (ltb (length (parts_found (layout_of c) s 2)) (length (names_of c))) refl m
  where
    go : (b : Bool) → ltb (length (parts_found (layout_of c) s 2)) (length (names_of c)) ≡ b → Met (layout_of c) s 2 x at → Meeting s x at (cond b (Named (get_or (names_of c) (length (parts_found (layout_of c) s 2)) Timestamp)) After)
    go true hb m = named c h (ltb-true _ _ hb) m.before
    go false hb m =
        let l : length (parts_found (layout_of c) s 2) ≡ length (layout_of c) = omega (arith, m.some, ltb-false (length (parts_found (layout_of c) s 2)) (length (names_of c)) hb, layout_length c) in
        after (m.over l)

pub names_its_field : NamesItsField
unfolding read_by met_by
names_its_field s x at e = go (ltb most_item (length s)) (ltb (length s) 2) (find types (unbe (take 2 s))) refl e
  where
    k : ℕ
    k = unbe (take 2 s)

    inner : (c : Case) (a : Checked (List Part)) → read (layout_of c) s 2 ≡ a → then a (item c k) ≡ bad x at → read (layout_of c) s 2 ≡ bad x at
    inner c (good ps) ha e = good_bad x at _ e
    inner c (bad y z) ha e = ha ∙ again y z e
      where
        again : (y z : ℕ) → ◌≡◌ {A = Checked Reading} (bad y z) (bad x at) → ◌≡◌ {A = Checked (List Part)} (bad y z) (bad x at)
        again y z e = let p : y ≡ x = cc in let q : z ≡ at = cc in rw (p, q)

    go : (a b : Bool) (c : Checked Case) → find types k ≡ c → cond a (bad 1 0) (cond b (bad 2 0) (then c (λ d. then (read (layout_of d) s 2) (item d k)))) ≡ bad x at → Meeting s x at (cond a Whole (cond b TypeBytes (met_after c (λ d. met_in d (length (parts_found (layout_of d) s 2))))))
    go true b c hc e = whole (same_number 1 x 0 at e) (same_place 1 x 0 at e)
    go false true c hc e = type_bytes (same_place 2 x 0 at e)
    go false false (bad y z) hc e = type_bytes (same_place y x z at e ∙ find_place types k y z hc)
    go false false (good d) hc e = met_field s d x at hc (inner d (read (layout_of d) s 2) refl e)
