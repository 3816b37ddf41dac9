use mathlib.Core.Path.{◌≡◌, refl, sym, subst, ◌∙◌}
use mathlib.Core.List.{List}
use Prim.Native.Nat.{ℕ, ◌≤◌, ◌<◌}
use native.Mathlib.Omega.{arith}
use lib.ListN.{length, take}
use borrow.Author.Tests.{lt-ltb, le-ltb}
use Rattle.octets.specs.Limits.{most_item}
use Rattle.octets.specs.Numbers.{unbe}
use Rattle.fields.specs.Checked.{good, bad, then}
use Rattle.fields.specs.Layout.{read, parts_found}
use Rattle.item.specs.declared.table.Case.{Case}
use Rattle.item.specs.declared.table.Met.TheVariants.{Whole, TypeBytes}
use Rattle.item.specs.Table.{layout_of, met_in, types, find}
use Rattle.item.specs.Item.{item, read_by, read_item, Meets, met_by}
use Rattle.item.proofs.reader.read.Goals as goal

-- the cases of an item, and of what its refusal met, over plain lists
module _ (s : List ℕ) where
  long : most_item < length s → (bad 1 0 ≡ read_item s) × (Whole ≡ met_by s)
  unfolding read_by met_by
  long h = rw (lt-ltb _ _ h) (refl, refl)

  module _ (fit : length s ≤ most_item) where
    short : length s < 2 → (bad 2 0 ≡ read_item s) × (TypeBytes ≡ met_by s)
    unfolding read_by met_by
    short h = rw (le-ltb _ _ fit, lt-ltb _ _ h) (refl, refl)

    module _ (typed : 2 ≤ length s) (k : ℕ) (is : k ≡ unbe (take 2 s)) where
      unknown : find types k ≡ bad 4 0 → (bad 4 0 ≡ read_item s) × (TypeBytes ≡ met_by s)
      unfolding read_by met_by
      unknown e = rw (le-ltb _ _ fit, le-ltb _ _ typed, ← is, e) (refl, refl)

      known : (c : Case) → find types k ≡ good c → (then (read (layout_of c) s 2) (item c k) ≡ read_item s) × (met_in c (length (parts_found (layout_of c) s 2)) ≡ met_by s)
      unfolding read_by met_by
      known c e = rw (le-ltb _ _ fit, le-ltb _ _ typed, ← is, e) (refl, refl)

pub returns-then-s-gt-MOST_ITEM : goal.returns-then-s-gt-MOST_ITEM
returns-then-s-gt-MOST_ITEM c = long c.args.s.now (omega arith)

pub returns-then-s-lt2 : goal.returns-then-s-lt2
returns-then-s-lt2 c = short c.args.s.now (omega arith) (omega arith)

pub returns-in_default : goal.returns-in_default
returns-in_default c = unknown c.args.s.now (omega arith) (omega arith) c.number_at-kind.result c.number_at-kind.ensures.0 (sym c.in_default.ensures)

pub returns : goal.returns
returns c =
    let r = c.read_fields in
    let k = known c.args.s.now (omega arith) (omega arith) c.number_at-kind.result c.number_at-kind.ensures.0 c.in-Some.case (sym c.in-Some.ensures) in
    (r.ensures.0 ∙ k.0, subst (Meets r.result) k.1 r.ensures.1)
