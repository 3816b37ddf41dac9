use mathlib.Core.Path.{◌≡◌, refl, ap, sym, ◌∙◌}
use mathlib.Core.List.{List}
use Prim.Native.Nat.{ℕ, ◌+◌, ◌≤◌, ◌<◌}
use native.Mathlib.Omega.{arith}
use lib.ListN.{length, drop, get_or}
use Rattle.fields.specs.declared.layout.Field.{Field}
use Rattle.fields.specs.Checked.{Checked, good, bad}
use Rattle.item.specs.declared.table.Name.{Name}
use Rattle.item.specs.declared.table.Name.TheVariants.{Timestamp}
use Rattle.item.specs.declared.writer.Numbers.{Numbers}
use Rattle.fields.specs.Write.{fill, write, Filled, held}
use Rattle.item.specs.Table.{field_of}
use Rattle.item.specs.Item.{Vectors, lent, filled}
use Rattle.item.specs.Steps.{number_by, bytes_by}
use Rattle.fields.specs.Inner.{ends}
use Rattle.fields.specs.Effect.{takes}
use Rattle.fields.proofs.Fills.{most}
use Rattle.fields.proofs.Filling.{nothing, Unjudged, takes_held, takes_short, takes_near, takes_moved, not_moved, stops, goes, ended}
use Rattle.item.proofs.Rows.{most_small, filled_length, one_at, count_small}
use Rattle.item.proofs.writer.measure.Goals as goal

-- the field at the loop's place: it takes few bytes, is refused within them, and its number is not judged
module _ (t : Vectors) (ns : List Name) (i : ℕ) (left : i < length ns) (f : Field) (f_is : f ≡ field_of (get_or ns i Timestamp)) (v : List ℕ) (v_is : v ≡ bytes_by t (get_or ns i Timestamp)) where
  few : (most f ≤ 4294967303) × Unjudged f
  few = rw f_is (most_small (get_or ns i Timestamp))

  near : (y z : ℕ) → bad y z ≡ takes (fill f (held f 0 v) 0) → z ≤ 4294967303
  near y z e = omega (arith, few.0, takes_near f (held f 0 v) y z (sym e))

  small : (m : ℕ) → good m ≡ takes (fill f (held f 0 v) 0) → m ≤ 4294967303
  small m e = omega (arith, few.0, takes_short f (held f 0 v) m (sym e))

  module _ (x : Numbers) where
    abbrev all : List Filled
    all = filled x t ns

    abbrev one : Filled
    one = record { field = f; value = held f (number_by x (get_or ns i Timestamp)) v }

    is : get_or all i nothing ≡ one
    is = one_at x t ns i left f v f_is v_is

    more : i < length all
    more = omega (arith, filled_length x t ns)

    said : (told : Checked ℕ) → told ≡ takes (fill f (held f 0 v) 0) → takes (fill one.field one.value 0) ≡ told
    said told e = sym (e ∙ takes_held f (number_by x (get_or ns i Timestamp)) v 0 few.1)

    stopped : (at y z : ℕ) → bad y z ≡ takes (fill f (held f 0 v) 0) → ends at (write (drop i all) at) ≡ bad y (at + z)
    stopped at y z e = stops all at i more one is _ _ (not_moved one.field one.value at y z (said (bad y z) e))

    gone : (at m : ℕ) → good m ≡ takes (fill f (held f 0 v) 0) → ends at (write (drop i all) at) ≡ ends (at + m) (write (drop (i + 1) all) (at + m))
    gone at m e = goes all at i more one is m (takes_moved one.field one.value at m (said (good m) e))

pub loop-name-init : goal.loop-name-init
loop-name-init c = (omega arith, λ x. refl)

pub overflow_add-result : goal.overflow_add-result
overflow_add-result c =
    let a = c.args in
    let l = c.loop-name in
    let h = near (lent a.vectors) c.names_of-names.result.now l.name-index (omega arith) _ c.field_of.ensures _ c.bytes_of.ensures _ _ c.in-Err.ensures in
    omega (arith, h, l.invariant.0, ap length c.names_of-names.ensures, count_small a.case)

pub returns-in-Err : goal.returns-in-Err
returns-in-Err c =
    let a = c.args in
    let l = c.loop-name in
    let ns = c.names_of-names.result.now in
    λ x. sym (ap (λ (ns : List Name). ends 2 (write (filled x (lent a.vectors) ns) 2)) (sym c.names_of-names.ensures) ∙ l.invariant.1 x
    ∙ stopped (lent a.vectors) ns l.name-index (omega arith) _ c.field_of.ensures _ c.bytes_of.ensures x l.at _ _ c.in-Err.ensures)

pub overflow_add-at : goal.overflow_add-at
overflow_add-at c =
    let a = c.args in
    let l = c.loop-name in
    let h = small (lent a.vectors) c.names_of-names.result.now l.name-index (omega arith) _ c.field_of.ensures _ c.bytes_of.ensures _ c.in-Ok.ensures in
    omega (arith, h, l.invariant.0, ap length c.names_of-names.ensures, count_small a.case)

pub loop-name-preserved : goal.loop-name-preserved
loop-name-preserved c =
    let a = c.args in
    let l = c.loop-name in
    let ns = c.names_of-names.result.now in
    let h = small (lent a.vectors) ns l.name-index (omega arith) _ c.field_of.ensures _ c.bytes_of.ensures _ c.in-Ok.ensures in (
      omega (arith, h, l.invariant.0),
      (λ x. l.invariant.1 x ∙ gone (lent a.vectors) ns l.name-index (omega arith) _ c.field_of.ensures _ c.bytes_of.ensures x l.at _ c.in-Ok.ensures),
    )

pub returns : goal.returns
returns c =
    let a = c.args in
    let l = c.loop-name in
    let ns = c.names_of-names.result.now in
    λ x. sym (ap (λ (ns : List Name). ends 2 (write (filled x (lent a.vectors) ns) 2)) (sym c.names_of-names.ensures) ∙ l.invariant.1 x
    ∙ ended (filled x (lent a.vectors) ns) l.at l.name-index (omega (arith, filled_length x (lent a.vectors) ns)))
