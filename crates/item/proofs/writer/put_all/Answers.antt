use mathlib.Core.Path.{◌≡◌, ap, sym, subst, ◌∙◌}
use mathlib.Core.List.{List}
use Prim.Native.Nat.{ℕ, ◌+◌, ◌≤◌, ◌<◌}
use native.Mathlib.Omega.{arith}
use lib.ListN.{length, get_or}
use borrow.Author.Rules.{rules}
use Rattle.fields.specs.declared.layout.Field.{Field}
use Rattle.item.specs.declared.table.Case.{Case}
use Rattle.item.specs.declared.table.Name.{Name}
use Rattle.item.specs.declared.table.Name.TheVariants.{Timestamp}
use Rattle.item.specs.declared.writer.Numbers.{Numbers}
use Rattle.fields.specs.Write.{fill, write, laid, Filled, held}
use Rattle.item.specs.Table.{field_of, names_of}
use Rattle.item.specs.Steps.{number_by, bytes_by}
use Rattle.item.specs.Item.{Vectors, lent, filled}
use Rattle.fields.specs.Inner.{Good, written}
use Rattle.octets.specs.Bytes.{put, put_within}
use Rattle.fields.proofs.Filling.{nothing}
use Rattle.item.proofs.Rows.{filled_length, one_at}
use Rattle.fields.proofs.Putting.{Step, first_step, step_good, step_room, step_next, last_step, put_fits}
use Rattle.item.proofs.writer.put_all.Goals as goal

-- what the call asks, of the fields by the names that the code has
fits : (x : Numbers) (t : Vectors) (c : Case) (ns : List Name) (out : List ℕ) → ns ≡ names_of c → Good (write (filled x t (names_of c)) 2) × (2 + length (written (write (filled x t (names_of c)) 2)) ≤ length out) → Good (write (filled x t ns) 2) × (2 + length (written (write (filled x t ns) 2)) ≤ length out)
fits x t c ns out e h = subst (λ (l : List Name). Good (write (filled x t l) 2) × (2 + length (written (write (filled x t l) 2)) ≤ length out)) (sym e) h

-- the field at a loop's place, k being its number and v its bytes
module _ (x : Numbers) (t : Vectors) (ns : List Name) (i : ℕ) (left : i < length ns) (f : Field) (f_is : f ≡ field_of (get_or ns i Timestamp)) (k : ℕ) (k_is : k ≡ number_by x (get_or ns i Timestamp)) (v : List ℕ) (v_is : v ≡ bytes_by t (get_or ns i Timestamp)) where
  abbrev all : List Filled
  all = filled x t ns

  abbrev one : Filled
  one = record { field = f; value = held f k v }

  more : i < length all
  more = omega (arith, filled_length x t ns)

  is : get_or all i nothing ≡ one
  is = one_at x t ns i left f v f_is v_is ∙ ap (λ (j : ℕ). record { field = f; value = held f j v }) (sym k_is)

  -- the field is good and fits, the bytes so far being put over the first ones
  module _ (out₀ out : List ℕ) (at : ℕ) (room : 2 + length (written (write all 2)) ≤ length out₀) (s : Step out₀ (written (write all 2)) out all 2 at i) (wide : length out ≡ length out₀) where
    good_here : Good (fill one.field one.value at)
    good_here = step_good out₀ (written (write all 2)) out all 2 at i room s more one is

    room_here : at + length (written (fill one.field one.value at)) ≤ length out
    room_here = rw wide (step_room out₀ (written (write all 2)) out all 2 at i room s more one is)

    module _ (out₁ : List ℕ) (m : ℕ) (size : m ≡ length (laid one.field one.value)) (bytes : out₁ ≡ put_within out at (laid one.field one.value)) where
      ends : at + m ≤ length out
      ends = omega (arith, room_here, (put_fits one.field one.value out out₁ at m good_here room_here size bytes).0)

      next : Step out₀ (written (write all 2)) out₁ all 2 (at + m) (i + 1)
      next =
          let h = put_fits one.field one.value out out₁ at m good_here room_here size bytes in
          step_next out₀ (written (write all 2)) out all 2 at i room s more one is (at + m) out₁ h.0 h.1

pub loop-name-init : goal.loop-name-init
loop-name-init c =
    let a = c.args in
    let ns = c.names_of-names.result.now in
    first_step _ (filled a.numbers (lent a.vectors) ns) 2 (fits a.numbers (lent a.vectors) a.case ns a.out.now c.names_of-names.ensures c.requires).0

pub overflow_add-at : goal.overflow_add-at
overflow_add-at c =
    let a = c.args in
    let l = c.loop-name in
    let ns = c.names_of-names.result.now in
    let q = fits a.numbers (lent a.vectors) a.case ns a.out.now c.names_of-names.ensures c.requires in
    let p = c.put_field-m in
    let long : length l.out ≡ length a.out.now = search rules in
    let h = ends a.numbers (lent a.vectors) ns l.name-index (omega arith) _ c.field_of-f.ensures _ c.number_of-x.ensures _ c.bytes_of-v.ensures a.out.now l.out l.at q.1 l.invariant long _ p.result p.ensures.value p.ensures.out_after in
    omega (arith, h, long)

pub loop-name-preserved : goal.loop-name-preserved
loop-name-preserved c =
    let a = c.args in
    let l = c.loop-name in
    let ns = c.names_of-names.result.now in
    let q = fits a.numbers (lent a.vectors) a.case ns a.out.now c.names_of-names.ensures c.requires in
    let p = c.put_field-m in
    let long : length l.out ≡ length a.out.now = search rules in
    next a.numbers (lent a.vectors) ns l.name-index (omega arith) _ c.field_of-f.ensures _ c.number_of-x.ensures _ c.bytes_of-v.ensures a.out.now l.out l.at q.1 l.invariant long _ p.result p.ensures.value p.ensures.out_after

pub returns : goal.returns
returns c =
    let a = c.args in
    let l = c.loop-name in
    let ns = c.names_of-names.result.now in
    let all = filled a.numbers (lent a.vectors) ns in
    last_step a.out.now (written (write all 2)) l.out all 2 l.at l.name-index l.invariant (omega (arith, filled_length a.numbers (lent a.vectors) ns))
    ∙ ap (λ (ns : List Name). put a.out.now 2 (written (write (filled a.numbers (lent a.vectors) ns) 2))) c.names_of-names.ensures
