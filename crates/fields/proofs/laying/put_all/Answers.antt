use mathlib.Core.Path.{◌≡◌, ap, sym, ◌∙◌}
use mathlib.Core.List.{List, []}
use Prim.Native.Nat.{ℕ, ◌+◌, ◌≤◌, ◌<◌}
use native.Mathlib.Omega.{arith}
use lib.ListN.{length, take, get_or}
use borrow.Author.Rules.{rules}
use Rattle.octets.specs.declared.number.Width.TheVariants.{One}
use Rattle.octets.specs.Bytes.{put_within}
use Rattle.fields.specs.declared.layout.Field.{Field}
use Rattle.fields.specs.declared.layout.Field.TheVariants.{Uint}
use Rattle.fields.specs.Write.{fill, write, laid, Filled, behind, filled_by}
use Rattle.fields.specs.Inner.{Good, written}
use Rattle.fields.proofs.Filling.{nothing}
use Rattle.fields.proofs.Putting.{Step, first_step, step_good, step_room, step_next, last_step, put_fits}
use Rattle.fields.proofs.Reaching.{behind_at, filled_at, firsts_count, firsts_at}
use Rattle.fields.proofs.laying.put_all.Goals as goal

-- the field at a loop's place, v being its bytes
module _ (layout : List Field) (ns : List ℕ) (vs : List (List ℕ)) (n : ℕ) (few : n ≤ length layout) (i : ℕ) (left : i < n) (v : List ℕ) (v_is : v ≡ get_or vs i []) where
  abbrev all : List Filled
  all = filled_by (take n layout) ns vs

  abbrev one : Filled
  one = filled_at (get_or layout i (Uint One)) (get_or ns i 0) v

  more : i < length all
  more = omega (arith, firsts_count layout ns vs n few)

  is : get_or all i nothing ≡ one
  is = firsts_at layout ns vs n few i left ∙ ap (filled_at (get_or layout i (Uint One)) (get_or ns i 0)) (sym v_is)

  -- the field is good and fits, the bytes so far being put over the first ones
  module _ (out₀ out : List ℕ) (at : ℕ) (fit : length (written (write all 0)) ≤ length out₀) (s : Step out₀ (written (write all 0)) out all 0 at i) (long : length out ≡ length out₀) where
    room : 0 + length (written (write all 0)) ≤ length out₀
    room = omega arith

    fits : Good (fill one.field one.value at)
    fits = step_good out₀ (written (write all 0)) out all 0 at i room s more one is

    has_room : at + length (written (fill one.field one.value at)) ≤ length out
    has_room = rw long (step_room out₀ (written (write all 0)) out all 0 at i room s more one is)

    module _ (out₁ : List ℕ) (m : ℕ) (size : m ≡ length (laid one.field one.value)) (bytes : out₁ ≡ put_within out at (laid one.field one.value)) where
      ends : at + m ≤ length out
      ends = omega (arith, has_room, (put_fits one.field one.value out out₁ at m fits has_room size bytes).0)

      next : Step out₀ (written (write all 0)) out₁ all 0 (at + m) (i + 1)
      next =
          let h = put_fits one.field one.value out out₁ at m fits has_room size bytes in
          step_next out₀ (written (write all 0)) out all 0 at i room s more one is (at + m) out₁ h.0 h.1

pub loop-i-init : goal.loop-i-init
loop-i-init c =
    let a = c.args in
    (search rules, first_step _ (filled_by (take a.n a.layout) a.numbers (behind a.values)) 0 c.requires.1)

pub overflow_add-at : goal.overflow_add-at
overflow_add-at c =
    let a = c.args in
    let l = c.loop-i in
    let few : a.n ≤ length a.layout = omega (arith, l.invariant.0) in
    let p = c.put_field-m in
    let long : length l.out ≡ length a.out.now = search rules in
    let h = ends a.layout a.numbers (behind a.values) a.n few l.i (omega arith) _ (behind_at a.values l.i) a.out.now l.out l.at c.requires.2 l.invariant.1 long _ p.result p.ensures.value p.ensures.out_after in
    omega (arith, h, long)

pub loop-i-preserved : goal.loop-i-preserved
loop-i-preserved c =
    let a = c.args in
    let l = c.loop-i in
    let few : a.n ≤ length a.layout = omega (arith, l.invariant.0) in
    let p = c.put_field-m in
    let long : length l.out ≡ length a.out.now = search rules in
    (l.invariant.0, next a.layout a.numbers (behind a.values) a.n few l.i (omega arith) _ (behind_at a.values l.i) a.out.now l.out l.at c.requires.2 l.invariant.1 long _ p.result p.ensures.value p.ensures.out_after)

pub returns : goal.returns
returns c =
    let a = c.args in
    let l = c.loop-i in
    let few : a.n ≤ length a.layout = omega (arith, l.invariant.0) in
    let all = filled_by (take a.n a.layout) a.numbers (behind a.values) in
    last_step a.out.now (written (write all 0)) l.out all 0 l.at l.i l.invariant.1 (omega (arith, firsts_count a.layout a.numbers (behind a.values) a.n few))
