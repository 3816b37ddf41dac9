use mathlib.Core.Path.{◌≡◌, refl, ap, sym, ◌∙◌}
use mathlib.Core.List.{List, []}
use Prim.Native.Nat.{ℕ, ◌+◌, ◌≤◌, ◌<◌}
use native.Mathlib.Omega.{arith}
use lib.ListN.{length, take, drop, get_or}
use borrow.Author.Rules.{rules}
use Rattle.octets.specs.declared.number.Width.TheVariants.{One}
use Rattle.fields.specs.declared.layout.Field.{Field}
use Rattle.fields.specs.declared.layout.Field.TheVariants.{Uint}
use Rattle.fields.specs.Write.{fill, write, Filled, behind, filled_by}
use Rattle.fields.specs.Effect.{takes, longest}
use Rattle.fields.specs.Inner.{ends, reached}
use Rattle.fields.specs.Checked.{good, bad}
use Rattle.fields.proofs.Filling.{nothing, takes_moved, not_moved, stops, goes, ended}
use Rattle.fields.proofs.Reaching.{behind_at, filled_at, firsts_count, firsts_at, reached_far, reached_not, reached_past, reached_takes}
use Rattle.fields.proofs.laying.measure.Goals as goal

pub loop-i-init : goal.loop-i-init
loop-i-init c = (omega arith, search rules, refl)

-- the field at a loop's place, v being its bytes
module _ (layout : List Field) (ns : List ℕ) (vs : List (List ℕ)) (n : ℕ) (few : n ≤ length layout) (i : ℕ) (left : i < n) (v : List ℕ) (v_is : v ≡ get_or vs i []) where
  abbrev all : List Filled
  all = filled_by (take n layout) ns vs

  abbrev one : Filled
  one = filled_at (get_or layout i (Uint One)) (get_or ns i 0) v

  more : i < length all
  more = omega (arith, firsts_count layout ns vs n few)

  is : get_or all i nothing ≡ one
  is = firsts_at layout ns vs n few i left ∙ ap (filled_at (get_or layout i (Uint One)) (get_or ns i 0)) (sym v_is)

  -- refused there, or past it
  stopped : (at x y : ℕ) → bad x y ≡ takes (fill one.field one.value 0) → reached (ends at (write (drop i all) at)) ≡ reached (bad x (at + y))
  stopped at x y e = ap reached (stops all at i more one is _ _ (not_moved one.field one.value at x y (sym e)))

  gone : (at m : ℕ) → good m ≡ takes (fill one.field one.value 0) → reached (ends at (write (drop i all) at)) ≡ reached (ends (at + m) (write (drop (i + 1) all) (at + m)))
  gone at m e = ap reached (goes all at i more one is m (takes_moved one.field one.value at m (sym e)))

pub returns-then-at-e : goal.returns-then-at-e
returns-then-at-e c =
    let a = c.args in
    let l = c.loop-i in
    let few : a.n ≤ length a.layout = omega (arith, l.invariant.1) in
    let far : longest < l.at + c.in-Err.e.place = omega (arith, c.if-at-e.true) in
    sym (l.invariant.2 ∙ stopped a.layout a.numbers (behind a.values) a.n few l.i (omega arith) _ (behind_at a.values l.i) l.at _ _ c.in-Err.ensures ∙ reached_past _ _ far)

pub returns-in-Err : goal.returns-in-Err
returns-in-Err c =
    let a = c.args in
    let l = c.loop-i in
    let few : a.n ≤ length a.layout = omega (arith, l.invariant.1) in
    let near : l.at + c.in-Err.e.place ≤ longest = omega (arith, c.if-at-e.false, l.invariant.0) in
    sym (l.invariant.2 ∙ stopped a.layout a.numbers (behind a.values) a.n few l.i (omega arith) _ (behind_at a.values l.i) l.at _ _ c.in-Err.ensures ∙ reached_not _ _ near)

pub returns-then-at-m : goal.returns-then-at-m
returns-then-at-m c =
    let a = c.args in
    let l = c.loop-i in
    let few : a.n ≤ length a.layout = omega (arith, l.invariant.1) in
    let far : longest < l.at + c.in-Ok.m = omega (arith, c.if-at-m.true) in
    sym (l.invariant.2 ∙ gone a.layout a.numbers (behind a.values) a.n few l.i (omega arith) _ (behind_at a.values l.i) l.at _ c.in-Ok.ensures ∙ reached_far _ _ far)

pub loop-i-preserved : goal.loop-i-preserved
loop-i-preserved c =
    let a = c.args in
    let l = c.loop-i in
    let few : a.n ≤ length a.layout = omega (arith, l.invariant.1) in
    (omega (arith, c.if-at-m.false), l.invariant.1, l.invariant.2 ∙ gone a.layout a.numbers (behind a.values) a.n few l.i (omega arith) _ (behind_at a.values l.i) l.at _ c.in-Ok.ensures)

pub returns : goal.returns
returns c =
    let a = c.args in
    let l = c.loop-i in
    let few : a.n ≤ length a.layout = omega (arith, l.invariant.1) in
    sym (l.invariant.2 ∙ ap reached (ended (filled_by (take a.n a.layout) a.numbers (behind a.values)) l.at l.i (omega (arith, firsts_count a.layout a.numbers (behind a.values) a.n few))) ∙ reached_takes _ l.invariant.0)
