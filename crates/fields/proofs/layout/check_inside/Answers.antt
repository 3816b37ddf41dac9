use mathlib.Core.Path.{◌≡◌, refl, ap, sym, ◌∙◌}
use mathlib.Core.List.{List}
use Prim.Native.Nat.{ℕ, ◌+◌, ◌≤◌, ◌<◌}
use native.Mathlib.Omega.{arith}
use lib.ListN.{length}
use Rattle.fields.specs.declared.layout.Inner.{Inner}
use Rattle.fields.specs.Layout.{element, inside_from, inside, sized}
use Rattle.fields.specs.Inner.{part}
use Rattle.fields.specs.Checked.{good, bad}
use Rattle.octets.specs.Answer.{refused}
use Rattle.fields.proofs.Elements.{part_length, part_drop, element_size, inside_none, inside_bad, inside_more}
use Rattle.fields.proofs.layout.check_inside.Goals.{In-Ok}
use Rattle.fields.proofs.layout.check_inside.Goals as goal

module _ (s : List ℕ) (at end : ℕ) (i : Inner) (last : ℕ) (fit : end ≤ length s) where
  done : at ≡ end → inside_from i last (part s at end) at ≡ good tt
  done h = inside_none i last (part s at end) at (part_length s at end (omega arith) fit ∙ omega arith)

  module _ (some : at < end) where
    filled : 0 < length (part s at end)
    filled = rw (part_length s at end (omega arith) fit) (omega arith)

    stop : (x : ℕ) → element i last (part s at end) ≡ refused x → inside_from i last (part s at end) at ≡ bad x at
    stop x e = inside_bad i last (part s at end) at x filled e

    step : (n t : ℕ) → element i last (part s at end) ≡ sized n t → (0 < n) × (at + n ≤ end) × (inside_from i last (part s at end) at ≡ inside_from i t (part s (at + n) end) (at + n))
    step n t e =
        let z = element_size i last (part s at end) n t filled e in
        let l = part_length s at end (omega arith) fit in
        (omega arith, omega arith, inside_more i last (part s at end) at n t filled e ∙ ap (λ (r : List ℕ). inside_from i t r (at + n)) (part_drop s at end n))

pub loop-at-init : goal.loop-at-init
unfolding inside
loop-at-init c = (omega arith, refl)

pub returns-in-Err : goal.returns-in-Err
returns-in-Err c =
    let l = c.loop-at in
    let a = c.args in
    sym (l.invariant.1 ∙ stop a.s.now l.at a.end a.inner l.last (omega arith) (omega arith) _ (sym c.in-Err.ensures))

-- what an element that is there says
forth : (c : In-Ok) → (0 < c.in-Ok.e.len) × (c.loop-at.at + c.in-Ok.e.len ≤ c.args.end) × (inside_from c.args.inner c.loop-at.last (part c.args.s.now c.loop-at.at c.args.end) c.loop-at.at ≡ inside_from c.args.inner c.in-Ok.e.next (part c.args.s.now (c.loop-at.at + c.in-Ok.e.len) c.args.end) (c.loop-at.at + c.in-Ok.e.len))
forth c = step c.args.s.now c.loop-at.at c.args.end c.args.inner c.loop-at.last (omega arith) (omega arith) c.in-Ok.e.len c.in-Ok.e.next (sym c.in-Ok.ensures)

pub overflow_add-at : goal.overflow_add-at
overflow_add-at c = let h = forth (goal.at.overflow_add-at c).In-Ok in omega (arith, h.1)

pub loop-at-smaller : goal.loop-at-smaller
loop-at-smaller c = let h = forth (goal.at.loop-at-smaller c).In-Ok in omega (arith, h.0, h.1)

pub loop-at-preserved : goal.loop-at-preserved
loop-at-preserved c = let h = forth (goal.at.loop-at-preserved c).In-Ok in (h.1, c.loop-at.invariant.1 ∙ h.2)

pub returns : goal.returns
returns c =
    let l = c.loop-at in
    let a = c.args in
    sym (l.invariant.1 ∙ done a.s.now l.at a.end a.inner l.last (omega arith) (omega arith))
