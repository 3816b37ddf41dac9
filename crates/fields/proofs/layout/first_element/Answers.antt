use mathlib.Core.Path.{◌≡◌}
use mathlib.Core.List.{List}
use Prim.Native.Nat.{ℕ, ◌-◌, ◌≤◌, ◌<◌}
use native.Mathlib.Omega.{arith}
use lib.ListN.{length}
use Rattle.fields.specs.declared.layout.Inner.{Inner}
use Rattle.fields.specs.declared.layout.Inner.TheVariants.{Opaque}
use Rattle.fields.specs.Layout.{element, sized}
use Rattle.fields.specs.Inner.{part}
use Rattle.fields.proofs.Elements.{part_length}
use Rattle.fields.proofs.layout.first_element.Goals as goal

opaque : (s : List ℕ) (at end : ℕ) (i : Inner) (last : ℕ) → at < end → end ≤ length s → i ≡ Opaque → sized (end - at) 0 ≡ element i last (part s at end)
unfolding element
opaque s at end i last some fit e = rw (e, part_length s at end (omega arith) fit)

pub returns-in-Opaque : goal.returns-in-Opaque
returns-in-Opaque c = let a = c.args in opaque a.s.now a.at a.end a.inner a.last (omega arith) (omega arith) c.in-Opaque.is

pub returns-in-NodeList : goal.returns-in-NodeList
unfolding element
returns-in-NodeList c = rw c.in-NodeList.is c.first_node.ensures
