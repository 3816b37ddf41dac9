use mathlib.Core.Path.{◌≡◌, sym, ◌∙◌}
use mathlib.Core.List.{List}
use Prim.Native.Nat.{ℕ, ◌-◌, ◌/◌, ◌%◌, ◌≤◌}
use native.Mathlib.Omega.{arith}
use lib.ListN.{length}
use mathlib.Core.Bool.{true}
use lib.Seq.{take_all}
use borrow.Author.Tests.{eqb-true}
use Rattle.std.proofs.Common.{◌⊎◌, inl, inr}
use Rattle.fields.specs.declared.layout.Order.{Order}
use Rattle.fields.specs.declared.layout.Inner.{Inner}
use Rattle.fields.specs.declared.layout.Inner.TheVariants.{Opaque, ExtensionList, NodeList}
use Rattle.fields.specs.Layout.{inside}
use Rattle.fields.specs.Write.{wrap, wholes}
use Rattle.fields.specs.Inner.{part}
use Rattle.fields.specs.Checked.{good}
use Rattle.fields.proofs.Places.{plain_fine, nodes_fine}
use Rattle.fields.proofs.writing.value_inside.Goals as goal

fine : (i : Inner) (v : List ℕ) → (i ≡ Opaque) ⊎ (i ≡ NodeList) → wholes i (length v) ≡ true → good tt ≡ inside i (wrap i v) 0
unfolding wrap wholes
fine i v (inl e) h = rw e (sym (plain_fine v 0))
fine i v (inr e) h =
    let g : length v % 32 ≡ 0 = eqb-true _ _ (rw e at h) in
    rw e (sym (nodes_fine (length v / 32) v 0 (omega arith)))

exts : (i : Inner) (v : List ℕ) (o : Order) → i ≡ ExtensionList o → inside i (part v 0 (length v)) 0 ≡ inside i (wrap i v) 0
unfolding wrap
exts i v o e =
    let z : length v ≤ length v - 0 = omega arith in
    rw (e, take_all (length v - 0) v z)

pub returns-in-ExtensionList : goal.returns-in-ExtensionList
returns-in-ExtensionList c = c.check_inside.ensures ∙ exts _ _ _ c.in-ExtensionList.is

pub returns-in-Opaque : goal.returns-in-Opaque
returns-in-Opaque c = fine _ _ c.in-Opaque.is c.requires
