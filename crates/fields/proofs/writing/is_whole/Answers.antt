use mathlib.Core.Path.{◌≡◌}
use mathlib.Core.Bool.{true}
use Prim.Native.Nat.{ℕ}
use Rattle.std.proofs.Common.{◌⊎◌, inl, inr}
use Rattle.fields.specs.declared.layout.Order.{Order}
use Rattle.fields.specs.declared.layout.Inner.{Inner}
use Rattle.fields.specs.declared.layout.Inner.TheVariants.{Opaque, ExtensionList}
use Rattle.fields.specs.Write.{wholes}
use Rattle.fields.proofs.writing.is_whole.Goals as goal

plain : (i : Inner) (n : ℕ) → (i ≡ Opaque) ⊎ ((o : Order) × (i ≡ ExtensionList o)) → true ≡ wholes i n
unfolding wholes
plain i n (inl e) = rw e
plain i n (inr (o, e)) = rw e

pub returns-in-Opaque : goal.returns-in-Opaque
returns-in-Opaque c = plain _ _ c.in-Opaque.is

pub returns-in-NodeList : goal.returns-in-NodeList
unfolding wholes
returns-in-NodeList c = rw c.in-NodeList.is
