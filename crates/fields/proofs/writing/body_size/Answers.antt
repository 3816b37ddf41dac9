use mathlib.Core.Path.{◌≡◌}
use Prim.Native.Nat.{ℕ}
use native.Mathlib.Omega.{arith}
use Rattle.std.proofs.Common.{◌⊎◌, inl, inr}
use Rattle.fields.specs.declared.layout.Order.{Order}
use Rattle.fields.specs.declared.layout.Inner.{Inner}
use Rattle.fields.specs.declared.layout.Inner.TheVariants.{Opaque, ExtensionList}
use Rattle.fields.specs.Write.{body_size}
use Rattle.fields.proofs.writing.body_size.Goals as goal

plain : (i : Inner) (n : ℕ) → (i ≡ Opaque) ⊎ ((o : Order) × (i ≡ ExtensionList o)) → n ≡ body_size i n
unfolding body_size
plain i n (inl e) = rw e
plain i n (inr (o, e)) = rw e

pub returns-in-Opaque : goal.returns-in-Opaque
returns-in-Opaque c = (plain _ _ c.in-Opaque.is, omega arith)

pub returns-in-NodeList : goal.returns-in-NodeList
unfolding body_size
returns-in-NodeList c = (rw c.in-NodeList.is (omega arith), omega arith)
