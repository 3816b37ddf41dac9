use mathlib.Core.Path.{◌≡◌, sym}
use mathlib.Core.List.{List}
use Prim.Native.Nat.{ℕ, ◌*◌, ◌/◌}
use native.Mathlib.Omega.{arith}
use lib.ListN.{length}
use Rattle.std.proofs.Common.{◌⊎◌, inl, inr}
use Rattle.fields.specs.declared.layout.Order.{Order}
use Rattle.fields.specs.declared.layout.Inner.{Inner}
use Rattle.fields.specs.declared.layout.Inner.TheVariants.{Opaque, ExtensionList, NodeList}
use Rattle.fields.specs.Write.{wrap}
use Rattle.fields.proofs.Bodies.{prefixed_length}
use Rattle.fields.proofs.writing.wrapped_size.Goals as goal

module _ (i : Inner) (n : ℕ) (v : List ℕ) (l : length v ≡ n) where
  plain : (i ≡ Opaque) ⊎ ((o : Order) × (i ≡ ExtensionList o)) → n ≡ length (wrap i v)
  unfolding wrap
  plain (inl e) = rw e (sym l)
  plain (inr (o, e)) = rw e (sym l)

  nodes : i ≡ NodeList → n / 32 * 33 ≡ length (wrap i v)
  unfolding wrap
  nodes e = rw (e, l) (omega (arith, prefixed_length (n / 32) v (omega arith)))

pub returns-in-Opaque : goal.returns-in-Opaque
returns-in-Opaque c = ((λ v l. plain _ _ v l c.in-Opaque.is), omega arith)

pub returns-in-NodeList : goal.returns-in-NodeList
returns-in-NodeList c = ((λ v l. nodes _ _ v l c.in-NodeList.is), omega arith)
