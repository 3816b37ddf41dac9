use mathlib.Core.Path.{◌≡◌, ◌∙◌}
use mathlib.Core.List.{List}
use Prim.Native.Nat.{ℕ, ◌+◌, ◌*◌, ◌/◌, ◌≤◌}
use native.Mathlib.Omega.{arith}
use lib.ListN.{length}
use Rattle.octets.specs.Bytes.{put, put_within}
use Rattle.octets.proofs.Putting.{put_in}
use Rattle.std.proofs.Common.{◌⊎◌, inl, inr}
use Rattle.fields.specs.declared.layout.Order.{Order}
use Rattle.fields.specs.declared.layout.Inner.{Inner}
use Rattle.fields.specs.declared.layout.Inner.TheVariants.{Opaque, ExtensionList, NodeList}
use Rattle.fields.specs.Write.{prefixed, wrap}
use Rattle.fields.proofs.Bodies.{prefixed_length}
use Rattle.fields.proofs.writing.put_body.Goals as goal

module _ (i : Inner) (out out₁ v : List ℕ) (at : ℕ) (h : at + length (wrap i v) ≤ length out) where
  plain : (i ≡ Opaque) ⊎ ((o : Order) × (i ≡ ExtensionList o)) → out₁ ≡ put_within out at v → out₁ ≡ put out at (wrap i v)
  unfolding wrap
  plain (inl e) p = let g = rw e at h in rw e (p ∙ put_in out v at g)
  plain (inr (o, e)) p = let g = rw e at h in rw e (p ∙ put_in out v at g)

  nodes : i ≡ NodeList → out₁ ≡ put out at (prefixed (length v / 32) v) → out₁ ≡ put out at (wrap i v)
  unfolding wrap
  nodes e p = rw e p

  room : i ≡ NodeList → at + length v / 32 * 33 ≤ length out
  unfolding wrap
  room e = let g = rw e at h in omega (arith, g, prefixed_length (length v / 32) v (omega arith))

pub put_nodes-requires : goal.put_nodes-requires
put_nodes-requires c =
    let s = c in
    room _ s.args.out.now s.args.out.now s.args.v.now s.args.at s.requires c.in-NodeList.is

pub returns-in-Opaque : goal.returns-in-Opaque
returns-in-Opaque c =
    let s = c in
    plain _ s.args.out.now _ s.args.v.now s.args.at s.requires c.in-Opaque.is c.put.ensures

pub returns-in-NodeList : goal.returns-in-NodeList
returns-in-NodeList c =
    let s = c in
    nodes _ s.args.out.now _ s.args.v.now s.args.at s.requires c.in-NodeList.is c.put_nodes.ensures
