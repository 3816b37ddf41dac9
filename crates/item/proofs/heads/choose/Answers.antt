use mathlib.Core.Path.{◌≡◌, ap, ap₂, sym, ◌∙◌}
use mathlib.Core.Bool.{Bool, true, false}
use mathlib.Core.List.{List}
use Prim.Native.Nat.{ℕ, ◌+◌, ◌-◌, ◌≤◌, ◌<◌}
use native.Mathlib.Omega.{arith}
use lib.ListN.{take, drop}
use borrow.Author.Tests.{lt-ltb, le-ltb}
use Rattle.std.specs.Prelude.{Some}
use Rattle.octets.specs.Bytes.{same as same_bytes}
use Rattle.fields.specs.declared.layout.Part.{Part}
use Rattle.fields.specs.Layout.{bytes_at}
use Rattle.fields.specs.Inner.{part}
use Rattle.item.specs.declared.heads.Head.{Head}
use Rattle.item.specs.declared.heads.Choice.TheVariants.{First, Second, Neither}
use Rattle.item.specs.Item.{read_item}
use Rattle.item.specs.Newer.{head_of, which}
use Rattle.item.proofs.heads.choose.Goals as goal

part_bytes : (s : List ℕ) (p : Part) → part s p.start (p.start + p.len) ≡ bytes_at s p
part_bytes s p = let z : p.start + p.len - p.start ≡ p.len = omega arith in ap (λ (k : ℕ). take k (drop p.start s)) z

-- two heads of one log, compared by size and then by timestamp; r is what comparing the log ids said
module _ (a b : List ℕ) (x y : Head) (hx : head_of (read_item a) ≡ Some x) (hy : head_of (read_item b) ≡ Some y) (r : Bool) (told : r ≡ same_bytes (part a x.log.start (x.log.start + x.log.len)) (part b y.log.start (y.log.start + y.log.len))) where
  compared : r ≡ same_bytes (bytes_at a x.log) (bytes_at b y.log)
  compared = told ∙ ap₂ same_bytes (part_bytes a x.log) (part_bytes b y.log)

  other_log : r ≡ false → Neither ≡ which a b
  other_log e = rw (hx, hy, sym compared ∙ e)

  module _ (is : r ≡ true) where
    one : same_bytes (bytes_at a x.log) (bytes_at b y.log) ≡ true
    one = sym compared ∙ is

    larger : x.size < y.size → Second ≡ which a b
    larger h = rw (hx, hy, one, lt-ltb _ _ h)

    smaller : y.size < x.size → First ≡ which a b
    smaller h = let g : y.size ≤ x.size = omega arith in rw (hx, hy, one, le-ltb _ _ g, lt-ltb _ _ h)

    module _ (p : y.size ≤ x.size) (q : x.size ≤ y.size) where
      later : x.timestamp < y.timestamp → Second ≡ which a b
      later h = rw (hx, hy, one, le-ltb _ _ p, le-ltb _ _ q, lt-ltb _ _ h)

      not_later : y.timestamp ≤ x.timestamp → First ≡ which a b
      not_later h = rw (hx, hy, one, le-ltb _ _ p, le-ltb _ _ q, le-ltb _ _ h)

pub returns-then-not-one : goal.returns-then-not-one
returns-then-not-one c =
    other_log c.args.first.now c.args.second.now _ _ (sym c.in-Some.ensures.0) (sym c.in-Some-head_of.ensures.0) _ c.same-one.ensures c.if-not-one.true

pub returns-then-a-b : goal.returns-then-a-b
returns-then-a-b c = larger c.args.first.now c.args.second.now _ _ (sym c.in-Some.ensures.0) (sym c.in-Some-head_of.ensures.0) _ c.same-one.ensures c.if-not-one.false c.if-a-b.true

pub returns-then-b-a : goal.returns-then-b-a
returns-then-b-a c = smaller c.args.first.now c.args.second.now _ _ (sym c.in-Some.ensures.0) (sym c.in-Some-head_of.ensures.0) _ c.same-one.ensures c.if-not-one.false c.if-b-a.true

pub returns-then-a-b-2 : goal.returns-then-a-b-2
returns-then-a-b-2 c = later c.args.first.now c.args.second.now _ _ (sym c.in-Some.ensures.0) (sym c.in-Some-head_of.ensures.0) _ c.same-one.ensures c.if-not-one.false c.if-a-b.false c.if-b-a.false c.if-a-b-2.true

pub returns : goal.returns
returns c = not_later c.args.first.now c.args.second.now _ _ (sym c.in-Some.ensures.0) (sym c.in-Some-head_of.ensures.0) _ c.same-one.ensures c.if-not-one.false c.if-a-b.false c.if-b-a.false c.if-a-b-2.false
