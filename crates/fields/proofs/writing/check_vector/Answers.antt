use mathlib.Core.Path.{◌≡◌, refl, sym, ◌∙◌}
use mathlib.Core.List.{List}
use Prim.Native.Nat.{ℕ, ◌+◌, ◌≤◌, ◌<◌}
use native.Mathlib.Omega.{arith}
use lib.ListN.{length, length-append}
use mathlib.Core.Bool.{true, false}
use borrow.Author.Tests.{lt-ltb, le-ltb}
use Rattle.std.proofs.Common.{◌⊎◌, inl, inr}
use Rattle.octets.specs.Numbers.{be}
use Rattle.octets.proofs.Numbers.{be_length}
use Rattle.fields.specs.declared.layout.Inner.{Inner}
use Rattle.fields.specs.Layout.{inside}
use Rattle.fields.specs.Write.{wrap, body_size, wholes, vector_bytes, vector_filled}
use Rattle.fields.specs.Effect.{takes}
use Rattle.fields.specs.Checked.{good, bad}
use Rattle.fields.proofs.Places.{inside_shift, inside_place}
use Rattle.fields.proofs.Bodies.{value}
use Rattle.fields.proofs.writing.check_vector.Goals as goal

-- the cases of a vector that is filled, m being the length that its body needs
module _ (v : List ℕ) (w W : ℕ) (same : w ≡ W) (least most : ℕ) (i : Inner) (m : ℕ) (is : m ≡ body_size i (length v)) where
  out : (m < least) ⊎ ((least ≤ m) × (most < m)) → bad 5 0 ≡ takes (vector_filled W least most i v 0)
  unfolding vector_filled
  out (inl h) = rw (← is, lt-ltb _ _ h)
  out (inr (l, h)) = rw (← is, le-ltb _ _ l, lt-ltb _ _ h)

  module _ (low : least ≤ m) where
    module _ (high : m ≤ most) where
      uneven : wholes i (length v) ≡ false → bad 10 0 ≡ takes (vector_filled W least most i v 0)
      unfolding vector_filled
      uneven e = rw (← is, le-ltb _ _ low, le-ltb _ _ high, e)

      module _ (round : wholes i (length v) ≡ true) where
        near : (x p : ℕ) → inside i (wrap i v) 0 ≡ bad x p → p ≤ m
        near x p e = let o = value i v round in omega (arith, (inside_place i (wrap i v) 0 x p e).1, o.size)

        wrong : (x p : ℕ) → inside i (wrap i v) 0 ≡ bad x p → bad x (w + p) ≡ takes (vector_filled W least most i v 0)
        unfolding vector_filled
        wrong x p e =
            let z : 0 + W + p ≡ w + p = omega arith in
            rw (← is, le-ltb _ _ low, le-ltb _ _ high, round, inside_shift i (wrap i v) (0 + W), e, z)

        right : inside i (wrap i v) 0 ≡ good tt → good (w + m) ≡ takes (vector_filled W least most i v 0)
        unfolding vector_filled
        right e =
            let o = value i v round in
            let l : length (vector_bytes W i v) ≡ w + m = length-append (be W (length (wrap i v))) (wrap i v) ∙ omega (arith, be_length W (length (wrap i v)), o.size) in
            rw (← is, le-ltb _ _ low, le-ltb _ _ high, round, inside_shift i (wrap i v) (0 + W), e, l)

pub returns-then-m-least : goal.returns-then-m-least
returns-then-m-least c =
    let a = c.args in
    out a.v.now _ _ refl a.least a.most a.inner _ c.body_size-m.ensures.0 c.then-m-least.either

pub returns-then-not-round : goal.returns-then-not-round
returns-then-not-round c =
    let a = c.args in
    uneven a.v.now _ _ refl a.least a.most a.inner _ c.body_size-m.ensures.0 (omega arith) (omega arith) (sym c.is_whole-round.ensures ∙ c.if-not-round.true)

pub overflow_add-result : goal.overflow_add-result
overflow_add-result c =
    let a = c.args in
    let h = near a.v.now _ _ c.width_of-w.ensures.0 a.least a.most a.inner _ c.body_size-m.ensures.0 (omega arith) (omega arith) (sym c.is_whole-round.ensures ∙ c.if-not-round.false) _ _ (sym c.in-Err.ensures) in
    omega (arith, h, c.body_size-m.ensures.1)

pub returns-in-Err : goal.returns-in-Err
returns-in-Err c =
    let a = c.args in
    wrong a.v.now _ _ c.width_of-w.ensures.0 a.least a.most a.inner _ c.body_size-m.ensures.0 (omega arith) (omega arith) (sym c.is_whole-round.ensures ∙ c.if-not-round.false) _ _ (sym c.in-Err.ensures)

pub returns-in-Ok : goal.returns-in-Ok
returns-in-Ok c =
    let a = c.args in
    right a.v.now _ _ c.width_of-w.ensures.0 a.least a.most a.inner _ c.body_size-m.ensures.0 (omega arith) (omega arith) (sym c.is_whole-round.ensures ∙ c.if-not-round.false) (sym c.in-Ok.ensures)
