use mathlib.Core.Path.{◌≡◌, refl, ap, sym, ◌∙◌}
use mathlib.Core.List.{List, ◌++◌}
use Prim.Native.Nat.{ℕ, ◌+◌, ◌-◌, ◌≤◌, ◌<◌}
use native.Mathlib.Omega.{arith}
use lib.ListN.{length, length-append}
use Rattle.octets.specs.Bytes.{put, put_within}
use Rattle.octets.specs.Numbers.{be}
use Rattle.octets.proofs.Numbers.{be_length}
use Rattle.octets.proofs.Putting.{put_in, put_out, put_then}
use Rattle.fields.specs.declared.layout.Inner.{Inner}
use Rattle.fields.specs.Write.{wrap, vector_bytes}
use Rattle.fields.proofs.writing.put_vector.Goals as goal

-- m being the body's length, and w the prefix's
module _ (out v : List ℕ) (at w W m : ℕ) (i : Inner) (wide : w ≡ W) (is : m ≡ length (wrap i v)) where
  size : w + m ≡ length (vector_bytes W i v)
  size = omega (arith, length-append (be W (length (wrap i v))) (wrap i v), be_length W (length (wrap i v)))

  small : 1 ≤ w → length out - at < w + m → out ≡ put_within out at (vector_bytes W i v)
  small s h = sym (put_out out (vector_bytes W i v) at (omega (arith, size)))

  -- the prefix and the body, one after the other
  done : 1 ≤ w → w + m ≤ length out - at → (out₁ out₂ : List ℕ) → out₁ ≡ put_within out at (be W m) → out₂ ≡ put out₁ (at + w) (wrap i v) → out₂ ≡ put_within out at (vector_bytes W i v)
  done s h out₁ out₂ p q =
      let l = be_length W m in
      let g : at + length (be W m) ≤ length out = omega arith in
      let k : at + w ≡ at + length (be W m) = omega arith in
      q ∙ ap (λ (o : List ℕ). put o (at + w) (wrap i v)) (p ∙ put_in out (be W m) at g)
      ∙ ap (λ (j : ℕ). put (put out at (be W m)) j (wrap i v)) k
      ∙ put_then out (be W m) (wrap i v) at (omega arith)
      ∙ ap (λ (j : ℕ). put out at (be W j ++ wrap i v)) is
      ∙ sym (put_in out (vector_bytes W i v) at (omega (arith, size)))

  room : 1 ≤ w → w + m ≤ length out - at → (out₁ : List ℕ) → length out₁ ≡ length out → at + w + length (wrap i v) ≤ length out₁
  room s h out₁ l = omega (arith, l)

pub returns-then-left-w : goal.returns-then-left-w
returns-then-left-w c =
    let a = c.args in
    let e = c.wrapped_size-m.ensures.0 a.v.now refl in
    record {
      value = size a.out.now a.v.now a.at _ _ _ a.inner c.width_of-w.ensures.0 e;
      out_after = small a.out.now a.v.now a.at _ _ _ a.inner c.width_of-w.ensures.0 e c.width_of-w.ensures.1 (omega arith);
    }

pub put_body-requires : goal.put_body-requires
put_body-requires c =
    let a = c.args in
    let e = c.wrapped_size-m.ensures.0 a.v.now refl in
    room a.out.now a.v.now a.at _ _ _ a.inner c.width_of-w.ensures.0 e c.width_of-w.ensures.1 (omega arith) c.put_number.new.out c.put_number.auto.out

pub returns : goal.returns
returns c =
    let a = c.args in
    let e = c.wrapped_size-m.ensures.0 a.v.now refl in
    record {
      value = size a.out.now a.v.now a.at _ _ _ a.inner c.width_of-w.ensures.0 e;
      out_after = done a.out.now a.v.now a.at _ _ _ a.inner c.width_of-w.ensures.0 e c.width_of-w.ensures.1 (omega arith) _ _ c.put_number.ensures c.put_body.ensures;
    }
