use mathlib.Core.Path.{◌≡◌, ap, sym, ◌∙◌}
use mathlib.Core.List.{List}
use Prim.Native.Nat.{ℕ}
use lib.ListN.{length}
use Rattle.octets.specs.Bytes.{put_within}
use Rattle.octets.specs.Numbers.{be}
use Rattle.octets.proofs.Numbers.{be_length}
use Rattle.fields.specs.declared.layout.Field.{Field}
use Rattle.fields.specs.Write.{laid, held}
use Rattle.fields.proofs.writing.put_field.Goals as goal

module _ (f : Field) (w : ℕ) (out out₁ v : List ℕ) (at n r : ℕ) (e : laid f (held f n v) ≡ be w n) where
  number_size : r ≡ w → r ≡ length (laid f (held f n v))
  number_size is = rw e (is ∙ sym (be_length w n))

  number_bytes : out₁ ≡ put_within out at (be w n) → out₁ ≡ put_within out at (laid f (held f n v))
  number_bytes p = rw e p

pub returns-in-Uint : goal.returns-in-Uint
returns-in-Uint c =
    let a = c.args in
    let e = ap (λ (f : Field). laid f (held f a.n a.v.now)) c.in-Uint.is in
    record {
      value = number_size a.f _ a.out.now c.put_number.new.out a.v.now a.at a.n _ e c.width_of.ensures.0;
      out_after = number_bytes a.f _ a.out.now _ a.v.now a.at a.n c.width_of.result e c.put_number.ensures;
    }

pub returns-in-Vector : goal.returns-in-Vector
returns-in-Vector c = record {
  value = rw c.in-Vector.is c.put_vector.ensures.value;
  out_after = rw c.in-Vector.is c.put_vector.ensures.out_after;
}

pub returns-in-OneOf : goal.returns-in-OneOf
returns-in-OneOf c =
    let a = c.args in
    let e = ap (λ (f : Field). laid f (held f a.n a.v.now)) c.in-OneOf.is in
    record {
      value = number_size a.f _ a.out.now c.put_number-in-OneOf.new.out a.v.now a.at a.n _ e c.width_of-in-OneOf.ensures.0;
      out_after = number_bytes a.f _ a.out.now _ a.v.now a.at a.n c.width_of-in-OneOf.result e c.put_number-in-OneOf.ensures;
    }

pub returns-in-Fixed : goal.returns-in-Fixed
returns-in-Fixed c = record {
  value = rw c.in-Fixed.is;
  out_after = rw c.in-Fixed.is c.put.ensures;
}
