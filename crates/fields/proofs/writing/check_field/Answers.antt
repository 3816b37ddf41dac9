use mathlib.Core.Path.{◌≡◌, ap, sym, ◌∙◌}
use mathlib.Core.List.{List}
use Prim.Native.Nat.{ℕ}
use Rattle.octets.specs.declared.number.Width.{Width}
use Rattle.octets.specs.Numbers.{width_of}
use Rattle.octets.proofs.Numbers.{be_length}
use Rattle.fields.specs.declared.layout.Field.{Field}
use Rattle.fields.specs.declared.layout.Field.TheVariants.{Uint}
use Rattle.fields.specs.Write.{fill, held}
use Rattle.fields.specs.Effect.{takes}
use Rattle.fields.specs.Checked.{good}
use Rattle.fields.proofs.writing.check_field.Goals as goal

number : (w : Width) (m : ℕ) (f : Field) (n : ℕ) (v : List ℕ) → m ≡ width_of w → f ≡ Uint w → good m ≡ takes (fill f (held f n v) 0)
number w m f n v is e = rw e (ap good (is ∙ sym (be_length (width_of w) n)))

pub returns-in-Uint : goal.returns-in-Uint
returns-in-Uint c = number _ _ _ _ _ c.width_of.ensures.0 c.in-Uint.is

pub returns-in-Vector : goal.returns-in-Vector
returns-in-Vector c = rw c.in-Vector.is c.check_vector.ensures

pub returns-in-OneOf : goal.returns-in-OneOf
returns-in-OneOf c = rw c.in-OneOf.is c.check_one_of.ensures

pub returns-in-Fixed : goal.returns-in-Fixed
returns-in-Fixed c = rw c.in-Fixed.is c.check_fixed.ensures
