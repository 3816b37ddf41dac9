use mathlib.Core.Path.{◌≡◌, ap, sym, ◌∙◌}
use mathlib.Core.Bool.{true, false}
use Prim.Native.Nat.{ℕ}
use Rattle.octets.proofs.Numbers.{be_length}
use Rattle.fields.specs.Layout.{allowed}
use Rattle.fields.specs.Write.{one_of_filled}
use Rattle.fields.specs.Effect.{takes}
use Rattle.fields.specs.Checked.{good, bad}
use Rattle.fields.proofs.writing.check_one_of.Goals as goal

module _ (w least most n : ℕ) where
  one : allowed least most n ≡ true → (k : ℕ) → k ≡ w → good k ≡ takes (one_of_filled w least most n 0)
  unfolding one_of_filled
  one h k e = rw h (ap good (e ∙ sym (be_length w n)))

  none : allowed least most n ≡ false → bad 4 0 ≡ takes (one_of_filled w least most n 0)
  unfolding one_of_filled
  none h = rw h

pub returns-then-not-is_allowed : goal.returns-then-not-is_allowed
returns-then-not-is_allowed c = none _ _ _ _ (sym c.is_allowed.ensures ∙ c.if-not-is_allowed.true)

pub returns : goal.returns
returns c = one _ _ _ _ (sym c.is_allowed.ensures ∙ c.if-not-is_allowed.false) _ c.width_of.ensures.0
