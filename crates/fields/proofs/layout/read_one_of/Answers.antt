use mathlib.Core.Path.{◌≡◌, sym, ◌∙◌}
use mathlib.Core.List.{List}
use mathlib.Core.Bool.{Bool, true, false, cond}
use Prim.Native.Nat.{ℕ}
use Rattle.fields.specs.declared.layout.Part.{Part}
use Rattle.fields.specs.Layout.{number_at, allowed, one_of_at}
use Rattle.fields.specs.Checked.{good, bad}
use Rattle.fields.proofs.layout.read_one_of.Goals as goal

module _ (w least most : ℕ) (r : List ℕ) (at : ℕ) where
  cut : (x y : ℕ) → number_at w r at ≡ bad x y → bad x y ≡ one_of_at w least most r at
  unfolding one_of_at
  cut x y e = rw e

  judged : (p : Part) (b : Bool) → number_at w r at ≡ good p → b ≡ allowed least most p.value → cond b (good p) (bad 4 p.start) ≡ one_of_at w least most r at
  unfolding one_of_at
  judged p b e h = rw (e, h)

pub returns-in-Err : goal.returns-in-Err
returns-in-Err c = cut _ _ _ _ _ _ _ (sym c.in-Err.ensures)

pub returns-then-not-is_allowed : goal.returns-then-not-is_allowed
returns-then-not-is_allowed c = judged _ _ _ _ _ _ false (sym c.in-Ok.ensures) (sym c.if-not-is_allowed.true ∙ c.is_allowed.ensures)

pub returns : goal.returns
returns c = judged _ _ _ _ _ _ true (sym c.in-Ok.ensures) (sym c.if-not-is_allowed.false ∙ c.is_allowed.ensures)
