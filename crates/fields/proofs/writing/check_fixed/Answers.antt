use mathlib.Core.Path.{◌≡◌}
use mathlib.Core.List.{List}
use Prim.Native.Nat.{ℕ}
use lib.ListN.{length}
use borrow.Author.Tests.{eq-eqb, ne_eqb}
use Rattle.fields.specs.Write.{fixed_filled}
use Rattle.fields.specs.Effect.{takes}
use Rattle.fields.specs.Checked.{good, bad}
use Rattle.fields.proofs.writing.check_fixed.Goals as goal

module _ (n : ℕ) (v : List ℕ) where
  other : (length v ≡ n → ⊥) → bad 5 0 ≡ takes (fixed_filled n v 0)
  unfolding fixed_filled
  other h = rw (ne_eqb _ _ h)

  right : length v ≡ n → good n ≡ takes (fixed_filled n v 0)
  unfolding fixed_filled
  right h = rw (eq-eqb _ _ h) (rw h)

pub returns-then-v-n : goal.returns-then-v-n
returns-then-v-n c = let a = c.args in other a.n a.v.now c.if-v-n.true

pub returns : goal.returns
returns c = let a = c.args in right a.n a.v.now c.if-v-n.false
