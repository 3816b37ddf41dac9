use mathlib.Core.Path.{◌≡◌}
use mathlib.Core.List.{List}
use Prim.Native.Nat.{ℕ, ◌-◌, ◌≤◌, ◌<◌}
use native.Mathlib.Omega.{arith}
use lib.ListN.{length, drop, length-drop}
use borrow.Author.Tests.{lt-ltb, le-ltb}
use Rattle.fields.specs.Layout.{fixed_at}
use Rattle.fields.specs.Checked.{good, bad}
use Rattle.fields.proofs.layout.read_fixed.Goals as goal

module _ (s : List ℕ) (at n : ℕ) where
  short : length s - at < n → bad 2 at ≡ fixed_at n (drop at s) at
  unfolding fixed_at
  short h = rw (length-drop, lt-ltb _ _ h)

  whole : n ≤ length s - at → good (record { start = at; len = n; value = n }) ≡ fixed_at n (drop at s) at
  unfolding fixed_at
  whole h = rw (length-drop, le-ltb _ _ h)

pub returns-then-saturating_sub-n : goal.returns-then-saturating_sub-n
returns-then-saturating_sub-n c = let a = c.args in short a.s.now a.at a.n (omega arith)

pub returns : goal.returns
returns c = let a = c.args in whole a.s.now a.at a.n (omega arith)
