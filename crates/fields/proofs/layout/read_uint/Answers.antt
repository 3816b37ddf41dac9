use mathlib.Core.Path.{◌≡◌}
use mathlib.Core.List.{List}
use Prim.Native.Nat.{ℕ, ◌-◌, ◌≤◌, ◌<◌}
use native.Mathlib.Omega.{arith}
use lib.ListN.{length, take, drop, length-drop}
use borrow.Author.Tests.{lt-ltb, le-ltb}
use Rattle.octets.specs.Numbers.{unbe}
use Rattle.fields.specs.Layout.{number_at}
use Rattle.fields.specs.Checked.{good, bad}
use Rattle.fields.proofs.layout.read_uint.Goals as goal

-- a number of w bytes, n being what is read there
module _ (s : List ℕ) (at w W : ℕ) (same : w ≡ W) where
  short : length s - at < w → bad 2 at ≡ number_at W (drop at s) at
  unfolding number_at
  short h = rw (← same, length-drop, lt-ltb _ _ h)

  whole : w ≤ length s - at → (n : ℕ) → n ≡ unbe (take W (drop at s)) → good (record { start = at; len = w; value = n }) ≡ number_at W (drop at s) at
  unfolding number_at
  whole h n e = rw (e, ← same, length-drop, le-ltb _ _ h)

pub returns-then-left-w : goal.returns-then-left-w
returns-then-left-w c =
    let a = c.args in
    short a.s.now a.at _ _ c.width_of-w.ensures.0 (omega arith)

pub returns : goal.returns
returns c =
    let a = c.args in
    whole a.s.now a.at _ _ c.width_of-w.ensures.0 (omega arith) _ c.number_at-value.ensures.0
