-- What the cases of a builder's answer report loses nothing. Assumes nothing.
use mathlib.Core.Path.{◌≡◌, ap}
use Prim.Native.Nat.{ℕ}
use native.Mathlib.Omega.{arith}
use Rattle.octets.specs.Answer.{Faithful}
use Rattle.tree.specs.declared.build.Built.TheVariants.{Wrote, Refused}
use Rattle.tree.specs.Build.{building}

pub building_faithful : Faithful building
building_faithful (Wrote n) (Wrote m) e = let f : n ≡ m = cc in ap Wrote f
building_faithful (Wrote n) (Refused y) e = absurd (let z : ◌≡◌ {A = ℕ} 0 1 = cc in omega arith)
building_faithful (Refused x) (Wrote m) e = absurd (let z : ◌≡◌ {A = ℕ} 0 1 = cc in omega arith)
building_faithful (Refused x) (Refused y) e = let f : x ≡ y = cc in ap Refused f
