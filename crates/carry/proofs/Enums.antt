-- What the cases of the two answers report loses nothing. Assumes nothing.
use mathlib.Core.Path.{◌≡◌, refl, ap}
use Prim.Native.Nat.{ℕ}
use native.Mathlib.Omega.{arith}
use Rattle.octets.specs.Answer.{Faithful}
use Rattle.carry.specs.declared.forward.Carried.TheVariants as carried
use Rattle.carry.specs.declared.compare.Compared.TheVariants as compared
use Rattle.carry.specs.Forward.{carrying}
use Rattle.carry.specs.Compare.{comparing}

no : ◌≡◌ {A = ℕ} 0 1 → ⊥
no e = omega arith

pub carrying_faithful : Faithful carrying
carrying_faithful (carried.Path n) (carried.Path m) e = let f : n ≡ m = cc in ap carried.Path f
carrying_faithful (carried.Path n) carried.Collision e = absurd (no (cc))
carrying_faithful (carried.Path n) (carried.Refused y) e = absurd (no (cc))
carrying_faithful carried.Collision (carried.Path m) e = absurd (no (cc))
carrying_faithful carried.Collision carried.Collision e = refl
carrying_faithful carried.Collision (carried.Refused y) e = absurd (no (cc))
carrying_faithful (carried.Refused x) (carried.Path m) e = absurd (no (cc))
carrying_faithful (carried.Refused x) carried.Collision e = absurd (no (cc))
carrying_faithful (carried.Refused x) (carried.Refused y) e = let f : x ≡ y = cc in ap carried.Refused f

pub comparing_faithful : Faithful comparing
comparing_faithful compared.Same compared.Same e = refl
comparing_faithful compared.Same compared.Collision e = absurd (no (cc))
comparing_faithful compared.Same (compared.Refused y) e = absurd (no (cc))
comparing_faithful compared.Collision compared.Same e = absurd (no (cc))
comparing_faithful compared.Collision compared.Collision e = refl
comparing_faithful compared.Collision (compared.Refused y) e = absurd (no (cc))
comparing_faithful (compared.Refused x) compared.Same e = absurd (no (cc))
comparing_faithful (compared.Refused x) compared.Collision e = absurd (no (cc))
comparing_faithful (compared.Refused x) (compared.Refused y) e = let f : x ≡ y = cc in ap compared.Refused f
