use mathlib.Core.Path.{ap}
use Prim.Native.Nat.{ℕ}
use lib.Bits.{bit_xor}
use Rattle.words.specs.Words.{rotl}
use Rattle.sm3.proofs.next.Goals as goal

pub returns : goal.returns
returns c = let a = c.args in ap (λ (p : ℕ). bit_xor (bit_xor p (rotl 7 a.w13)) a.w6) c.p1.ensures
