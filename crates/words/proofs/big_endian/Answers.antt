-- `words::big_endian` meets its contract. Assumes nothing.
use Rattle.std.proofs.Common.{◌≡◌, ℕ, ◌+◌, ◌*◌, [], ◌∷◌, arith}
use Rattle.octets.specs.Numbers.{unbe}
use Rattle.words.proofs.big_endian.Goals as goal

four : (a b c d : ℕ) → ((a * 256 + b) * 256 + c) * 256 + d ≡ unbe (a ∷ b ∷ c ∷ d ∷ [])
unfolding unbe
four a b c d = omega arith

pub returns : goal.returns
returns c = four _ _ _ _
