-- Big-endian numbers (RFC 9162, section 1.2; RFC 8446, section 3.3). Assumes nothing: these are definitions.
use Rattle.std.specs.Prelude.{List, [], ◌∷◌, ℕ, zero, suc, ◌+◌, ◌*◌, ◌/◌, ◌%◌, ◌^◌, length}
use Rattle.octets.specs.declared.number.Width.{Width}
use Rattle.octets.specs.declared.number.Width.TheVariants.{One, Two, Three, Four, Five, Six, Seven, Eight}

abbrev pub width_of : Width → ℕ
width_of One = 1
width_of Two = 2
width_of Three = 3
width_of Four = 4
width_of Five = 5
width_of Six = 6
width_of Seven = 7
width_of Eight = 8

-- the number of some bytes
unfoldable pub unbe : List ℕ → ℕ
unbe [] = 0
unbe (b ∷ bs) = b * 256 ^ length bs + unbe bs

-- the last w bytes of a number: all of it where it is below 256 ^ w
unfoldable pub be : ℕ → ℕ → List ℕ
be zero n = []
be (suc w) n = (n / 256 ^ w % 256) ∷ be w n
