-- The limits of carrying and comparing. Assumes nothing: these are definitions.
use Rattle.std.specs.Prelude.{ℕ}

-- the bytes of two strings of a collision, 65 each
abbrev pub pair_bytes : ℕ
pair_bytes = 130
