-- The longest item, in bytes (document 01, 'Limits'). Assumes nothing: this is a definition.
use Rattle.std.specs.Prelude.{ℕ}

abbrev pub most_item : ℕ
most_item = 33554432
