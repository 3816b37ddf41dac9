-- What the private functions promise each other. A reader of the public promises needs none of it. Assumes nothing.
use Rattle.std.specs.Prelude.{Option, Some, None}
use Rattle.fields.specs.Checked.{Checked, good, bad}
use Rattle.first.specs.declared.table.Line.{Line}

-- what the search for a name says
abbrev pub known : Option Line → Checked Line
known (Some l) = good l
known None = bad 4 0
