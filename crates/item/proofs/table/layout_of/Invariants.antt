use mathlib.Core.Path.{◌≡◌}
use mathlib.Core.List.{map}
use lib.ListN.{length, take}
use Rattle.item.specs.Table.{field_of}
use Rattle.item.proofs.table.layout_of.Given as goal

abbrev pub invariant-loop-i : goal.invariant-loop-i
invariant-loop-i l = (length l.layout ≡ 8) × (take l.i l.layout ≡ map field_of (take l.i l.name-items))
