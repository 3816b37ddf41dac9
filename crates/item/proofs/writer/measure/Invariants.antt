use mathlib.Core.Path.{◌≡◌}
use Prim.Native.Nat.{◌+◌, ◌*◌, ◌≤◌}
use lib.ListN.{drop}
use Rattle.item.specs.declared.writer.Numbers.{Numbers}
use Rattle.fields.specs.Write.{write}
use Rattle.item.specs.Item.{lent, filled}
use Rattle.fields.specs.Inner.{ends}
use Rattle.item.proofs.writer.measure.Given as goal

abbrev pub invariant-loop-name : goal.invariant-loop-name
invariant-loop-name l =
    (l.at ≤ 2 + l.name-index * 4294967303)
    × ((x : Numbers) → ends 2 (write (filled x (lent l.vectors) l.names) 2) ≡ ends l.at (write (drop l.name-index (filled x (lent l.vectors) l.names)) l.at))
