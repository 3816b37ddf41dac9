use mathlib.Core.Path.{◌≡◌}
use lib.ListN.{length, take}
use Rattle.fields.specs.Write.{write, behind, filled_by}
use Rattle.fields.specs.Inner.{written}
use Rattle.fields.proofs.Putting.{Step}
use Rattle.fields.proofs.laying.put_all.Given as goal

abbrev pub invariant-loop-i : goal.invariant-loop-i
invariant-loop-i l =
    (length l.layout ≡ 8)
    × Step l.initial.out (written (write (filled_by (take l.n l.layout) l.numbers (behind l.values)) 0)) l.out (filled_by (take l.n l.layout) l.numbers (behind l.values)) 0 l.at l.i
