use Rattle.fields.specs.Write.{write}
use Rattle.item.specs.Item.{lent, filled}
use Rattle.fields.specs.Inner.{written}
use Rattle.fields.proofs.Putting.{Step}
use Rattle.item.proofs.writer.put_all.Given as goal

abbrev pub invariant-loop-name : goal.invariant-loop-name
invariant-loop-name l =
    Step l.initial.out (written (write (filled l.numbers (lent l.vectors) l.names) 2)) l.out (filled l.numbers (lent l.vectors) l.names) 2 l.at l.name-index
