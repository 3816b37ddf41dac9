-- `auditor::journal::join` meets its contract: four pieces, one behind the other. Assumes nothing.
use Rattle.auditor.proofs.Journaling.{joined_on}
use Rattle.auditor.proofs.journal.join.Goals as goal

pub returns : goal.returns
returns c =
    let four = c in
    let three = four in
    let two = three in
    let one = two in
    let start = one in
    let a = start.args in
    let p = start.requires in
    joined_on a.size a.used a.root.now a.path.now p.0 a.journal.now _ _ _ _ p.3 one.put_number.ensures two.put.ensures
    three.put_number-2.ensures four.put-2.ensures
