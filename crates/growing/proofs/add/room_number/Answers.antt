-- `growing::add::room_number` meets its contract. Assumes nothing.
use mathlib.Core.Path.{sym}
use native.Mathlib.Omega.{arith}
use Rattle.growing.proofs.Adding.{room_past, room_left}
use Rattle.growing.proofs.add.room_number.Goals as goal

pub returns-then-count-n : goal.returns-then-count-n
returns-then-count-n c = sym (room_past _ _ (omega arith))

pub returns : goal.returns
returns c = sym (room_left _ _ (omega arith))
