-- `octets::writing::reaches` meets its contract. Assumes nothing.
use mathlib.Core.Path.{sym, ◌∙◌}
use mathlib.Core.Logic.{⊎_elim}
use Prim.Native.Nat.{◌+◌, ◌-◌}
use native.Mathlib.Omega.{arith}
use borrow.Author.Tests.{le-leb, lt-leb}
use Rattle.octets.proofs.Order.{lt_or_ge}
use Rattle.octets.proofs.writing.reaches.Goals as goal

pub returns-then-size-from : goal.returns-then-size-from
returns-then-size-from c = let a = c.args in sym (lt-leb (a.from + a.len) a.size (omega arith))

pub returns : goal.returns
returns c =
    let a = c.args in
    ⊎_elim (λ h. lt-leb a.len (a.size - a.from) h ∙ sym (lt-leb (a.from + a.len) a.size (omega arith)))
    (λ h. le-leb a.len (a.size - a.from) h ∙ sym (le-leb (a.from + a.len) a.size (omega arith)))
    (lt_or_ge (a.size - a.from) a.len)
