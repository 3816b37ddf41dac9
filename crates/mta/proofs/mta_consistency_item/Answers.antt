use Prim.Native.Nat.{ℕ}
use mathlib.Core.Path.{ap, ◌∙◌}
use Rattle.fields.specs.Checked.{Checked}
use Rattle.mta.specs.Entries.{number_of, length_after, consistency_written}
use Rattle.mta.proofs.mta_consistency_item.Goals as goal

pub returns-in-Ok : goal.returns-in-Ok
unfolding consistency_written
returns-in-Ok c =
    let e = rw c.sizes.ensures at c.in-Ok.ensures.0 in
    let w = rw c.sizes.ensures at c.write.ensures.1 in
    (ap number_of e, (w, ap (λ (t : Checked ℕ). length_after t c.args.written.now) e))

pub returns-in-Err : goal.returns-in-Err
unfolding consistency_written
returns-in-Err c =
    let e = rw c.sizes.ensures at c.in-Err.ensures.0 in
    let w = rw c.sizes.ensures at c.write.ensures.1 in
    (c.from.ensures ∙ ap number_of e, (w, ap (λ (t : Checked ℕ). length_after t c.args.written.now) e))
