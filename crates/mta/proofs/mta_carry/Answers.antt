use mathlib.Core.Path.{sym, ap, ◌∙◌}
use Rattle.octets.specs.Answer.{Answer, number}
use Rattle.carry.specs.Forward.{Moved, carrying}
use Rattle.mta.specs.Entries.{written_after, collided_after}
use Rattle.mta.proofs.mta_carry.Goals as goal

-- from the carrying back to the entry
pub returns-in-Path : goal.returns-in-Path
returns-in-Path c =
    let b = c in
    let a = b.args in
    let r = b.carry.ensures in
    let e = ap carrying (sym c.in-Path.is) ∙ r.0 in
    (ap number e, (r.1.0, (r.1.1, (ap (λ (t : Answer Moved). written_after t a.written.now) e, ap (λ (t : Answer Moved). collided_after t a.collided.now) e))))

pub returns-in-Collision : goal.returns-in-Collision
returns-in-Collision c =
    let b = c in
    let a = b.args in
    let r = b.carry.ensures in
    let e = ap carrying (sym c.in-Collision.is) ∙ r.0 in
    (ap number e, (r.1.0, (r.1.1, (ap (λ (t : Answer Moved). written_after t a.written.now) e, ap (λ (t : Answer Moved). collided_after t a.collided.now) e))))

pub returns-in-Refused : goal.returns-in-Refused
returns-in-Refused c =
    let b = c in
    let a = b.args in
    let r = b.carry.ensures in
    let e = ap carrying (sym c.in-Refused.is) ∙ r.0 in
    (ap number e, (r.1.0, (r.1.1, (ap (λ (t : Answer Moved). written_after t a.written.now) e, ap (λ (t : Answer Moved). collided_after t a.collided.now) e))))
