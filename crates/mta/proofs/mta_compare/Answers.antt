use mathlib.Core.Path.{sym, ap, ◌∙◌}
use Rattle.octets.specs.Answer.{Answer, number}
use Rattle.carry.specs.Compare.{Likeness, comparing}
use Rattle.mta.specs.Entries.{differed_after}
use Rattle.mta.proofs.mta_compare.Goals as goal

pub returns-in-Same : goal.returns-in-Same
returns-in-Same c =
    let b = c in
    let a = b.args in
    let r = b.compare.ensures in
    let e = ap comparing (sym c.in-Same.is) ∙ r.0 in
    (ap number e, (r.1, ap (λ (t : Answer Likeness). differed_after t a.collided.now) e))

pub returns-in-Collision : goal.returns-in-Collision
returns-in-Collision c =
    let b = c in
    let a = b.args in
    let r = b.compare.ensures in
    let e = ap comparing (sym c.in-Collision.is) ∙ r.0 in
    (ap number e, (r.1, ap (λ (t : Answer Likeness). differed_after t a.collided.now) e))

pub returns-in-Refused : goal.returns-in-Refused
returns-in-Refused c =
    let b = c in
    let a = b.args in
    let r = b.compare.ensures in
    let e = ap comparing (sym c.in-Refused.is) ∙ r.0 in
    (ap number e, (r.1, ap (λ (t : Answer Likeness). differed_after t a.collided.now) e))
