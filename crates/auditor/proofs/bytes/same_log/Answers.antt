-- `auditor::bytes::same_log` meets its contract: a length above 127 takes all of the id. Assumes nothing.
use mathlib.Core.Path.{◌≡◌, sym}
use native.Mathlib.Omega.{arith}
use lib.ListN.{length}
use lib.Seq.{length-take-le, take_all}
use borrow.Author.Rules.{rules}
use Rattle.auditor.proofs.bytes.same_log.Goals.{After-same, Else-n-gt127}
use Rattle.auditor.proofs.bytes.same_log.Goals as goal

whole : (c : After-same) → length c.args.r.id ≡ 127
whole c = search rules

pub returns-then-n-gt127 : goal.returns-then-n-gt127
returns-then-n-gt127 c =
    let r = c.args.r in
    rw (take_all r.idlen r.id (omega (arith, whole (goal.at.returns-then-n-gt127 c).After-same))) c.same.ensures

part : (c : Else-n-gt127) → length c.args.r.id ≡ 127
part c = search rules

pub slice_bounds-own-end : goal.slice_bounds-own-end
slice_bounds-own-end c = omega (arith, part (goal.at.slice_bounds-own-end c).Else-n-gt127)

pub slice_bounds-same-end-2 : goal.slice_bounds-same-end-2
slice_bounds-same-end-2 c = sym (length-take-le _ c.args.r.id (omega (arith, part (goal.at.slice_bounds-same-end-2 c).Else-n-gt127)))
