-- `auditor::journal::append` meets its contract: each return by the tests that led to it. Assumes nothing.
use mathlib.Core.Path.{sym, ap}
use Prim.Native.Nat.{ℕ, ◌+◌}
use native.Mathlib.Omega.{arith}
use lib.ListN.{length}
use Rattle.octets.specs.Answer.{done}
use Rattle.auditor.specs.Journal.{append_report, journal_after}
use Rattle.auditor.proofs.Journaling.{head_length, root_short, path_long, path_part_lem, full, fits, reports_refused}
use Rattle.auditor.proofs.journal.append.Goals as goal

pub returns-then-root-ne32 : goal.returns-then-root-ne32
returns-then-root-ne32 c =
    let a = c.args in
    reports_refused a.used _ _ a.journal.now (root_short (length a.journal.now) a.used a.size a.root.now a.path.now c.if-root-ne32.true)

pub returns-then-path : goal.returns-then-path
returns-then-path c =
    let a = c.args in
    reports_refused a.used _ _ a.journal.now (path_long (length a.journal.now) a.used a.size a.root.now a.path.now c.if-root-ne32.false c.if-path.true)

pub returns-then-path-ne0 : goal.returns-then-path-ne0
returns-then-path-ne0 c =
    let a = c.args in
    reports_refused a.used _ _ a.journal.now (path_part_lem (length a.journal.now) a.used a.size a.root.now a.path.now c.if-root-ne32.false c.if-path.false c.if-path-ne0.true)

pub returns-then-journal-used : goal.returns-then-journal-used
returns-then-journal-used c =
    let a = c.args in
    reports_refused a.used _ _ a.journal.now (full (length a.journal.now) a.used a.size a.root.now a.path.now c.if-root-ne32.false c.if-path.false c.if-path-ne0.false (omega (arith, c.if-journal-used.true)))

pub returns-then-journal-used-2 : goal.returns-then-journal-used-2
returns-then-journal-used-2 c =
    let a = c.args in
    reports_refused a.used _ _ a.journal.now (full (length a.journal.now) a.used a.size a.root.now a.path.now c.if-root-ne32.false c.if-path.false c.if-path-ne0.false (omega (arith, c.if-journal-used-2.true, c.if-journal-used.false)))

pub returns : goal.returns
unfolding append_report journal_after
returns c =
    let d = c in
    let root_32 = d.if-root-ne32.false in
    let a = d.args in
    let k = head_length a.size a.root.now a.path.now root_32 in
    rw (fits (length a.journal.now) a.used a.size a.root.now a.path.now root_32 d.if-path.false d.if-path-ne0.false (omega (arith, d.if-journal-used-2.false, d.if-journal-used.false)))
    (ap (λ (n : ℕ). done (a.used + n)) (sym k), c.join.ensures)
