-- `auditor::heads::head_bytes` meets its contract. Assumes nothing.
use mathlib.Core.Path.{sym, ap, ◌∙◌}
use Prim.Native.Nat.{ℕ, ◌+◌, ◌*◌}
use native.Mathlib.Omega.{arith}
use Rattle.auditor.proofs.Reading.{bytes_truncated, bytes_whole}
use Rattle.auditor.proofs.heads.head_bytes.Goals as goal

pub returns-then-s-lt42 : goal.returns-then-s-lt42
returns-then-s-lt42 c = sym (bytes_truncated c.args.s.now (omega arith))

pub returns-then-s-nodes : goal.returns-then-s-nodes
returns-then-s-nodes c = sym (bytes_truncated c.args.s.now (omega (arith, c.count_of.ensures.0, c.if-s-nodes.true, c.if-s-lt42.false)))

pub returns : goal.returns
returns c =
    let s = c.args.s.now in
    ap (λ (n : ℕ). 42 + 32 * n) c.count_of.ensures.0 ∙ sym (bytes_whole s (omega (arith, c.count_of.ensures.0, c.if-s-nodes.false, c.if-s-lt42.false)))
