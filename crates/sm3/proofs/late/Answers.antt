use mathlib.Core.Path.{ap₂, ◌∙◌}
use Prim.Native.Nat.{ℕ}
use Rattle.sm3.specs.Sm3.{turned}
use Rattle.sm3.specs.Inner.{late}
use Rattle.sm3.proofs.late.Goals as goal

pub returns : goal.returns
unfolding late
returns c =
    let a = c.args in
    c.turn.ensures ∙ ap₂ (λ (f g : ℕ). turned a.s f g a.k a.w a.v) c.maj.ensures c.ch.ensures
