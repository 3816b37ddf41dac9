use Rattle.sm3.proofs.Expansion.{turned_by}
use Rattle.sm3.proofs.turn.Goals as goal

pub returns : goal.returns
returns c =
    let a = c.args in
    turned_by a.s a.f a.g a.k a.w a.v _ _ _ _
    c.ss1-x.ensures c.tt1.ensures c.tt2.ensures c.p0.ensures
