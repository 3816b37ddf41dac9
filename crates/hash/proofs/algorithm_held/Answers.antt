use mathlib.Core.Path.{◌∙◌}
use Rattle.hash.proofs.Algorithms.{held_itself, held_another}
use Rattle.hash.proofs.algorithm_held.Goals as goal

pub returns : goal.returns
returns c = c.algorithm_of.ensures ∙ held_itself _ _ c.if-number-held.false

pub returns-then-number-held : goal.returns-then-number-held
returns-then-number-held c = held_another _ _ c.if-number-held.true
