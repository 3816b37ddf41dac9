use mathlib.Core.Path.{ap, ◌∙◌}
use Rattle.octets.specs.Answer.{number}
use Rattle.mta.proofs.mta_root.Goals as goal

pub returns : goal.returns
returns c = (c.built.ensures ∙ ap number c.root.ensures.0, c.root.ensures.1)
