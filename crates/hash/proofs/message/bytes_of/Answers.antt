use mathlib.Core.Path.{◌∙◌}
use mathlib.Core.List.{append-nil}
use Rattle.hash.proofs.message.bytes_of.Goals as goal

pub returns : goal.returns
returns c = c.put_state.ensures ∙ append-nil _
