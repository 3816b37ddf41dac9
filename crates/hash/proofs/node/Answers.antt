use mathlib.Core.Path.{◌∙◌, ap}
use Rattle.hash.specs.Message.{state_bytes}
use Rattle.hash.specs.Digest.{hash_of}
use Rattle.hash.proofs.node.Goals as goal

pub returns : goal.returns
unfolding hash_of
returns c = c.bytes_of.ensures ∙ ap state_bytes c.node_of.ensures
