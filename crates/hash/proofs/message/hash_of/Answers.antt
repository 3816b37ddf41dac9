use mathlib.Core.Path.{refl}
use Rattle.hash.specs.Algorithm.{words_of}
use Rattle.hash.proofs.message.hash_of.Goals as goal

pub message-requires : goal.message-requires
unfolding words_of
message-requires c = let p = c.requires in (p.0, p.1, rw c.in-Sha256.is refl)

pub message-requires-in-Sm3 : goal.message-requires-in-Sm3
unfolding words_of
message-requires-in-Sm3 c = let p = c.requires in (p.0, p.1, rw c.in-Sm3.is refl)
