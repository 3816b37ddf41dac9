-- `growing::no_leaves` meets its contract. Assumes nothing.
use mathlib.Core.Path.{ap}
use lib.ListN.{replicate}
use Rattle.hash.specs.declared.Digest.{Digest}
use Rattle.growing.specs.Limits.{most_hashes}
use Rattle.growing.proofs.Stepping.{grown}
use Rattle.growing.proofs.no_leaves.Goals as goal

pub returns : goal.returns
returns c = ap (λ (h : Digest). grown c.args.algorithm (replicate most_hashes h) 0) c.no_hash-nothing.ensures
