-- `tree::claims`. Assumes nothing.
use Rattle.tree.proofs.Rfc.{equations}
use Rattle.tree.proofs.Counting.{bounds, counts}
use Rattle.tree.proofs.Digits.{reached}
use Rattle.tree.proofs.Accepting.{accepts, equal}
use Rattle.tree.proofs.Building.{complete}
use Rattle.tree.proofs.Full.{full_subtrees}
use Rattle.tree.proofs.Enums.{building_faithful}
use Rattle.tree.proofs.claims.Goals as goal

pub returns : goal.returns
returns c = record {
  equations = equations;
  bounds = bounds;
  reached = reached;
  counts = counts;
  accepts = accepts;
  equal = equal;
  complete = complete;
  full_subtrees = full_subtrees;
  building_loses_nothing = building_faithful;
}
