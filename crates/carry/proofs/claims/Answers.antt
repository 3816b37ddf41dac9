-- `carry::claims`: what carrying and comparing keep. Assumes nothing.
use Rattle.carry.proofs.Calculating.{collisions}
use Rattle.carry.proofs.Carrying.{carrying}
use Rattle.carry.proofs.Comparing.{comparing}
use Rattle.carry.proofs.Enums.{carrying_faithful, comparing_faithful}
use Rattle.carry.proofs.Honest.{honest}
use Rattle.carry.proofs.Levelling.{levelled}
use Rattle.carry.proofs.Table.{starred}
use Rattle.carry.proofs.claims.Goals as goal

pub returns : goal.returns
returns c = record {
  carries = carrying;
  honest_list = honest;
  compares = comparing;
  topmost = levelled;
  starred = starred;
  collisions = collisions;
  carrying_loses_nothing = carrying_faithful;
  comparing_loses_nothing = comparing_faithful;
}
