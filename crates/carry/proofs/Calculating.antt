-- The examples, calculated. Assumes nothing.
use mathlib.Core.Path.{refl}
use Rattle.tree.specs.Split.{doubled, split, size, shape_in, shape}
use Rattle.tree.specs.Tree.{node}
use Rattle.tree.specs.Count.{inclusion_count_of, inclusion_count, subproof_count_of, subproof_count, consistency_count}
use Rattle.tree.specs.Yield.{init, last, inclusion_root_of, inclusion_root, consistency_root_of, old_root, new_root}
use Rattle.octets.specs.Bytes.{same, over, joined}
use Rattle.tree.specs.Joined.{first_nodes, nodes}
use Rattle.tree.specs.Verdict.{judged, unless, no_place, no_sizes, inclusion_verdict, consistency_verdict}
use Rattle.carry.specs.Strings.{topmost}
use Rattle.carry.specs.Forward as forward
use Rattle.carry.specs.Compare as compare
use Rattle.carry.specs.Examples.{Collisions}

pub collisions : Collisions
unfolding doubled split size shape_in shape node inclusion_count_of inclusion_count subproof_count_of subproof_count consistency_count init last inclusion_root_of inclusion_root consistency_root_of old_root new_root first_nodes nodes joined same judged unless no_place no_sizes inclusion_verdict consistency_verdict over topmost forward.carry_report forward.path_carried forward.pair_carried forward.forwarded forward.conflict_of forward.conflict forward.forward_of forward.forward forward.carry compare.compare_report compare.pair_compared compare.found compare.differ_of compare.differ compare.compare
collisions = ((refl, refl, refl, refl), ((refl, refl, refl, refl), ((refl, refl, refl, refl), ((refl, refl, refl, refl), ((refl, refl, refl, refl), ((refl, refl, refl, refl), ((refl, refl, refl, refl), ((refl, refl, refl, refl), ((refl, refl, refl, refl), ((refl, refl, refl, refl), ((refl, refl, refl, refl), ((refl, refl, refl, refl), ((refl, refl, refl, refl), ((refl, refl, refl, refl), ((refl, refl, refl, refl), ((refl, refl, refl, refl), ((refl, refl, refl), ((refl, refl, refl), ((refl, refl, refl), ((refl, refl, refl), ((refl, refl, refl), ((refl, refl, refl), ((refl, refl, refl), ((refl, refl, refl), ((refl, refl, refl), tt)))))))))))))))))))))))))
