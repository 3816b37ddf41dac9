-- The examples of the dispute, and request 8's table, computed. Assumes nothing.
use mathlib.Core.Path.{refl}
use Rattle.tree.specs.Split.{doubled, split, size, shape_in, shape}
use Rattle.tree.specs.Tree.{node}
use Rattle.tree.specs.Count.{inclusion_count_of, inclusion_count, subproof_count_of, subproof_count, consistency_count}
use Rattle.tree.specs.Yield.{init, last, inclusion_root_of, inclusion_root, consistency_root_of, old_root, new_root}
use Rattle.octets.specs.Bytes.{same, over, joined}
use Rattle.tree.specs.Joined.{first_nodes, nodes}
use Rattle.tree.specs.Verdict.{judged, unless, no_place, no_sizes, inclusion_verdict, consistency_verdict}
use Rattle.octets.specs.Numbers.{be, unbe}
use Rattle.carry.specs.Strings.{topmost}
use Rattle.carry.specs.Forward as forward
use Rattle.carry.specs.Compare as compare
use Rattle.auditor.specs.Heads.{joined_heads, head_bytes, heads_in}
use Rattle.auditor.specs.Dispute.{pair_disputed, onward, settled, follow, dispute}
use Rattle.auditor.specs.Examples.{Disputed}
use Rattle.auditor.specs.Second.{other_root, is_evidence}
use Rattle.auditor.specs.Offer.{outside, first, stale, against, by_record, offer_number, kept}
use Rattle.auditor.specs.Calls.{paper_number, paper_after, run}
use Rattle.auditor.specs.Claims.{last_head}
use Rattle.auditor.specs.Evidence.{refused_heads, last_or}
use Rattle.auditor.specs.Rows.{RowsHold}

pub disputed : Disputed
unfolding doubled split size shape_in shape node inclusion_count_of inclusion_count subproof_count_of subproof_count consistency_count init last inclusion_root_of inclusion_root consistency_root_of old_root new_root first_nodes nodes joined same judged unless no_place no_sizes inclusion_verdict consistency_verdict over be unbe topmost forward.forwarded forward.conflict_of forward.conflict forward.forward_of forward.forward forward.carry compare.found compare.differ_of compare.differ compare.compare joined_heads head_bytes heads_in pair_disputed onward settled follow dispute
disputed = ((refl, refl), ((refl, refl), ((refl, refl), ((refl, refl), ((refl, refl), ((refl, refl), ((refl, refl), ((refl, refl), ((refl, refl), ((refl, refl), ((refl, refl), ((refl, refl), tt))))))))))))

pub rows_hold : RowsHold
unfolding doubled split size shape_in shape node subproof_count_of subproof_count consistency_count init last consistency_root_of old_root new_root first_nodes nodes joined same judged no_sizes consistency_verdict other_root is_evidence outside first stale against by_record offer_number kept paper_number paper_after run last_head refused_heads last_or
rows_hold = (((refl, refl), ((refl, refl), ((refl, refl), ((refl, refl), ((refl, refl), ((refl, refl), ((refl, refl), ((refl, refl), ((refl, refl), ((refl, refl), tt)))))))))), (refl, refl))
