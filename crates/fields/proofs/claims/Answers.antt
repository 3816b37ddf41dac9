-- `fields::claims`: the theorems. Assumes nothing.
use Rattle.fields.proofs.Vectors.{fill_again, kept, vector_by_elements, one_of_judged, fixed_as_is, cut_first}
use Rattle.fields.proofs.Rounds.{write_again, read_back}
use Rattle.fields.proofs.Laid.{read_in_a_row, left_to_right}
use Rattle.fields.proofs.Cutting.{cut_there, over_there}
use Rattle.fields.proofs.Lent.{room_last_lem}
use Rattle.fields.proofs.Within.{parts_within, place_within, found_before}
use Rattle.fields.proofs.Hashing.{copied_is_joined, joined_is_copied, copy_keeps}
use Rattle.fields.proofs.Extending.{fine_is_extended, one_list, fifteen_is_out_of_order}
use Rattle.fields.proofs.Ordering.{still_read, refused_by_order}
use Rattle.fields.proofs.Sorting.{fifteen_in_list, read_by_order, order_first}
use Rattle.fields.proofs.Refusing.{refused_as_read, layout_refused_as_read}
use Rattle.fields.proofs.Faithful.{answers_lose_nothing}
use Rattle.fields.proofs.claims.Goals as goal

pub returns : goal.returns
returns c =
    record {
      read_then_filled = fill_again;
      filled_then_read = kept;
      vector_by_elements = vector_by_elements;
      one_of_judged = one_of_judged;
      fixed_as_is = fixed_as_is;
      cut_first = cut_first;
      layout_again = write_again;
      layout_back = read_back;
      read_in_a_row = read_in_a_row;
      left_to_right = left_to_right;
      cut_there = cut_there;
      over_there = over_there;
      room_last = room_last_lem;
      fields_within = parts_within;
      refused_within = place_within;
      found_before = found_before;
      copied_is_joined = copied_is_joined;
      joined_is_copied = joined_is_copied;
      copy_keeps = copy_keeps;
      fine_is_extended = fine_is_extended;
      one_list = one_list;
      fifteen_is_out_of_order = fifteen_is_out_of_order;
      still_read = still_read;
      refused_by_order = refused_by_order;
      fifteen_in_list = fifteen_in_list;
      read_by_order = read_by_order;
      order_first = order_first;
      refused_as_read = refused_as_read;
      layout_refused_as_read = layout_refused_as_read;
      answers_lose_nothing = answers_lose_nothing;
    }
