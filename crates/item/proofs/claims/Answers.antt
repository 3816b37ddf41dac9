use Rattle.item.proofs.Items.{read_then_written, read_gives, written_then_read, writer_keeps, refused_within, fields_within}
use Rattle.item.proofs.Naming.{names_its_field}
use Rattle.item.proofs.Newest.{empty_is_neither, refused_is_neither}
use Rattle.item.proofs.Trips.{path_is_said}
use Rattle.item.proofs.Every.{written_claimed, taken_claimed}
use Rattle.item.proofs.Ordering.{still_read, refused_by_order, fifteen_in_list, read_by_order, order_first, refused_as_read}
use Rattle.item.proofs.claims.Goals as goal

pub returns : goal.returns
returns c =
    record {
      read_then_written = read_then_written;
      read_gives = read_gives;
      written_then_read = written_then_read;
      writer_keeps = writer_keeps;
      refused_within = refused_within;
      fields_within = fields_within;
      names_its_field = names_its_field;
      empty_is_neither = empty_is_neither;
      path_is_said = path_is_said;
      taken_then_written = written_claimed;
      written_then_taken = taken_claimed;
      still_read = still_read;
      refused_by_order = refused_by_order;
      fifteen_in_list = fifteen_in_list;
      read_by_order = read_by_order;
      order_first = order_first;
      refused_as_read = refused_as_read;
      refused_is_neither = refused_is_neither;
    }
