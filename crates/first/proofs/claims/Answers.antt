-- `first::claims`: the theorems. Assumes nothing.
use Rattle.first.proofs.Wholes.{writer_keeps, refused_within, fields_within, long_first, name_next, room_last_lem, no_fifteen}
use Rattle.first.proofs.Every.{read_claimed, written_claimed}
use Rattle.first.proofs.Encoding.{read_is_encoded, written_is_encoded}
use Rattle.first.proofs.Saying.{read_says, by_hand, cut_there, over_there, five_read}
use Rattle.first.proofs.Refusals.{four_there, five_there}
use Rattle.first.proofs.claims.Goals as goal

pub returns : goal.returns
returns c =
    record {
      read_then_written = read_claimed;
      written_then_read = written_claimed;
      writer_keeps = writer_keeps;
      refused_within = refused_within;
      fields_within = fields_within;
      read_is_encoded = read_is_encoded;
      read_says = read_says;
      written_is_encoded = written_is_encoded;
      by_hand = by_hand;
      cut_there = cut_there;
      over_there = over_there;
      long_first = long_first;
      name_next = name_next;
      room_last = room_last_lem;
      four_there = four_there;
      five_there = five_there;
      five_read = five_read;
      no_fifteen = no_fifteen;
    }
