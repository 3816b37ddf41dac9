-- What `octets::claims` promises. Assumes nothing.
use Rattle.octets.proofs.Sameness.{same_true, same_of}
use Rattle.octets.proofs.Joining.{joined_is}
use Rattle.octets.proofs.Putting.{put_keeps}
use Rattle.octets.proofs.Numbers.{unbe_be, unbe_below, be_unbe, be_bytes, be_length}
use Rattle.octets.proofs.Refusals.{refusals_tell_apart}
use Rattle.octets.proofs.claims.Goals as goal

pub returns : goal.returns
returns c = record {
  same_is_equal = λ s t. (same_true s t, same_of s t);
  joined_is = joined_is;
  put_keeps = put_keeps;
  number_reads_back = unbe_be;
  bytes_write_back = λ s b. (unbe_below b, be_unbe b);
  numbers_are_bytes = λ w n. (be_bytes w n, be_length w n);
  refusals_tell_apart = refusals_tell_apart;
}
