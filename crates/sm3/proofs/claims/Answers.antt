use Rattle.sm3.proofs.Promises.{step_done, block_taken, compress_same}
use Rattle.sm3.proofs.Example.{expanded, hashed}
use Rattle.sm3.proofs.claims.Goals as goal

pub returns : goal.returns
returns c = record {
  block_is_taken = step_done;
  block_at_is_taken = block_taken;
  by_sixteen_words = compress_same;
  example_expands = expanded;
  example_hashes = hashed;
}
