use Rattle.sha256.proofs.Promises.{step_done, block_taken, compress_same}
use Rattle.sha256.proofs.Example.{hashed}
use Rattle.sha256.proofs.claims.Goals as goal

pub returns : goal.returns
returns c = record {
  block_is_taken = step_done;
  block_at_is_taken = block_taken;
  by_sixteen_words = compress_same;
  example_hashes = hashed;
}
