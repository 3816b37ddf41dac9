use mathlib.Core.List.{List}
use Prim.Native.Nat.{ℕ}
use Rattle.hash.proofs.Promises.{hash_length, hash_bytes, numbers, held, answered}
use Rattle.hash.proofs.claims.Goals as goal

pub returns : goal.returns
returns c = record {
  has_32 = hash_length;
  are_bytes = hash_bytes;
  one_number_each = numbers;
  held_alone = held;
  answered = (answered ℕ, answered (List ℕ));
}
