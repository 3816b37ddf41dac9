-- What the layers above may use of the block step beside its contract. Assumes nothing.
use mathlib.Core.Path.{◌≡◌, refl, ap}
use mathlib.Core.List.{List}
use Prim.Native.Nat.{ℕ, zero, suc, ◌<◌}
use Rattle.words.specs.declared.State.{State}
use Rattle.words.specs.Claims.{BlockIsTaken, BlockAtIsTaken}
use Rattle.words.proofs.Growing.{first_same, value_same}
use Rattle.words.proofs.Promises.{block_taken as block-taken-by, step_done as step-done-by}
use Rattle.sha256.specs.Sha256.{word_after, schedule, word, rounds, add_state, compress}

-- ---- a block and a schedule that fit are taken

pub block_taken : BlockAtIsTaken 64 compress schedule
block_taken = block-taken-by 64 compress schedule

pub step_done : BlockIsTaken 64 compress schedule
step_done = step-done-by 64 compress schedule

-- ---- the block step goes by a block's sixteen words alone

module _ (x y : ℕ → ℕ) (e : (t : ℕ) → t < 16 → x t ≡ y t) where
  after_same : (ws : List ℕ) (t : ℕ) → word_after x ws t ≡ word_after y ws t
  unfolding word_after
  after_same ws t = first_same x y e t _

  word_same : (t : ℕ) → word x t ≡ word y t
  unfolding word
  word_same t = value_same (word_after x) (word_after y) after_same t

  rounds_same : (s : State) (n : ℕ) → rounds (word x) s n ≡ rounds (word y) s n
  unfolding rounds
  rounds_same s zero = refl
  rounds_same s (suc n) = rw (rounds_same s n, word_same n)

  pub compress_same : (s : State) → compress s x ≡ compress s y
  unfolding compress
  compress_same s = ap (λ (r : State). add_state r s) (rounds_same s 64)
