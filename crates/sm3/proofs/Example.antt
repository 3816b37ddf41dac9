-- The standard's example: the words of the block of `abc`, and its digest, computed by the definitions of specs/. Assumes nothing.
use mathlib.Core.Path.{◌≡◌, refl, ap, ap₂, sym}
use mathlib.Core.List.{List, ◌++◌}
use Prim.Native.Nat.{ℕ, zero, suc, ◌+◌, ◌<◌, ◌≤◌}
use native.Mathlib.Omega.{arith}
use lib.Bits.{bit_xor}
use lib.ListN.{get_or}
use Rattle.words.specs.declared.State.{State}
use Rattle.words.specs.Known.{course, listed}
use Rattle.words.proofs.Growing.{listed_value, listed_same, course_at}
use Rattle.sm3.specs.Sm3.{initial, constant, word_after, word, pair, schedule, turned, round, rounds, xor_state, compress}
use Rattle.sm3.specs.Example.{block, words, pairs}
use Rattle.sm3.specs.Claims.{ExampleExpands, ExampleHashes}

-- ---- from a list of W0 to W67

pair_from : List ℕ → ℕ → ℕ
pair_from ws j = bit_xor (get_or ws j 0) (get_or ws (j + 4) 0)

module _ (x : ℕ → ℕ) (ws : List ℕ) (e : course (word_after x) 68 ≡ ws) where
  word_from_lem : (j : ℕ) → j < 68 → word x j ≡ get_or ws j 0
  unfolding word
  word_from_lem j h = rw (← e) (sym (course_at (word_after x) 68 j h))

  pair_from_lem : (j : ℕ) → j < 64 → pair x j ≡ pair_from ws j
  unfolding pair pair_from
  pair_from_lem j h = ap₂ bit_xor (word_from_lem j (omega arith)) (word_from_lem (j + 4) (omega arith))

  schedule_from : schedule x ≡ ws ++ listed (pair_from ws) 64
  unfolding schedule word
  schedule_from = rw (listed_value (word_after x) 68, e, listed_same (pair x) (pair_from ws) 64 pair_from_lem)

  rounds_from : (s : State) (n : ℕ) → n ≤ 64 → rounds (word x) (pair x) s n ≡ rounds (λ j. get_or ws j 0) (pair_from ws) s n
  unfolding rounds
  rounds_from s zero h = refl
  rounds_from s (suc n) h = rw (rounds_from s n (omega arith), word_from_lem n (omega arith), pair_from_lem n (omega arith))

-- ---- of the example

by_words : course (word_after block) 68 ≡ words
unfolding block word_after course words
by_words = refl

by_pairs : listed (pair_from words) 64 ≡ pairs
unfolding course listed pair_from words pairs
by_pairs = refl

pub expanded : ExampleExpands
expanded = rw (schedule_from block words by_words, by_pairs)

by_rounds : compress initial block ≡ xor_state (rounds (λ j. get_or words j 0) (pair_from words) initial 64) initial
unfolding compress
by_rounds = ap (λ (s : State). xor_state s initial) (rounds_from block words by_words initial 64 (omega arith))

pub hashed : ExampleHashes
unfolding constant pair_from words turned round rounds xor_state
hashed = by_rounds
