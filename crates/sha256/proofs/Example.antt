-- The published example, computed by the definitions of specs/. Assumes nothing.
use mathlib.Core.Path.{◌≡◌, refl, ap, sym}
use mathlib.Core.List.{List, [], ◌∷◌}
use Prim.Native.Nat.{ℕ, zero, suc, ◌<◌, ◌≤◌}
use native.Mathlib.Omega.{arith}
use lib.ListN.{get_or}
use Rattle.words.specs.declared.State.{State}
use Rattle.words.specs.Known.{course}
use Rattle.words.proofs.Growing.{course_at}
use Rattle.sha256.specs.Sha256.{initial, constants, word_after, word, round, rounds, add_state, compress}
use Rattle.sha256.specs.Claims.{example_block, ExampleHashes}

-- ---- from a list of W0 to W63
module _ (x : ℕ → ℕ) (ws : List ℕ) (e : course (word_after x) 64 ≡ ws) where
  word_from_lem : (t : ℕ) → t < 64 → word x t ≡ get_or ws t 0
  unfolding word
  word_from_lem t h = rw (← e) (sym (course_at (word_after x) 64 t h))

  rounds_from : (s : State) (n : ℕ) → n ≤ 64 → rounds (word x) s n ≡ rounds (λ t. get_or ws t 0) s n
  unfolding rounds
  rounds_from s zero h = refl
  rounds_from s (suc n) h = rw (rounds_from s n (omega arith), word_from_lem n (omega arith))

-- ---- of the example

words : List ℕ
words =
    0x61626380 ∷ 0x00000000 ∷ 0x00000000 ∷ 0x00000000 ∷ 0x00000000 ∷ 0x00000000 ∷ 0x00000000 ∷ 0x00000000 ∷
    0x00000000 ∷ 0x00000000 ∷ 0x00000000 ∷ 0x00000000 ∷ 0x00000000 ∷ 0x00000000 ∷ 0x00000000 ∷ 0x00000018 ∷
    0x61626380 ∷ 0x000f0000 ∷ 0x7da86405 ∷ 0x600003c6 ∷ 0x3e9d7b78 ∷ 0x0183fc00 ∷ 0x12dcbfdb ∷ 0xe2e2c38e ∷
    0xc8215c1a ∷ 0xb73679a2 ∷ 0xe5bc3909 ∷ 0x32663c5b ∷ 0x9d209d67 ∷ 0xec8726cb ∷ 0x702138a4 ∷ 0xd3b7973b ∷
    0x93f5997f ∷ 0x3b68ba73 ∷ 0xaff4ffc1 ∷ 0xf10a5c62 ∷ 0x0a8b3996 ∷ 0x72af830a ∷ 0x9409e33e ∷ 0x24641522 ∷
    0x9f47bf94 ∷ 0xf0a64f5a ∷ 0x3e246a79 ∷ 0x27333ba3 ∷ 0x0c4763f2 ∷ 0x840abf27 ∷ 0x7a290d5d ∷ 0x065c43da ∷
    0xfb3e89cb ∷ 0xcc7617db ∷ 0xb9e66c34 ∷ 0xa9993667 ∷ 0x84badedd ∷ 0xc21462bc ∷ 0x1487472c ∷ 0xb20f7a99 ∷
    0xef57b9cd ∷ 0xebe6b238 ∷ 0x9fe3095e ∷ 0x78bc8d4b ∷ 0xa43fcf15 ∷ 0x668b2ff8 ∷ 0xeeaba2cc ∷ 0x12b1edeb ∷ []

by_words : course (word_after example_block) 64 ≡ words
unfolding example_block word_after course words
by_words = refl

by_rounds : compress initial example_block ≡ add_state (rounds (λ t. get_or words t 0) initial 64) initial
unfolding compress
by_rounds = ap (λ (s : State). add_state s initial) (rounds_from example_block words by_words initial 64 (omega arith))

pub hashed : ExampleHashes
unfolding constants words round rounds add_state
hashed = by_rounds
