-- What the private functions of the block step say of each other. No public contract cites this file. Assumes nothing.
use Rattle.std.specs.Prelude.{List, ℕ, get_or}
use Rattle.words.specs.declared.State.{State}
use Rattle.words.specs.Known.{Known}
use Rattle.sha256.specs.Sha256.{word, round, rounds}

-- w has the words below n of the schedule of x
abbrev pub Scheduled : List ℕ → (ℕ → ℕ) → ℕ → Type 0
Scheduled w x n = Known w (word x) n

-- a round with what stands at t
abbrev pub round_at : List ℕ → List ℕ → State → ℕ → State
round_at k w s t = round s (get_or k t 0) (get_or w t 0)

-- the hash value after t rounds over a block
abbrev pub rounds_over : (ℕ → ℕ) → State → ℕ → State
rounds_over x s t = rounds (word x) s t
