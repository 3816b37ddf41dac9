-- What the private functions of the block step say of each other. No public contract cites this file. Assumes nothing.
use Rattle.std.specs.Prelude.{◌≡◌, List, ℕ, ◌+◌, ◌-◌, ◌<◌, get_or}
use Rattle.words.specs.declared.State.{State}
use Rattle.words.specs.Known.{Known}
use Rattle.sm3.specs.Sm3.{parity, majority, choose, turned, word, pair, rounds}

-- w has the words of x below n, and those of W' below m
abbrev pub Paired : List ℕ → (ℕ → ℕ) → ℕ → ℕ → Type 0
Paired w x n m = Known w (word x) n × ((j : ℕ) → j < m → get_or w (j + 68) 0 ≡ pair x j)

-- w has the words of x below n, and of W' those that are made of these
abbrev pub Expanded : List ℕ → (ℕ → ℕ) → ℕ → Type 0
Expanded w x n = Paired w x n (n - 4)

-- of a block whose sixteen words w had
abbrev pub Pairs : List ℕ → List ℕ → Type 0
Pairs w w' = (x : ℕ → ℕ) → Known w x 16 → Expanded w' x 16

-- a round below 16, and one from there on
unfoldable pub early : State → ℕ → ℕ → ℕ → State
early s k w v = turned s (parity s.a s.b s.c) (parity s.e s.f s.g) k w v

unfoldable pub late : State → ℕ → ℕ → ℕ → State
late s k w v = turned s (majority s.a s.b s.c) (choose s.e s.f s.g) k w v

-- a round of one kind with what stands at j
abbrev pub round_at : (State → ℕ → ℕ → ℕ → State) → List ℕ → List ℕ → State → ℕ → State
round_at r k w s j = r s (get_or k j 0) (get_or w j 0) (get_or w (j + 68) 0)

-- the hash value after t rounds over a block
abbrev pub rounds_over : (ℕ → ℕ) → State → ℕ → State
rounds_over x s t = rounds (word x) (pair x) s t
