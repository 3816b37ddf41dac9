-- How far a block step has come: what the private functions of every block step say of each other. No public contract cites this file. Of a step, `R x s t`
-- is the hash value after t rounds from s over block x, and `E w x n` says that w has n words made of x. Assumes nothing.
use Rattle.std.specs.Prelude.{◌≡◌, ℕ, ◌+◌, List}
use Rattle.words.specs.declared.State.{State}

-- whatever block w had n words of, w' has one more of
abbrev pub Longer : (List ℕ → (ℕ → ℕ) → ℕ → Type 0) → List ℕ → ℕ → List ℕ → Type 0
Longer E w n w' = (x : ℕ → ℕ) → E w x n → E w' x (n + 1)

-- whatever the block x and the hash value s before it: where v is after t rounds and w has n words, v' is after t' rounds and w' has n' words
abbrev pub Goes : ((ℕ → ℕ) → State → ℕ → State) → (List ℕ → (ℕ → ℕ) → ℕ → Type 0) → State → List ℕ → ℕ → ℕ → State → List ℕ → ℕ → ℕ → Type 0
Goes R E v w t n v' w' t' n' = (x : ℕ → ℕ) (s : State) → v ≡ R x s t → E w x n → (v' ≡ R x s t') × E w' x n'
