-- What is claimed of the block step beside its contracts and what the crate words claims of every step: proved in proofs/Promises and proofs/Example.
-- Assumes nothing: these are statements.
use Rattle.std.specs.Prelude.{◌≡◌, ◌++◌, ℕ, ◌<◌}
use Rattle.words.specs.declared.State.{State}
use Rattle.sm3.specs.Sm3.{initial, schedule, compress}
use Rattle.sm3.specs.Example.{block, words, pairs, hashed}

-- the block step goes by a block's sixteen words alone
abbrev pub BySixteenWords : Type 0
BySixteenWords = (x y : ℕ → ℕ) → ((j : ℕ) → j < 16 → x j ≡ y j) → (s : State) → compress s x ≡ compress s y

-- the standard's example, by these definitions: the 132 words of its block, and its digest
abbrev pub ExampleExpands : Type 0
ExampleExpands = schedule block ≡ words ++ pairs

abbrev pub ExampleHashes : Type 0
ExampleHashes = compress initial block ≡ hashed
