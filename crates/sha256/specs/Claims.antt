-- What is claimed of the block step beside its contracts and what the crate words claims of every step: proved in proofs/Promises and proofs/Example. Assumes
-- nothing: these are statements.
use Rattle.std.specs.Prelude.{◌≡◌, [], ◌∷◌, ℕ, ◌<◌, get_or}
use Rattle.words.specs.declared.State.{State}
use Rattle.sha256.specs.Sha256.{initial, compress}

-- the block step goes by a block's sixteen words alone
abbrev pub BySixteenWords : Type 0
BySixteenWords = (x y : ℕ → ℕ) → ((t : ℕ) → t < 16 → x t ≡ y t) → (s : State) → compress s x ≡ compress s y

-- the published example of one block, `abc` (FIPS 180-2, appendix B.1): the message after padding, and its digest
unfoldable pub example_block : ℕ → ℕ
example_block t = get_or (0x61626380 ∷ 0 ∷ 0 ∷ 0 ∷ 0 ∷ 0 ∷ 0 ∷ 0 ∷ 0 ∷ 0 ∷ 0 ∷ 0 ∷ 0 ∷ 0 ∷ 0 ∷ 0x18 ∷ []) t 0

abbrev pub ExampleHashes : Type 0
ExampleHashes =
    compress initial example_block ≡
    record {
      a = 0xba7816bf;
      b = 0x8f01cfea;
      c = 0x414140de;
      d = 0x5dae2223;
      e = 0xb00361a3;
      f = 0x96177a9c;
      g = 0xb410ff61;
      h = 0xf20015ad;
    }
