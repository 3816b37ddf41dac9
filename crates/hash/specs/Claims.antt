-- What is claimed of the hashes beside the contracts, and all that the layers above see of their values: proved in proofs/Promises.antt.
-- Assumes nothing: these are statements.
use Rattle.std.specs.Prelude.{◌≡◌, List, ℕ, ◌<◌, length, get_or}
use Rattle.hash.specs.declared.Algorithm.{Algorithm}
use Rattle.hash.specs.declared.Algorithm.TheVariants.{Sha256, Sm3}
use Rattle.hash.specs.declared.Named.TheVariants.{By, Unknown}
use Rattle.hash.specs.Algorithm.{number_of, algorithm_of, held_by}
use Rattle.hash.specs.Digest.{hash_of, sha256, sm3, by_number}

-- every value has 32 bytes
abbrev pub Has32 : Type 0
Has32 = (a : Algorithm) (m : List ℕ) → length (hash_of a m) ≡ 32

-- and they are bytes
abbrev pub AreBytes : Type 0
AreBytes = (a : Algorithm) (m : List ℕ) (i : ℕ) → get_or (hash_of a m) i 0 < 256

-- 0x00 is SHA-256, 0xF0 is SM3, and no other number names a hash, however wide it is
pub record OneNumberEach : Type 0 where
  pub first : algorithm_of 0x00 ≡ By Sha256
  pub second : algorithm_of 0xF0 ≡ By Sm3
  pub no_other : (n : ℕ) → (n ≡ 0x00 → ⊥) → (n ≡ 0xF0 → ⊥) → algorithm_of n ≡ Unknown
  -- each has one number, and that number names it
  pub of_number : (a : Algorithm) → algorithm_of (number_of a) ≡ By a
  pub one_number : (n : ℕ) (a : Algorithm) → algorithm_of n ≡ By a → n ≡ number_of a

-- where a number is held, it alone can name a hash, and names what it names by itself
pub record HeldAlone : Type 0 where
  pub itself : (n : ℕ) → held_by n n ≡ algorithm_of n
  pub another : (held n : ℕ) → (n ≡ held → ⊥) → held_by held n ≡ Unknown

-- what is answered by a number, of whatever kind the answer is
pub record AnsweredBy (A : Type 0) : Type 0 where
  pub by_sha256 : (refusal : A) (answer : (List ℕ → List ℕ) → A) → by_number 0x00 refusal answer ≡ answer sha256
  pub by_sm3 : (refusal : A) (answer : (List ℕ → List ℕ) → A) → by_number 0xF0 refusal answer ≡ answer sm3
  pub by_no_other :
      (n : ℕ) → (n ≡ 0x00 → ⊥) → (n ≡ 0xF0 → ⊥) → (refusal : A) (answer : (List ℕ → List ℕ) → A) → by_number n refusal answer ≡ refusal

-- of a number and of bytes
abbrev pub AnsweredBoth : Type 0
AnsweredBoth = AnsweredBy ℕ × AnsweredBy (List ℕ)
