-- The hashes and their numbers: 0x00 is SHA-256 (RFC 9162, section 10.2.1), 0xF0, of the range for private use, is SM3 (document 02, request 7). Both pad a
-- message alike; of each its first hash value, its block step, and how many words the step's schedule has. Assumes nothing: these are definitions.
use Rattle.std.specs.Prelude.{cond, ℕ, eqb}
use Rattle.words.specs.declared.State.{State}
use Rattle.sha256.specs.Sha256 as sha
use Rattle.sm3.specs.Sm3 as sm
use Rattle.hash.specs.declared.Algorithm.{Algorithm}
use Rattle.hash.specs.declared.Algorithm.TheVariants.{Sha256, Sm3}
use Rattle.hash.specs.declared.Named.{Named}
use Rattle.hash.specs.declared.Named.TheVariants.{By, Unknown}

unfoldable pub number_of : Algorithm → ℕ
number_of Sha256 = 0x00
number_of Sm3 = 0xF0

-- the algorithm that has a number, or that none has it
unfoldable pub algorithm_of : ℕ → Named
algorithm_of n = cond (eqb n 0x00) (By Sha256) (cond (eqb n 0xF0) (By Sm3) Unknown)

-- the same where the number `held` is held already: another one names nothing
unfoldable pub held_by : ℕ → ℕ → Named
held_by held n = cond (eqb n held) (algorithm_of n) Unknown

unfoldable pub start_of : Algorithm → State
start_of Sha256 = sha.initial
start_of Sm3 = sm.initial

unfoldable pub step_of : Algorithm → State → (ℕ → ℕ) → State
step_of Sha256 = sha.compress
step_of Sm3 = sm.compress

unfoldable pub words_of : Algorithm → ℕ
words_of Sha256 = 64
words_of Sm3 = 132
