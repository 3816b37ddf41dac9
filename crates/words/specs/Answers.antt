-- What a block step answers, by the numbers of the table of refusals, and what it leaves in the lent schedule, once for every hash function over eight
-- words: n is how many words its schedule has, `C` its compression function, `S` the schedule of a block. Assumes nothing: these are definitions.
use Rattle.std.specs.Prelude.{ℕ, ◌+◌, Bool, false, cond, List, length, ◌==◌, nat_le}
use Rattle.octets.specs.Answer.{Answer, done, refused}
use Rattle.words.specs.declared.State.{State}
use Rattle.words.specs.declared.Stepped.{Stepped}
use Rattle.words.specs.declared.Stepped.TheVariants.{Done, Refused}
use Rattle.words.specs.Words.{word_from}

-- a block is a function that gives its sixteen words
abbrev pub Compression : Type 0
Compression = State → (ℕ → ℕ) → State

abbrev pub Scheduling : Type 0
Scheduling = (ℕ → ℕ) → List ℕ

-- ---- a block by itself

-- 5: the block is not 64 bytes; 9: the schedule is not n words
unfoldable pub step_number : ℕ → List ℕ → List ℕ → ℕ
step_number n m w = cond (length m == 64) (cond (length w == n) 0 9) 5

-- what each case of the enum answers
abbrev pub stepping : Stepped → Answer State
stepping (Done s) = done s
stepping (Refused n) = refused n

-- what is answered: the hash value after the block, or the number
unfoldable pub step_answer : ℕ → Compression → State → List ℕ → List ℕ → Answer State
step_answer n C s m w = let k = step_number n m w in cond (k == 0) (done (C s (word_from m 0))) (refused k)

-- the schedule after it: the block's, or as it was
unfoldable pub step_schedule : ℕ → Scheduling → List ℕ → List ℕ → List ℕ
step_schedule n S m w = cond (step_number n m w == 0) (S (word_from m 0)) w

-- ---- the block that starts at byte p of a message

-- m has 64 bytes from p on, and the schedule n words
unfoldable pub fits : ℕ → List ℕ → ℕ → List ℕ → Bool
fits n m p w = cond (nat_le (p + 64) (length m)) (length w == n) false

-- the hash value after the block, or as it was
unfoldable pub value_after : ℕ → Compression → State → List ℕ → ℕ → List ℕ → State
value_after n C s m p w = cond (fits n m p w) (C s (word_from m p)) s

-- the schedule after it: the block's, or as it was
unfoldable pub schedule_after : ℕ → Scheduling → List ℕ → ℕ → List ℕ → List ℕ
schedule_after n S m p w = cond (fits n m p w) (S (word_from m p)) w
