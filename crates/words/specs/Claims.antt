-- What is claimed of words, and of every block step beside its contracts: proved in proofs/Promises.antt. Assumes nothing: these are statements.
use Rattle.std.specs.Prelude.{◌≡◌, ℕ, ◌+◌, ◌-◌, ◌<◌, ◌≤◌, List, length, ◌≢◌}
use Rattle.octets.specs.Answer.{done, refused, Faithful}
use Rattle.words.specs.declared.State.{State}
use Rattle.words.specs.Words.{rotl, rotr, word_from}
use Rattle.words.specs.Known.{Known, loaded}
use Rattle.words.specs.Answers.{Compression, Scheduling, stepping, step_answer, step_schedule, value_after, schedule_after}

-- a rotation to the left is one to the right by the rest of 32 places
abbrev pub RotationsAgree : Type 0
RotationsAgree = (n x : ℕ) → n ≤ 32 → rotl (32 - n) x ≡ rotr n x

-- where there are 64 bytes and sixteen words, the first words are the block's
abbrev pub LoadedIsKnown : Type 0
LoadedIsKnown = (m w : List ℕ) (p : ℕ) → p + 64 ≤ length m → 16 ≤ length w → Known (loaded m p w) (word_from m p) 16

-- a block of 64 bytes and a schedule of n words are taken
abbrev pub BlockIsTaken : ℕ → Compression → Scheduling → Type 0
BlockIsTaken n C S =
    (m w : List ℕ) → length m ≡ 64 → length w ≡ n → (s : State) →
    (done (C s (word_from m 0)) ≡ step_answer n C s m w) × (S (word_from m 0) ≡ step_schedule n S m w)

-- and so is the block at byte p of a message
abbrev pub BlockAtIsTaken : ℕ → Compression → Scheduling → Type 0
BlockAtIsTaken n C S =
    (s : State) (m w : List ℕ) (p : ℕ) → p + 64 ≤ length m → length w ≡ n →
    (C s (word_from m p) ≡ value_after n C s m p w) × (S (word_from m p) ≡ schedule_after n S m p w)

-- of any other block or schedule nothing is taken: 5 for the block, and after it 9 for the schedule
pub record OtherIsRefused (n : ℕ) (C : Compression) (S : Scheduling) (s : State) (m w : List ℕ) : Type 0 where
  pub block : (length m ≢ 64) → (refused 5 ≡ step_answer n C s m w) × (w ≡ step_schedule n S m w)
  pub schedule : length m ≡ 64 → (length w ≢ n) → (refused 9 ≡ step_answer n C s m w) × (w ≡ step_schedule n S m w)

pub record OtherAtIsNotTaken (n : ℕ) (C : Compression) (S : Scheduling) (s : State) (m w : List ℕ) (p : ℕ) : Type 0 where
  pub block : length m < p + 64 → (s ≡ value_after n C s m p w) × (w ≡ schedule_after n S m p w)
  pub schedule : p + 64 ≤ length m → (length w ≢ n) → (s ≡ value_after n C s m p w) × (w ≡ schedule_after n S m p w)

-- of every block step
pub record Steps (n : ℕ) (C : Compression) (S : Scheduling) : Type 0 where
  pub taken : BlockIsTaken n C S
  pub taken_at : BlockAtIsTaken n C S
  pub refused : (s : State) (m w : List ℕ) → OtherIsRefused n C S s m w
  pub not_taken : (s : State) (m w : List ℕ) (p : ℕ) → OtherAtIsNotTaken n C S s m w p

abbrev pub EveryStep : Type 0
EveryStep = (n : ℕ) (C : Compression) (S : Scheduling) → Steps n C S

-- what is said of the cases of the enum loses nothing
abbrev pub StepLosesNothing : Type 0
StepLosesNothing = Faithful stepping
