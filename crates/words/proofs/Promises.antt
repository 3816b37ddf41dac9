-- What the block steps and the layers above may use of the shared definitions. Assumes nothing.
use Rattle.std.proofs.Common.{◌≡◌, ℕ, ◌+◌, ◌-◌, ◌*◌, ◌/◌, ◌%◌, ◌^◌, ◌<◌, ◌≤◌, List, ◌++◌, length, drop, sym, ap, ◌∙◌, arith, eq-eqb, ne_eqb, le-leb}
use lib.Bits.{bit_or, or_comm}
use lib.ListN.{get_or-append}
use borrow.Author.Tests.{lt-leb}
use Rattle.octets.specs.Answer.{done, refused}
use Rattle.words.specs.declared.State.{State}
use Rattle.words.specs.declared.Stepped.TheVariants.{Done, Refused}
use Rattle.words.specs.Words.{word_from}
use Rattle.words.specs.Known.{Known, listed, loaded}
use Rattle.words.specs.Answers.{Compression, Scheduling, step_number, step_answer, step_schedule, fits, value_after, schedule_after}
use Rattle.words.specs.Claims.{RotationsAgree, LoadedIsKnown, EveryStep, StepLosesNothing}
use Rattle.words.proofs.Growing.{listed_length, listed_at}

-- ---- rotations
pub rotations_agree : RotationsAgree
rotations_agree n x h =
    let e : 32 - (32 - n) ≡ n = omega arith in
    ap (λ (k : ℕ). bit_or (x * 2 ^ (32 - n) % 2 ^ 32) (x / 2 ^ k)) e ∙ or_comm (x * 2 ^ (32 - n) % 2 ^ 32) (x / 2 ^ n)

-- ---- the words of a block in lent memory
module _ (m w : List ℕ) (p : ℕ) where
  pub load_done : p + 64 ≤ length m → 16 ≤ length w → listed (word_from m p) 16 ++ drop 16 w ≡ loaded m p w
  unfolding loaded
  load_done h k = let e = le-leb (p + 64) (length m) h in let f = le-leb 16 (length w) k in simp (e, f)

  pub load_short : length m < p + 64 → w ≡ loaded m p w
  unfolding loaded
  load_short h = let e = lt-leb (p + 64) (length m) h in simp e

  pub load_narrow : p + 64 ≤ length m → length w < 16 → w ≡ loaded m p w
  unfolding loaded
  load_narrow h k = let e = le-leb (p + 64) (length m) h in let f = lt-leb 16 (length w) k in simp (e, f)

pub loaded_known : LoadedIsKnown
loaded_known m w p h k =
    let f = word_from m p in
    rw (sym (load_done m w p h k))
    (λ j l. get_or-append (listed f 16) (drop 16 w) 0 j (rw (listed_length f 16) l) ∙ listed_at f 16 j l)

-- in a list that `load` left
pub after_load : (m w v : List ℕ) (p : ℕ) → v ≡ loaded m p w → p + 64 ≤ length m → 16 ≤ length w → Known v (word_from m p) 16
after_load m w v p e h k = rw e (loaded_known m w p h k)

-- ---- a block step
module _ (n : ℕ) (C : Compression) (S : Scheduling) where
  -- a block and a schedule that fit are taken
  pub block_taken : (s : State) (m w : List ℕ) (p : ℕ) → p + 64 ≤ length m → length w ≡ n
      → (C s (word_from m p) ≡ value_after n C s m p w) × (S (word_from m p) ≡ schedule_after n S m p w)
  unfolding fits value_after schedule_after
  block_taken s m w p h k = let e = le-leb (p + 64) (length m) h in let f = eq-eqb (length w) n k in (simp (e, f), simp (e, f))

  pub step_done : (m w : List ℕ) → length m ≡ 64 → length w ≡ n
      → (s : State) → (done (C s (word_from m 0)) ≡ step_answer n C s m w) × (S (word_from m 0) ≡ step_schedule n S m w)
  unfolding step_number step_answer step_schedule
  step_done m w h k s = let e = eq-eqb (length m) 64 h in let f = eq-eqb (length w) n k in (simp (e, f), simp (e, f))

  -- a step by itself, through the step at byte 0
  pub step_by : (s r : State) (m w v : List ℕ) → length m ≡ 64 → length w ≡ n → r ≡ value_after n C s m 0 w → v ≡ schedule_after n S m 0 w
      → (done r ≡ step_answer n C s m w) × (v ≡ step_schedule n S m w)
  step_by s r m w v h k e f =
      let t = block_taken s m w 0 (omega (arith, h)) k in
      let d = step_done m w h k s in
      (ap done (e ∙ sym t.0) ∙ d.0, f ∙ sym t.1 ∙ d.1)

  -- of any other nothing is taken
  module _ (s : State) (m w : List ℕ) where
    pub step_5 : (length m ≡ 64 → ⊥) → (refused 5 ≡ step_answer n C s m w) × (w ≡ step_schedule n S m w)
    unfolding step_number step_answer step_schedule
    step_5 h = let e = ne_eqb (length m) 64 h in (simp e, simp e)

    pub step_9 : length m ≡ 64 → (length w ≡ n → ⊥) → (refused 9 ≡ step_answer n C s m w) × (w ≡ step_schedule n S m w)
    unfolding step_number step_answer step_schedule
    step_9 h k = let e = eq-eqb (length m) 64 h in let f = ne_eqb (length w) n k in (simp (e, f), simp (e, f))

    pub block_short : (p : ℕ) → length m < p + 64 → (s ≡ value_after n C s m p w) × (w ≡ schedule_after n S m p w)
    unfolding fits value_after schedule_after
    block_short p h = let e = lt-leb (p + 64) (length m) h in (simp e, simp e)

    pub block_unscheduled : (p : ℕ) → p + 64 ≤ length m → (length w ≡ n → ⊥) → (s ≡ value_after n C s m p w) × (w ≡ schedule_after n S m p w)
    unfolding fits value_after schedule_after
    block_unscheduled p h k = let e = le-leb (p + 64) (length m) h in let f = ne_eqb (length w) n k in (simp (e, f), simp (e, f))

pub every_step : EveryStep
every_step n C S =
    record {
      taken = step_done n C S;
      taken_at = block_taken n C S;
      refused = λ s m w. record { block = step_5 n C S s m w; schedule = step_9 n C S s m w };
      not_taken = λ s m w p. record { block = block_short n C S s m w p; schedule = block_unscheduled n C S s m w p };
    }

-- ---- what the cases of the answer report loses nothing
pub stepping_faithful : StepLosesNothing
stepping_faithful (Done s) (Done t) e = let f : s ≡ t = cc in ap Done f
stepping_faithful (Done s) (Refused y) e = absurd (let z : ◌≡◌ {A = ℕ} 0 1 = cc in omega arith)
stepping_faithful (Refused x) (Done t) e = absurd (let z : ◌≡◌ {A = ℕ} 0 1 = cc in omega arith)
stepping_faithful (Refused x) (Refused y) e = let f : x ≡ y = cc in ap Refused f
