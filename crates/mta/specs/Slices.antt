-- Hashes and hash values that C hands over as slices. Assumes nothing.
use Rattle.std.specs.Prelude.{cond, List, [], ◌∷◌, ◌++◌, ℕ, eqb, ltb, length, drop, get_or}
use Rattle.words.specs.declared.State.{State}
use Rattle.words.specs.Words.{word_from}
use Rattle.words.specs.Answers.{Compression, Scheduling, step_number}

-- ---- a node hash by the hash H: 5 where a part is not 32 bytes, 9 where out has fewer than 32

unfoldable pub node_number : List ℕ → List ℕ → List ℕ → ℕ
node_number l r out = cond (eqb (length l) 32) (cond (eqb (length r) 32) (cond (ltb (length out) 32) 9 0) 5) 5

unfoldable pub node_bytes : (List ℕ → List ℕ) → List ℕ → List ℕ → List ℕ → List ℕ
node_bytes H l r out = cond (eqb (node_number l r out) 0) (H (1 ∷ (l ++ r)) ++ drop 32 out) out

-- ---- a block step on a hash value of eight words in memory: the block step's own refusals, then 9 where it is not eight words. n is how many words
-- the schedule has, `C` the compression function, `S` the schedule of a block.

abbrev pub state_of : List ℕ → State
state_of l =
    record {
      a = get_or l 0 0;
      b = get_or l 1 0;
      c = get_or l 2 0;
      d = get_or l 3 0;
      e = get_or l 4 0;
      f = get_or l 5 0;
      g = get_or l 6 0;
      h = get_or l 7 0;
    }

abbrev pub words_of : State → List ℕ
words_of s = s.a ∷ s.b ∷ s.c ∷ s.d ∷ s.e ∷ s.f ∷ s.g ∷ s.h ∷ []

unfoldable pub words_number : ℕ → List ℕ → List ℕ → List ℕ → ℕ
words_number n l m w = cond (eqb (step_number n m w) 0) (cond (eqb (length l) 8) 0 9) (step_number n m w)

unfoldable pub words_after : ℕ → Compression → List ℕ → List ℕ → List ℕ → List ℕ
words_after n C l m w = cond (eqb (words_number n l m w) 0) (words_of (C (state_of l) (word_from m 0))) l

unfoldable pub words_schedule : ℕ → Scheduling → List ℕ → List ℕ → List ℕ → List ℕ
words_schedule n S l m w = cond (eqb (words_number n l m w) 0) (S (word_from m 0)) w
