-- The message schedule and the rounds: section 6.2.2's equations, and how the code comes by them, a word and a round at a time. Assumes nothing.
use mathlib.Core.Path.{◌≡◌, refl, sym, ◌∙◌}
use mathlib.Core.List.{List}
use Prim.Native.Nat.{ℕ, ◌+◌, ◌-◌, ◌<◌}
use native.Mathlib.Numerals.{add-one}
use native.Mathlib.Omega.{arith}
use lib.ListN.{length, get_or, set}
use lib.Seq.{ext_get_or}
use borrow.Author.Tests.{lt-ltb, le-ltb}
use Rattle.words.specs.declared.State.{State}
use Rattle.words.specs.Known.{Known, course, value}
use Rattle.words.specs.Going.{Longer}
use Rattle.words.proofs.Growing.{grow, course_length, course_at}
use Rattle.sha256.specs.Sha256.{constants, next_word, word_after, schedule, word, rounds}
use Rattle.sha256.specs.Inner.{Scheduled, round_at, rounds_over}

-- ---- the schedule as a list, and word by word

word_at : (x : ℕ → ℕ) (n : ℕ) → Known (course (word_after x) n) (word x) n
unfolding word
word_at x n = course_at (word_after x) n

pub whole : (w : List ℕ) (x : ℕ → ℕ) → length w ≡ 64 → Scheduled w x 64 → w ≡ schedule x
unfolding schedule
whole w x l k =
    let s = course (word_after x) 64 in
    ext_get_or 0 w s (l ∙ sym (course_length (word_after x) 64)) (λ i h. let m : i < 64 = omega (arith, l) in k i m ∙ sym (word_at x 64 i m))

-- ---- 6.2.2, step 1, as the document has it

pub word_first : (x : ℕ → ℕ) (t : ℕ) → t < 16 → word x t ≡ x t
unfolding word value word_after
word_first x t l = rw (lt-ltb _ _ l)

word_late : (x : ℕ → ℕ) (t : ℕ) → 15 < t → (ws : List ℕ)
    → word_after x ws t ≡ next_word (get_or ws (t - 2) 0) (get_or ws (t - 7) 0) (get_or ws (t - 15) 0) (get_or ws (t - 16) 0)
unfolding word_after
word_late x t l ws = rw (le-ltb _ _ l)

word_is : (x : ℕ → ℕ) (t : ℕ) → word x t ≡ word_after x (course (word_after x) t) t
unfolding word value
word_is x t = refl

pub word_later : (x : ℕ → ℕ) (t : ℕ) → 15 < t → word x t ≡ next_word (word x (t - 2)) (word x (t - 7)) (word x (t - 15)) (word x (t - 16))
word_later x t l =
    word_is x t ∙ word_late x t l (course (word_after x) t) ∙
    rw (word_at x t (t - 2) (omega arith), word_at x t (t - 7) (omega arith), word_at x t (t - 15) (omega arith), word_at x t (t - 16) (omega arith))

-- one word more
pub scheduled_more : (w : List ℕ) (u v : ℕ) → 15 < u → u < length w
    → v ≡ next_word (get_or w (u - 2) 0) (get_or w (u - 7) 0) (get_or w (u - 15) 0) (get_or w (u - 16) 0) → Longer Scheduled w u (set w u v)
scheduled_more w u v h l e x k =
    grow w (word x) u v l k
    (e ∙ rw (k (u - 2) (omega arith), k (u - 7) (omega arith), k (u - 15) (omega arith), k (u - 16) (omega arith)) (sym (word_later x u h)))

-- ---- a round more, where w has its word
pub round_more : (k w : List ℕ) (n t : ℕ) (v r : State) → r ≡ round_at k w v t → k ≡ constants → t < n → (x : ℕ → ℕ) (s : State) → v ≡ rounds_over x s t → Scheduled w x n
    → r ≡ rounds_over x s (t + 1)
unfolding rounds
round_more k w n t v r f c h x s e g = f ∙ rw (c, add-one t, e, g t h)
